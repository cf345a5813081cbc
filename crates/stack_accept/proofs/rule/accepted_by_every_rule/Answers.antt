use Rattle.std.proofs.Common.{[]}
use Rattle.stack_accept.proofs.Kept.{kept_after, none_after}
use Rattle.stack_accept.proofs.rule.accepted_by_every_rule.Goals as goal

pub returns : goal.returns
returns c lines = (kept_after [] lines, none_after [] lines)
