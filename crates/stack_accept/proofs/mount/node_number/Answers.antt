use Rattle.std.proofs.Common.{sym, ap, ◌∙◌}
use Rattle.std.specs.Prelude.{unwrap_or}
use Rattle.stack_accept.specs.Lines.{is_named}
use Rattle.stack_accept.proofs.Lists.{position_map}
use Rattle.stack_accept.proofs.mount.node_number.Goals as goal

pub returns-in-Some : goal.returns-in-Some
returns-in-Some c = ap (λ o. unwrap_or o 0) (c.in-Some.ensures.value ∙ sym (position_map (λ line. line.now) (λ line. is_named c.args.name.now line) c.args.nodes.now))

pub returns-in-None : goal.returns-in-None
returns-in-None c = ap (λ o. unwrap_or o 0) (c.in-None.ensures.value ∙ sym (position_map (λ line. line.now) (λ line. is_named c.args.name.now line) c.args.nodes.now))
