use Rattle.std.proofs.Common.{◌≡◌, take, drop}
use Rattle.stack_accept.specs.Rules.{breach_after, first_breach}
use Rattle.stack_accept.proofs.rule.check.Given as goal

abbrev pub invariant-loop-index : goal.invariant-loop-index
invariant-loop-index l = first_breach l.lines ≡ breach_after (take l.index l.lines) (drop l.index l.lines)
