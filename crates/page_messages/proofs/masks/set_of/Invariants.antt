use Rattle.std.proofs.Common.{ℕ}
use Rattle.std.specs.Prelude.{◌↔◌}
use Rattle.page_messages.specs.Masks.{IsIn, IsAmong}
use Rattle.page_messages.proofs.masks.set_of.Given as goal

abbrev pub invariant-loop-node : goal.invariant-loop-node
invariant-loop-node l = (node : ℕ) → IsIn l.mask node ↔ IsAmong l.nodes l.node-index node
