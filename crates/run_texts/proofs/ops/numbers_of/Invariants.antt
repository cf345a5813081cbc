use Rattle.std.proofs.Common.{◌≡◌, length}
use Rattle.run_texts.proofs.SoFar.{SoFar}
use Rattle.run_texts.proofs.ops.numbers_of.Given as goal

-- the operations so far have these numbers
abbrev pub invariant-loop-place : goal.invariant-loop-place
invariant-loop-place g l = (length l.numbers ≡ length l.operations) × SoFar l.tables l.operations l.numbers l.place
