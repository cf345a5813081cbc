use Rattle.std.proofs.Common.{◌≡◌, ◌++◌, ℕ, List, length}
use Rattle.spr_report.specs.Writing.{with_text}
use Rattle.spr_report.proofs.writing.write_all.Given as goal

-- what was written and what is left to write are the whole
abbrev pub invariant-loop-rest : goal.invariant-loop-rest
invariant-loop-rest g l = (part : List ℕ) × (part ++ l.rest ≡ l.bytes) × (g.K.Sink.told l.sink ≡ with_text (g.K.Sink.told l.fn.sink) part)

abbrev pub decreases-loop-rest : goal.decreases-loop-rest
decreases-loop-rest g l = length l.rest
