use Rattle.std.proofs.Common.{length}
use Rattle.text_words.specs.Lines.{rows_of}
use Rattle.stack_text.specs.Reading.{stack_at}
use Rattle.stack_text.proofs.Loop.{GoesOn}
use Rattle.stack_text.proofs.read.read_lines.Given as goal

abbrev pub invariant-loop-rest : goal.invariant-loop-rest
invariant-loop-rest l = GoesOn (stack_at l.text) l.lines.items (rows_of l.rest)

abbrev pub decreases-loop-rest : goal.decreases-loop-rest
decreases-loop-rest l = length l.rest
