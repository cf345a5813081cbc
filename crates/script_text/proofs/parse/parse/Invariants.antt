use Rattle.std.proofs.Common.{◌≡◌, ◌≤◌, length}
use Rattle.text_words.specs.Lines.{rows_of}
use Rattle.script_text.specs.Reading.{lines_at, script_at}
use Rattle.script_text.proofs.parse.parse.Given as goal

-- the script so far, read on with what is left, gives the whole
abbrev pub invariant-loop-rest : goal.invariant-loop-rest
invariant-loop-rest l = record { whole : lines_at l.script l.number (rows_of l.rest) ≡ script_at l.fn.text; clients : length l.script.clients ≤ 16; lines : l.number ≤ 2097153 }

abbrev pub decreases-loop-rest : goal.decreases-loop-rest
decreases-loop-rest l = length l.rest
