use Rattle.std.proofs.Common.{◌≡◌, ◌++◌, drop, map}
use Rattle.std.specs.Fmt.{decimal}
use Rattle.text_words.specs.Lines.{spaced}
use Rattle.script_text.proofs.print.put_numbers.Given as goal

-- what is written, and what is left to write
abbrev pub invariant-loop-number : goal.invariant-loop-number
invariant-loop-number l = l.out.items ++ spaced (map decimal (drop l.number-index l.numbers)) ≡ l.fn.out.items ++ spaced (map decimal l.numbers)
