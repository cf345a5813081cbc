use Rattle.std.proofs.Common.{◌≡◌, ◌++◌, ◌∷◌, take, map}
use Rattle.std.specs.Fmt.{decimal}
use Rattle.text_words.specs.Lines.{spaced}
use Rattle.spr_report.proofs.event.put_numbers.Given as goal

abbrev pub invariant-loop-number : goal.invariant-loop-number
invariant-loop-number l = l.out.items ≡ l.fn.out.items ++ spaced (l.word ∷ map (λ n. decimal n) (take l.number-index l.numbers))
