use Rattle.std.proofs.Common.{◌≡◌, ◌++◌, drop, map}
use Rattle.text_words.specs.Lines.{spaced}
use Rattle.text_words.proofs.print.put_spaced.Given as goal

-- what is written, and what is left to write
abbrev pub invariant-loop-word : goal.invariant-loop-word
invariant-loop-word l = l.out.items ++ spaced (map (λ word. word.now) (drop l.word-index l.words)) ≡ l.fn.out.items ++ spaced (map (λ word. word.now) l.words)
