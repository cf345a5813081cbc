use Rattle.std.proofs.Common.{◌≡◌, ◌++◌, ◌∷◌, codes, drop}
use Rattle.text_words.specs.Lines.{spaced}
use Rattle.script_text.proofs.answer.put_names.Given as goal

-- what is written, and what is left to write
abbrev pub invariant-loop-name : goal.invariant-loop-name
invariant-loop-name l = l.out.items ++ spaced (drop l.name-index l.names) ≡ l.fn.out.items ++ spaced (codes "names" ∷ l.names)
