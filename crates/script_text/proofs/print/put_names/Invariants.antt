use Rattle.std.proofs.Common.{◌≡◌, ◌++◌, ◌∷◌, drop, map}
use Rattle.text_words.specs.Lines.{spaced}
use Rattle.script_text.specs.Grammar.{verb_word}
use Rattle.script_text.proofs.print.put_names.Given as goal

-- what is written, and what is left to write
abbrev pub invariant-loop-name : goal.invariant-loop-name
invariant-loop-name l = l.out.items ++ spaced (map (λ name. name.now) (drop l.name-index l.names)) ≡ l.fn.out.items ++ spaced (verb_word l.fn.verb ∷ map (λ name. name.now) l.names)
