use Rattle.std.proofs.Common.{◌≡◌, ◌++◌, ◌∷◌, drop}
use Rattle.std.specs.List.{flat_map}
use Rattle.text_words.proofs.print.put_parts.Given as goal

-- what is written, and what is left to write
abbrev pub invariant-loop-part : goal.invariant-loop-part
invariant-loop-part l = l.out.items ++ flat_map (λ part. 47 ∷ part) (drop l.part-index l.parts) ≡ l.fn.out.items ++ flat_map (λ part. 47 ∷ part) l.parts
