use Rattle.std.proofs.Common.{◌≡◌, ◌++◌, drop, map}
use Rattle.idl_check.proofs.names.put_words.Given as goal

abbrev pub invariant-loop-word : goal.invariant-loop-word
invariant-loop-word l = map (λ word. word.now) l.out.items ++ (drop l.word-index l.words) ≡ map (λ word. word.now) l.fn.out.items ++ l.words
