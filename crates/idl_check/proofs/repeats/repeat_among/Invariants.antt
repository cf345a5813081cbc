use Rattle.std.proofs.Common.{◌≡◌, [], drop, map}
use Rattle.idl_check.specs.Verdict.{repeat_among}
use Rattle.idl_check.proofs.repeats.repeat_among.Given as goal

abbrev pub invariant-loop-word : goal.invariant-loop-word
invariant-loop-word l = repeat_among (map (λ word. word.now) l.before.items) (map (λ word. word.now) (drop l.word-index l.words)) ≡ repeat_among [] (map (λ word. word.now) l.words)
