use Rattle.std.proofs.Common.{◌≡◌, drop, map}
use Rattle.idl_check.specs.Names.{has_name}
use Rattle.idl_check.specs.Verdict.{first_failing}
use Rattle.idl_check.proofs.verdict.not_among.Given as goal

abbrev pub invariant-loop-word : goal.invariant-loop-word
invariant-loop-word l = first_failing (λ word. has_name word.text (map (λ name. name.now) l.names)) (map (λ word. word.now) (drop l.word-index l.words)) ≡ first_failing (λ word. has_name word.text (map (λ name. name.now) l.names)) (map (λ word. word.now) l.words)
