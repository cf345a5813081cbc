use Rattle.std.proofs.Common.{◌≡◌, drop, map}
use Rattle.idl_reader.specs.Tree.{decl_tree}
use Rattle.idl_check.specs.Verdict.{first_failing, declares_interface}
use Rattle.idl_check.proofs.verdict.first_other.Given as goal

abbrev pub invariant-loop-word : goal.invariant-loop-word
invariant-loop-word l = first_failing (λ word. declares_interface (map (λ d. decl_tree d) l.decls) word) (map (λ word. word.now) (drop l.word-index l.words)) ≡ first_failing (λ word. declares_interface (map (λ d. decl_tree d) l.decls) word) (map (λ word. word.now) l.words)
