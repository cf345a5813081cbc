use Rattle.std.proofs.Common.{◌≡◌, [], drop, map}
use Rattle.idl_check.specs.Verdict.{repeat_in}
use Rattle.idl_reader.specs.Tree.{decl_tree}
use Rattle.idl_check.proofs.repeats.repeat_in.Given as goal

abbrev pub invariant-loop-decl : goal.invariant-loop-decl
invariant-loop-decl l = repeat_in (map (λ word. word.now) l.before.items) (map (λ d. decl_tree d) (drop l.decl-index l.decls)) ≡ repeat_in [] (map (λ d. decl_tree d) l.decls)
