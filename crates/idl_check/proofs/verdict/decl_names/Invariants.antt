use Rattle.std.proofs.Common.{◌≡◌, ◌++◌, drop, map}
use Rattle.idl_reader.specs.Tree.{decl_tree}
use Rattle.idl_check.specs.Names.{decl_name}
use Rattle.idl_check.proofs.verdict.decl_names.Given as goal

abbrev pub invariant-loop-decl : goal.invariant-loop-decl
invariant-loop-decl l = map (λ word. word.now) l.names.items ++ map (λ d. decl_name d) (map (λ d. decl_tree d) (drop l.decl-index l.decls)) ≡ map (λ d. decl_name d) (map (λ d. decl_tree d) l.decls)
