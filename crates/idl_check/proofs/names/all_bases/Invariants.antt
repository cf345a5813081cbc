use Rattle.std.proofs.Common.{◌≡◌, ◌++◌, drop, map}
use Rattle.std.specs.List.{flat_map}
use Rattle.idl_check.specs.Names.{bases_of}
use Rattle.idl_reader.specs.Tree.{decl_tree}
use Rattle.idl_check.proofs.names.all_bases.Given as goal

abbrev pub invariant-loop-decl : goal.invariant-loop-decl
invariant-loop-decl l = map (λ word. word.now) l.out.items ++ flat_map (λ d. bases_of d) (map (λ d. decl_tree d) (drop l.decl-index l.decls)) ≡ flat_map (λ d. bases_of d) (map (λ d. decl_tree d) l.decls)
