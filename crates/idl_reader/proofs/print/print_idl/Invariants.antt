use Rattle.std.proofs.Common.{◌≡◌, ◌++◌, drop, map}
use Rattle.idl_reader.specs.Spelling.{spelling}
use Rattle.idl_reader.specs.Tree.{decl_tree, idl_tree}
use Rattle.idl_reader.proofs.print.print_idl.Given as goal

abbrev pub invariant-loop-decl : goal.invariant-loop-decl
invariant-loop-decl l = l.out.items ++ spelling (map (λ d. decl_tree d) (drop l.decl-index l.decl-items)) ≡ spelling (idl_tree l.idl)
