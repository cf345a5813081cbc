use Rattle.std.proofs.Common.{◌≡◌, drop, map}
use Rattle.idl_reader.specs.Tree.{decl_tree}
use Rattle.marshal_value.specs.Decls.{find_kind}
use Rattle.marshal_value.proofs.find.find.Given as goal

abbrev pub invariant-loop-decl : goal.invariant-loop-decl
invariant-loop-decl l = find_kind (map (λ d. decl_tree d) (drop l.decl-index l.decls)) l.name ≡ find_kind (map (λ d. decl_tree d) l.decls) l.name
