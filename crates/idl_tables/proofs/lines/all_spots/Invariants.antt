use Rattle.std.proofs.Common.{◌≡◌, ◌++◌, drop, map}
use Rattle.idl_reader.specs.Tree.{decl_tree}
use Rattle.idl_tables.specs.Lines.{base_spots}
use Rattle.idl_tables.proofs.lines.all_spots.Given as goal

abbrev pub invariant-loop-decl : goal.invariant-loop-decl
invariant-loop-decl l = map (λ s. s.items) l.spots.items ++ map (λ d. base_spots (map (λ d. decl_tree d) l.decls) d) (map (λ d. decl_tree d) (drop l.decl-index l.decls)) ≡ map (λ d. base_spots (map (λ d. decl_tree d) l.decls) d) (map (λ d. decl_tree d) l.decls)
