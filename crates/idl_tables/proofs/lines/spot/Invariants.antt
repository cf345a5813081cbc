use Rattle.std.proofs.Common.{◌≡◌, ◌+◌, drop, map}
use Rattle.idl_reader.specs.Tree.{decl_tree}
use Rattle.idl_tables.specs.Lines.{spot}
use Rattle.idl_tables.proofs.lines.spot.Given as goal

abbrev pub invariant-loop-i : goal.invariant-loop-i
invariant-loop-i l = spot (map (λ d. decl_tree d) (drop l.i l.decls)) l.name + l.i ≡ spot (map (λ d. decl_tree d) l.decls) l.name
