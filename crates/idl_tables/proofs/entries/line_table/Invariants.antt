use Rattle.std.proofs.Common.{◌≡◌, ◌++◌, drop, map, slice_get}
use Rattle.std.specs.List.{flat_map}
use Rattle.idl_reader.specs.Tree.{decl_tree}
use Rattle.idl_tables.specs.Entries.{operation}
use Rattle.idl_tables.specs.Tables.{own_at}
use Rattle.idl_tables.proofs.entries.line_table.Given as goal

abbrev pub invariant-loop-k : goal.invariant-loop-k
invariant-loop-k l = map (λ e. operation e) l.out.items ++ flat_map (λ k. own_at (slice_get (map (λ d. decl_tree d) l.decls) k)) (drop l.k-index l.line) ≡ flat_map (λ k. own_at (slice_get (map (λ d. decl_tree d) l.decls) k)) l.line
