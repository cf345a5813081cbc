use Rattle.std.proofs.Common.{◌≡◌, drop, map}
use Rattle.idl_reader.specs.Tree.{decl_tree}
use Rattle.idl_tables.specs.Entries.{operation}
use Rattle.idl_tables.specs.Tables.{table_named}
use Rattle.idl_tables.proofs.entries.table_named.Given as goal

abbrev pub invariant-loop-i : goal.invariant-loop-i
invariant-loop-i l = table_named (map (λ t. map (λ e. operation e) t.items) l.tables) l.i (map (λ d. decl_tree d) (drop l.i l.decls)) l.name ≡ table_named (map (λ t. map (λ e. operation e) t.items) l.tables) 0 (map (λ d. decl_tree d) l.decls) l.name
