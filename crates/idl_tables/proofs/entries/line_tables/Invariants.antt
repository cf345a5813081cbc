use Rattle.std.proofs.Common.{◌≡◌, ◌++◌, drop, map}
use Rattle.idl_reader.specs.Tree.{decl_tree}
use Rattle.idl_tables.specs.Entries.{operation}
use Rattle.idl_tables.specs.Tables.{line_table}
use Rattle.idl_tables.proofs.entries.line_tables.Given as goal

abbrev pub invariant-loop-line : goal.invariant-loop-line
invariant-loop-line l = map (λ t. map (λ e. operation e) t.items) l.tables.items ++ map (λ line. line_table (map (λ d. decl_tree d) l.decls) line) (map (λ line. line.items) (drop l.line-index l.lines)) ≡ map (λ line. line_table (map (λ d. decl_tree d) l.decls) line) (map (λ line. line.items) l.lines)
