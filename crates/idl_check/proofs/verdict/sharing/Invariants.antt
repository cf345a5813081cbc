use Rattle.std.proofs.Common.{◌≡◌, ◌++◌, drop, map}
use Rattle.idl_reader.specs.Tree.{decl_tree}
use Rattle.idl_check.specs.Verdict.{sharing_row}
use Rattle.idl_check.proofs.verdict.sharing.Given as goal

abbrev pub invariant-loop-decl : goal.invariant-loop-decl
invariant-loop-decl l = map (λ row. row.items) l.rows.items ++ map (λ d. sharing_row (map (λ e. decl_tree e) l.decls) d) (map (λ d. decl_tree d) (drop l.decl-index l.decls)) ≡ map (λ d. sharing_row (map (λ e. decl_tree e) l.decls) d) (map (λ d. decl_tree d) l.decls)
