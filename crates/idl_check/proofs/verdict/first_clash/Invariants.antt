use Rattle.std.proofs.Common.{◌≡◌, drop, map}
use Rattle.idl_reader.specs.Tree.{decl_tree}
use Rattle.idl_check.specs.Verdict.{clash_from}
use Rattle.idl_check.proofs.verdict.first_clash.Given as goal

abbrev pub invariant-loop-i : goal.invariant-loop-i
invariant-loop-i l = clash_from (map (λ row. row.items) l.rows) (map (λ row. row.items) l.shared) l.i (map (λ d. decl_tree d) (drop l.i l.decls)) ≡ clash_from (map (λ row. row.items) l.rows) (map (λ row. row.items) l.shared) 0 (map (λ d. decl_tree d) l.decls)
