use Rattle.std.proofs.Common.{◌≡◌, drop, map}
use Rattle.idl_reader.specs.Tree.{decl_tree}
use Rattle.idl_check.specs.Verdict.{cycle_from}
use Rattle.idl_check.proofs.verdict.first_cycle.Given as goal

abbrev pub invariant-loop-i : goal.invariant-loop-i
invariant-loop-i l = cycle_from (map (λ row. row.items) l.rows) l.i (map (λ d. decl_tree d) (drop l.i l.decls)) ≡ cycle_from (map (λ row. row.items) l.rows) 0 (map (λ d. decl_tree d) l.decls)
