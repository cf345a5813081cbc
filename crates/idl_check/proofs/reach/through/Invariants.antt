use Rattle.std.proofs.Common.{◌≡◌, ◌++◌, drop, map, get_or, []}
use Rattle.idl_check.specs.Reach.{through_row}
use Rattle.idl_check.proofs.reach.through.Given as goal

abbrev pub invariant-loop-row : goal.invariant-loop-row
invariant-loop-row l = map (λ row. row.items) l.out.items ++ map (λ row. through_row l.k (get_or (map (λ row. row.items) l.rows) l.k []) row) (map (λ row. row.items) (drop l.row-index l.rows)) ≡ map (λ row. through_row l.k (get_or (map (λ row. row.items) l.rows) l.k []) row) (map (λ row. row.items) l.rows)
