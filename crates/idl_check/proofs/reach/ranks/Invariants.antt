use Rattle.std.proofs.Common.{◌≡◌, ◌++◌, drop, map, count_by}
use Rattle.idl_check.proofs.reach.ranks.Given as goal

abbrev pub invariant-loop-row : goal.invariant-loop-row
invariant-loop-row l = l.ranks.items ++ map (λ row. count_by (λ b. b) row) (map (λ row. row.items) (drop l.row-index l.rows)) ≡ map (λ row. count_by (λ b. b) row) (map (λ row. row.items) l.rows)
