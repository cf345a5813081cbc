use Rattle.std.proofs.Common.{◌≡◌, ◌++◌, drop, map, List, ℕ, []}
use Rattle.idl_tables.proofs.lines.no_lines.Given as goal

abbrev pub invariant-loop : goal.invariant-loop
invariant-loop l =
    let none : List ℕ → List ℕ = λ bases. [] in
    map (λ line. line.items) l.lines.items ++ map none (map (λ s. s.items) (drop l.index l.spots)) ≡ map none (map (λ s. s.items) l.spots)
