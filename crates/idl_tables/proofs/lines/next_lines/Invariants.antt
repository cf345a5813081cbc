use Rattle.std.proofs.Common.{◌≡◌, ◌++◌, drop, map}
use Rattle.idl_tables.specs.Lines.{next_from}
use Rattle.idl_tables.proofs.lines.next_lines.Given as goal

abbrev pub invariant-loop-i : goal.invariant-loop-i
invariant-loop-i l = map (λ line. line.items) l.next.items ++ next_from (map (λ line. line.items) l.lines) l.i (map (λ s. s.items) (drop l.i l.spots)) ≡ next_from (map (λ line. line.items) l.lines) 0 (map (λ s. s.items) l.spots)
