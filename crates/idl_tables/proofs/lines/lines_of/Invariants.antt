use Rattle.std.proofs.Common.{◌≡◌, map}
use Rattle.idl_tables.specs.Lines.{lines_to}
use Rattle.idl_tables.proofs.lines.lines_of.Given as goal

abbrev pub invariant-loop : goal.invariant-loop
invariant-loop l = map (λ line. line.items) l.lines.items ≡ lines_to l.counter (map (λ s. s.items) l.spots.items)
