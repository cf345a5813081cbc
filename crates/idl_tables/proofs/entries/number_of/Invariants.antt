use Rattle.std.proofs.Common.{◌≡◌, drop, map}
use Rattle.idl_tables.specs.Entries.{operation}
use Rattle.idl_tables.specs.Tables.{number_from}
use Rattle.idl_tables.proofs.entries.number_of.Given as goal

abbrev pub invariant-loop-i : goal.invariant-loop-i
invariant-loop-i l = number_from l.i l.name (map (λ e. operation e) (drop l.i l.table)) ≡ number_from 0 l.name (map (λ e. operation e) l.table)
