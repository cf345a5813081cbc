use Rattle.std.proofs.Common.{◌≡◌, ◌++◌, drop, map}
use Rattle.idl_tables.specs.Entries.{operation}
use Rattle.idl_tables.specs.Tables.{numbered}
use Rattle.idl_tables.proofs.print.put_table.Given as goal

abbrev pub invariant-loop-number : goal.invariant-loop-number
invariant-loop-number l = l.out.items ++ numbered l.number (map (λ e. operation e) (drop l.number l.table)) ≡ l.fn.out.items ++ numbered 0 (map (λ e. operation e) l.table)
