use Rattle.std.proofs.Common.{◌≡◌, ℕ, All, Some, vec_len}
use Rattle.std.specs.Prelude.{slice_get}
use Rattle.page_exchange.specs.declared.table.Table.{Table}
use Rattle.page_exchange.specs.Listed.{IsFresh, IsTableOf}
use Rattle.page_exchange.proofs.starting.fresh_nodes.Given as goal

abbrev pub invariant-loop-node : goal.invariant-loop-node
invariant-loop-node l = record {
  many : vec_len l.list ≡ l.node;
  each : (number : ℕ) (table : Table) → slice_get l.list.items number ≡ Some table → IsTableOf l.tree l.file number table;
  fresh : All IsFresh l.list.items;
}
