use Rattle.std.proofs.Common.{◌≡◌, ◌≤◌, length, take, vec_capacity}
use Rattle.file_stores.specs.Held.{keys_of, AreOut}
use Rattle.file_stores.proofs.held.take_stores.Given as goal

-- the first stores are out
abbrev pub invariant-loop-key : goal.invariant-loop-key
invariant-loop-key g l = record {
  out : AreOut l.mount (g.B.Bay.told l.fn.bay) (g.B.Bay.told l.bay) l.stores.items;
  first : keys_of l.stores.items ≡ take l.key-index l.keys;
  many : length l.stores.items ≡ l.key-index;
  calm : (g.B.Bay.told l.bay).faults ≡ (g.B.Bay.told l.fn.bay).faults;
  room : length l.keys ≤ vec_capacity l.stores;
}
