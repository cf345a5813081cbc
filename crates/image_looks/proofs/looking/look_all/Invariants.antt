use Rattle.std.proofs.Common.{◌≡◌, ◌≤◌, length, take, vec_capacity}
use Rattle.image_looks.specs.Found.{AreLooks, stores_at}
use Rattle.image_looks.proofs.looking.look_all.Given as goal

-- the first stores were looked at
abbrev pub invariant-loop-store : goal.invariant-loop-store
invariant-loop-store g l = record {
  are : AreLooks l.mount (g.B.Bay.told l.fn.bay) (g.B.Bay.told l.bay) l.looks.items;
  first : stores_at l.looks.items ≡ take l.store-index l.stores;
  many : length l.looks.items ≡ l.store-index;
  room : length l.stores ≤ vec_capacity l.looks;
}
