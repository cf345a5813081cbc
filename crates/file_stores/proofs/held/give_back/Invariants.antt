use Rattle.std.proofs.Common.{◌≡◌, ◌≤◌, length, vec_capacity}
use Rattle.file_stores.specs.Held.{AreGiven}
use Rattle.file_stores.proofs.held.give_back.Given as goal

-- the stores so far were given back
abbrev pub invariant-loop-held : goal.invariant-loop-held
invariant-loop-held g l = record {
  given : AreGiven l.mount (g.B.Bay.told l.fn.bay) (g.B.Bay.told l.bay) l.yielded l.lost.items;
  few : length l.lost.items ≤ length l.yielded;
  room : vec_capacity l.lost ≡ vec_capacity l.fn.lost;
}
