use Rattle.std.proofs.Common.{◌≡◌, ◌++◌, drop, map, take, vec_capacity}
use Rattle.spr_volume.specs.Rows.{above, below}
use Rattle.spr_volume.proofs.rows.split_all.Given as goal

-- the seats below the index are cut
abbrev pub invariant-loop-index : goal.invariant-loop-index
invariant-loop-index g l = record {
  low : l.seats.items ≡ map (below l.at) (take l.index l.initial.seats.items) ++ drop l.index l.initial.seats.items;
  high : l.others.items ≡ map (above l.at) (take l.index l.initial.seats.items);
  room : vec_capacity l.others ≡ vec_capacity l.initial.others;
}
