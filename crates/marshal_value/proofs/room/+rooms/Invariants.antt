use Rattle.std.proofs.Common.{◌≡◌, ◌≤◌, ◌+◌, ◌^◌, length, drop, min}
use Rattle.marshal_value.specs.Tree.{tree_of, trees_of}
use Rattle.marshal_value.proofs.Trees.{weight, weight_of_all}
use Rattle.marshal_value.specs.Spelling.{size_of_all, doors_of_all}
use Rattle.marshal_value.proofs.room.+rooms.Given as goal

abbrev pub invariant-room_of_all-loop-value : goal.invariant-room_of_all-loop-value
invariant-room_of_all-loop-value l = record {
  bytes_within : l.all.bytes ≤ 2 ^ 32;
  doors_within : l.all.doors ≤ 2 ^ 32;
  bytes : min (l.all.bytes + size_of_all (trees_of (drop l.value-index l.values))) (2 ^ 32) ≡ min (size_of_all (trees_of l.values)) (2 ^ 32);
  doors : min (l.all.doors + length (doors_of_all (trees_of (drop l.value-index l.values)))) (2 ^ 32) ≡ min (length (doors_of_all (trees_of l.values))) (2 ^ 32);
}

abbrev pub decreases-room_of : goal.decreases-room_of
decreases-room_of l = weight (tree_of l.value.now)

abbrev pub decreases-room_of_all : goal.decreases-room_of_all
decreases-room_of_all l = weight_of_all (trees_of l.values.now)
