use Rattle.std.proofs.Common.{length, drop}
use Rattle.marshal_buf.specs.Held.{Held, Puts}
use Rattle.marshal_value.specs.Tree.{tree_of, trees_of}
use Rattle.marshal_value.specs.Spelling.{spelling_of_all, size_of_all, doors_of_all, HaveSpelling}
use Rattle.marshal_value.specs.Room.{HasRoom}
use Rattle.marshal_value.proofs.Trees.{weight, weight_of_all}
use Rattle.marshal_value.proofs.put.+puts.Given as goal

-- what is put behind completes the whole
abbrev pub invariant-put_all-loop-value : goal.invariant-put_all-loop-value
invariant-put_all-loop-value l =
    let rest = trees_of (drop l.value-index l.values) in
    record {
      fit : HaveSpelling rest;
      room : HasRoom (size_of_all rest) (length (doors_of_all rest)) l.buf;
      put : (end : Held) → Puts (spelling_of_all (length l.buf.doors) rest) (doors_of_all rest) l.buf end → Puts (spelling_of_all (length l.initial.buf.doors) (trees_of l.values)) (doors_of_all (trees_of l.values)) l.initial.buf end;
    }

abbrev pub decreases-put_one : goal.decreases-put_one
decreases-put_one l = weight (tree_of l.value.now)

abbrev pub decreases-put_all : goal.decreases-put_all
decreases-put_all l = weight_of_all (trees_of l.values.now)
