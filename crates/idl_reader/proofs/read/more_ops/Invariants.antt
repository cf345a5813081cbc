use Rattle.std.proofs.Common.{◌-◌, length, map}
use Rattle.idl_reader.specs.Left.{left}
use Rattle.idl_reader.specs.Tree.{op_tree}
use Rattle.idl_reader.specs.Reading.{op_at, is_op_word, until_brace, many_at, onto}
use Rattle.idl_reader.proofs.Many.{GoesOn}
use Rattle.idl_reader.proofs.read.more_ops.Given as goal

abbrev pub invariant-loop-next : goal.invariant-loop-next
invariant-loop-next l =
    let front = map (λ op. op_tree op) l.ops.items in
    let start = map (λ op. op_tree op) l.fn.so_far.items in
    GoesOn 64 front (onto front (many_at until_brace is_op_word op_at (64 - length front) (left l.rest))) (onto start (many_at until_brace is_op_word op_at (64 - length start) (left l.fn.start)))

abbrev pub decreases-loop-next : goal.decreases-loop-next
decreases-loop-next l = 64 - length l.ops.items
