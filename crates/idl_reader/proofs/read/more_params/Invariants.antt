use Rattle.std.proofs.Common.{◌-◌, length, map}
use Rattle.idl_reader.specs.Left.{left}
use Rattle.idl_reader.specs.Tree.{param_tree}
use Rattle.idl_reader.specs.Reading.{param_at, is_param_word, after_comma, many_at, onto}
use Rattle.idl_reader.proofs.Many.{GoesOn}
use Rattle.idl_reader.proofs.read.more_params.Given as goal

abbrev pub invariant-loop-next : goal.invariant-loop-next
invariant-loop-next l =
    let front = map (λ param. param_tree param) l.params.items in
    let start = map (λ param. param_tree param) l.fn.so_far.items in
    GoesOn 16 front (onto front (many_at after_comma is_param_word param_at (16 - length front) (left l.rest))) (onto start (many_at after_comma is_param_word param_at (16 - length start) (left l.fn.start)))

abbrev pub decreases-loop-next : goal.decreases-loop-next
decreases-loop-next l = 16 - length l.params.items
