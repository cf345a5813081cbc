use Rattle.std.proofs.Common.{◌-◌, length}
use Rattle.idl_reader.specs.Left.{left}
use Rattle.idl_reader.specs.Reading.{name_at, is_name_word, after_comma, many_at, onto}
use Rattle.idl_reader.proofs.Many.{GoesOn}
use Rattle.idl_reader.proofs.read.more_names.Given as goal

abbrev pub invariant-loop-next : goal.invariant-loop-next
invariant-loop-next l =
    GoesOn l.most l.names.items
    (onto l.names.items (many_at after_comma is_name_word name_at (l.most - length l.names.items) (left l.rest)))
    (onto l.fn.so_far.items (many_at after_comma is_name_word name_at (l.most - length l.fn.so_far.items) (left l.fn.start)))

abbrev pub decreases-loop-next : goal.decreases-loop-next
decreases-loop-next l = l.most - length l.names.items
