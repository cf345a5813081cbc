use Rattle.std.proofs.Common.{◌≡◌, ◌*◌, Ok, length}
use Rattle.marshal_buf.specs.Reading.{past, Takes}
use Rattle.sub_replicon.specs.Replicas.{AreOfOneFile}
use Rattle.sub_replicon.specs.Forms.{index_bytes}
use Rattle.sub_replicon.specs.Doors.{TakesDoors, doors_at}
use Rattle.sub_replicon.proofs.reading.read_so_many.Given as goal

abbrev pub invariant-loop : goal.invariant-loop
invariant-loop l =
    record {
      value : doors_at l.counter l.fn.from ≡ Ok l.doors;
      len : length l.doors ≡ l.counter;
      one_file : AreOfOneFile l.doors;
      place : l.from ≡ past (4 * l.counter) l.counter l.fn.from;
      taken : Takes (index_bytes l.fn.from.next l.counter) l.counter l.fn.from l.from;
      there : TakesDoors l.doors l.fn.from l.from;
    }
