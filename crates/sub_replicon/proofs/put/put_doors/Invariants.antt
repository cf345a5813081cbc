use Rattle.std.proofs.Common.{◌≡◌, ◌+◌, ◌*◌, ◌≤◌, length, take}
use Rattle.marshal_buf.specs.Held.{Puts}
use Rattle.sub_replicon.specs.Forms.{index_bytes}
use Rattle.sub_replicon.proofs.put.put_doors.Given as goal

abbrev pub invariant-loop-door : goal.invariant-loop-door
invariant-loop-door l =
    record {
      put : Puts (index_bytes (length l.fn.buf.doors) l.door-index) (take l.door-index l.doors) l.fn.buf l.buf;
      len : length l.buf.bytes ≡ length l.fn.buf.bytes + 4 * l.door-index;
      doors_len : length l.buf.doors ≡ length l.fn.buf.doors + l.door-index;
      room : l.fn.buf.spare ≤ l.buf.spare + 4 * l.door-index;
      room_doors : l.fn.buf.spare_doors ≤ l.buf.spare_doors + l.door-index;
    }
