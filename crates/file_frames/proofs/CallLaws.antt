-- A call within one page has a frame, and is the one call that this frame can be.
use Rattle.std.proofs.Common.{◌≡◌, ℕ, ◌+◌, ◌*◌, ◌/◌, ◌%◌, ◌^◌, ◌<◌, ◌≤◌, Bool, true, false, ◌&&◌, nat_lt, nat_le, IsTrue, length, Some, refl, arith}
use Rattle.std.proofs.Math.Nat.{pow-le-pow_right, zero-div}
use Rattle.std.proofs.lemmas.Bool.{ltb-true, leb-true, lt-ltb}
use Rattle.std.proofs.lemmas.Nat.{mul-le, div-mul-add, mod-mul-add}
use Rattle.hist_plain.specs.declared.event.Op.TheVariants as ops
use Rattle.hist_plain.specs.Event.{is_in_page}
use Rattle.hist_plain.specs.Plain.{IsPageSize, place_of}
use Rattle.pager_channel.specs.declared.numbers.Ops.{Ops}
use Rattle.pager_channel.specs.Flags.{is_to_cache, is_to_file}
use Rattle.pager_channel.specs.Frame.{IsFrame}
use Rattle.pager_channel.specs.Numbers.{number_of, IsOfObject}
use Rattle.pager_channel.specs.Size.{data_size}
use Rattle.pager_channel.proofs.OwnNumbers.{found_again}
use Rattle.file_frames.specs.declared.call.FileCall.{FileCall}
use Rattle.file_frames.specs.Calls.{IsOnePage, operation_of, offset_of, size_of, flags_of, data_of}
use Rattle.file_frames.specs.Frames.{head_of_call, frame_of_call}
use Rattle.file_frames.specs.Reading.{call_in}

-- a page size is from 64 to 4,096
pub record Sized (size : ℕ) : Type 0 where
  pub low : 64 ≤ size
  pub high : size ≤ 4096

pub page_sized : (size : ℕ) → IsPageSize size → Sized size
page_sized size (k, low, high, is) =
    let a : 2 ^ 6 ≤ 2 ^ k = pow-le-pow_right {n = 2} (omega arith) {i = 6} {j = k} low in
    let b : 2 ^ k ≤ 2 ^ 12 = pow-le-pow_right {n = 2} (omega arith) {i = k} {j = 12} high in
    record { low = omega arith; high = omega arith }

both : (a b : Bool) → IsTrue (a && b) → IsTrue a × IsTrue b
both true b h = (refl, h)
both false b h = absurd cc

-- a range within one page of a file that can be
record IsRange (page_size page off len : ℕ) : Type 0 where
  pub few : page < 1024
  pub some : 1 ≤ len
  pub room : off + len ≤ page_size

in_range : (page_size pages page off len : ℕ) → pages ≤ 1024 → IsTrue (is_in_page page_size pages page off len) → IsRange page_size page off len
in_range page_size pages page off len few h =
    let first = both (nat_lt page pages && nat_le 1 len) (nat_le (off + len) page_size) h in
    let second = both (nat_lt page pages) (nat_le 1 len) first.0 in
    let page_in : page < pages = ltb-true _ _ second.0 in
    record { few = omega arith; some = leb-true _ _ second.1; room = leb-true _ _ first.1 }

-- its numbers have room in a head
pub record HasRoom (page_size : ℕ) (call : FileCall) : Type 0 where
  pub offset : offset_of page_size call < 2 ^ 64
  pub size : size_of page_size call ≤ 4096

place_room : (page_size page off : ℕ) → Sized page_size → page < 1024 → off ≤ page_size → place_of page_size page off < 2 ^ 64
place_room page_size page off sized few inside =
    let a : page * page_size ≤ 1024 * 4096 = mul-le page page_size 1024 4096 (omega arith) sized.high in
    omega (arith, sized.high)

pub has_room : (page_size : ℕ) (call : FileCall) → Sized page_size → IsOnePage page_size call → HasRoom page_size call
has_room page_size (FileCall.Access (ops.Read page off len)) sized (pages, few, fits) =
    let r = in_range page_size pages page off len few fits in
    record { offset = place_room page_size page off sized r.few (omega (arith, r.room)); size = omega (arith, r.room, sized.high) }
has_room page_size (FileCall.Access (ops.Write page off bytes)) sized (pages, few, fits) =
    let r = in_range page_size pages page off (length bytes) few fits in
    record { offset = place_room page_size page off sized r.few (omega (arith, r.room)); size = omega (arith, r.room, sized.high) }
has_room page_size (FileCall.Access (ops.Clear page)) sized (pages, few, fits) =
    let inside : page < pages = ltb-true _ _ fits in
    record { offset = place_room page_size page 0 sized (omega arith) (omega arith); size = sized.high }
has_room page_size (FileCall.Access ops.Open) sized one = record { offset = omega arith; size = omega arith }
has_room page_size FileCall.Sync sized one = record { offset = omega arith; size = omega arith }

-- its flags name a file object
of_file : (call : FileCall) → IsOfObject (flags_of call) (operation_of call)
of_file (FileCall.Access (ops.Read page off len)) = record { cache = refl; file = refl }
of_file (FileCall.Access (ops.Write page off bytes)) = record { cache = refl; file = refl }
of_file (FileCall.Access (ops.Clear page)) = record { cache = refl; file = refl }
of_file (FileCall.Access ops.Open) = record { cache = refl; file = refl }
of_file FileCall.Sync = record { cache = refl; file = refl }

-- its flags name one object, and say how many data follow
record IsFlagged (numbers : Ops) (page_size subcontract tag : ℕ) (call : FileCall) : Type 0 where
  pub low : flags_of call < 16
  pub one_object : is_to_cache (flags_of call) && is_to_file (flags_of call) ≡ false
  pub body : length (data_of call) ≡ data_size (head_of_call numbers page_size subcontract tag call)

flagged : (numbers : Ops) (page_size subcontract tag : ℕ) (call : FileCall) → IsFlagged numbers page_size subcontract tag call
flagged numbers page_size subcontract tag (FileCall.Access (ops.Read page off len)) = record { low = omega arith; one_object = refl; body = refl }
flagged numbers page_size subcontract tag (FileCall.Access (ops.Write page off bytes)) = record { low = omega arith; one_object = refl; body = refl }
flagged numbers page_size subcontract tag (FileCall.Access (ops.Clear page)) = record { low = omega arith; one_object = refl; body = refl }
flagged numbers page_size subcontract tag (FileCall.Access ops.Open) = record { low = omega arith; one_object = refl; body = refl }
flagged numbers page_size subcontract tag FileCall.Sync = record { low = omega arith; one_object = refl; body = refl }

-- A CALL WITHIN ONE PAGE HAS A FRAME
pub call_frame : (numbers : Ops) (page_size subcontract tag : ℕ) (call : FileCall) → Sized page_size → 1 ≤ subcontract → subcontract ≤ 5 → tag < 2 ^ 32 →
    number_of numbers (operation_of call) < 2 ^ 16 → IsOnePage page_size call → IsFrame numbers (frame_of_call numbers page_size subcontract tag call)
call_frame numbers page_size subcontract tag call sized low high tagged numbered one =
    let room = has_room page_size call sized one in
    let flags = flagged numbers page_size subcontract tag call in
    record {
      head = record {
        subcontract_low = low;
        subcontract_high = high;
        flags = flags.low;
        one_object = flags.one_object;
        number = numbered;
        tag = tagged;
        offset = room.offset;
        size = room.size;
        access = omega arith;
      };
      operation = (found_again numbers (operation_of call)).found (flags_of call) (of_file call);
      body = flags.body;
    }

-- a place of a page is found again
record IsPlace (page_size page off : ℕ) : Type 0 where
  pub which : place_of page_size page off / page_size ≡ page
  pub where_in : place_of page_size page off % page_size ≡ off
  pub few : nat_lt page 1024 ≡ true

placed : (page_size page off : ℕ) → page < 1024 → off < page_size → IsPlace page_size page off
placed page_size page off few inside = record {
  which = div-mul-add page page_size off inside;
  where_in = mod-mul-add page page_size off inside;
  few = lt-ltb page 1024 few;
}

-- THE FRAME OF A CALL can be that call alone
pub call_again : (numbers : Ops) (page_size subcontract tag : ℕ) (call : FileCall) → Sized page_size → IsOnePage page_size call → call_in page_size (frame_of_call numbers page_size subcontract tag call) ≡ Some call
call_again numbers page_size subcontract tag (FileCall.Access (ops.Read page off len)) sized (pages, few, fits) =
    let r = in_range page_size pages page off len few fits in
    let at = placed page_size page off r.few (omega (arith, r.room, r.some)) in
    rw (at.which, at.where_in, at.few) refl
call_again numbers page_size subcontract tag (FileCall.Access (ops.Write page off bytes)) sized (pages, few, fits) =
    let r = in_range page_size pages page off (length bytes) few fits in
    let at = placed page_size page off r.few (omega (arith, r.room, r.some)) in
    rw (at.which, at.where_in, at.few) refl
call_again numbers page_size subcontract tag (FileCall.Access (ops.Clear page)) sized (pages, few, fits) =
    let inside : page < pages = ltb-true _ _ fits in
    let at = placed page_size page 0 (omega arith) (omega (arith, sized.low)) in
    rw (at.which, at.few) refl
call_again numbers page_size subcontract tag (FileCall.Access ops.Open) sized one = rw (zero-div page_size) refl
call_again numbers page_size subcontract tag FileCall.Sync sized one = rw (zero-div page_size) refl
