-- A call that is read from a frame.
use Rattle.std.specs.Prelude.{◌≡◌, ◌≢◌, ℕ, ◌/◌, ◌%◌, nat_lt, if◌then◌else◌, List, Option, Some, None, IsOk, Err}
use Rattle.hist_plain.specs.declared.TheConstants.{MAX_PAGES}
use Rattle.hist_plain.specs.declared.event.Op.TheVariants as ops
use Rattle.pager_channel.specs.declared.numbers.Ops.{Ops}
use Rattle.pager_channel.specs.declared.operation.Operation.{Operation}
use Rattle.pager_channel.specs.Reading.{frame_at}
use Rattle.pager_channel.specs.Seen.{FrameSeen}
use Rattle.file_frames.specs.declared.call.FileCall.{FileCall}
use Rattle.file_frames.specs.declared.call.Received.{Received}
use Rattle.file_frames.specs.declared.why.CallWhy.{CallWhy}
use Rattle.file_frames.specs.Frames.{IsReceived, received_bytes, received_frame}

-- the call of this operation, at a place of a page, if files have the operation
abbrev pub call_of : Operation → ℕ → ℕ → ℕ → List ℕ → Option FileCall
call_of Operation.Bind page off size bytes = Some (FileCall.Access ops.Open)
call_of Operation.Read page off size bytes = Some (FileCall.Access (ops.Read page off size))
call_of Operation.Write page off size bytes = Some (FileCall.Access (ops.Write page off bytes))
call_of Operation.Clear page off size bytes = Some (FileCall.Access (ops.Clear page))
call_of Operation.FileSync page off size bytes = Some FileCall.Sync
call_of which page off size bytes = None

-- the one call that a frame can be: of its operation, at its offset
abbrev pub call_in : ℕ → FrameSeen → Option FileCall
call_in page_size f =
    if nat_lt (f.head.offset / page_size) MAX_PAGES
    then call_of f.which (f.head.offset / page_size) (f.head.offset % page_size) f.head.size f.body
    else None

-- why a frame is not read as a call
abbrev pub IsOfFrame : Ops → ℕ → FrameSeen → CallWhy → Type 0
IsOfFrame ops page_size f (CallWhy.Frame bad) = ⊥
IsOfFrame ops page_size f CallWhy.NoCall =
    (r : Received) → IsReceived page_size r → f ≢ received_frame ops page_size r
IsOfFrame ops page_size f CallWhy.Memory = Unit {0}

-- THE CAUSE OF A REFUSAL: the first test of a frame that fails; that the bytes are a frame, and of
-- no call within one page; or want of memory, which says nothing of the bytes
abbrev pub IsCause : Ops → ℕ → List ℕ → CallWhy → Type 0
IsCause ops page_size bytes (CallWhy.Frame bad) = frame_at ops bytes ≡ Err bad
IsCause ops page_size bytes CallWhy.NoCall =
    IsOk (frame_at ops bytes)
    × ((r : Received) → IsReceived page_size r → bytes ≢ received_bytes ops page_size r)
IsCause ops page_size bytes CallWhy.Memory = Unit {0}
