-- A call on a file object as a frame.
use Rattle.std.specs.Prelude.{ℕ, ◌<◌, ◌≤◌, ◌^◌, List}
use Rattle.pager_channel.specs.declared.front.Head.{Head}
use Rattle.pager_channel.specs.declared.numbers.Ops.{Ops}
use Rattle.pager_channel.specs.Frame.{frame_bytes}
use Rattle.pager_channel.specs.Numbers.{number_of}
use Rattle.pager_channel.specs.Seen.{FrameSeen}
use Rattle.file_frames.specs.declared.call.FileCall.{FileCall}
use Rattle.file_frames.specs.declared.call.Received.{Received}
use Rattle.file_frames.specs.Calls.{IsOnePage, operation_of, offset_of, size_of, flags_of, data_of}

-- THE HEAD of a call on the object of this subcontract and tag
abbrev pub head_of_call : Ops → ℕ → ℕ → ℕ → FileCall → Head
head_of_call ops page_size subcontract tag call = record {
  subcontract = subcontract;
  operation = number_of ops (operation_of call);
  tag = tag;
  offset = offset_of page_size call;
  size = size_of page_size call;
  access = 0;
  flags = flags_of call;
}

-- THE FRAME: the head and the data
abbrev pub frame_of_call : Ops → ℕ → ℕ → ℕ → FileCall → FrameSeen
frame_of_call ops page_size subcontract tag call = record {
  head = head_of_call ops page_size subcontract tag call;
  which = operation_of call;
  body = data_of call;
}

-- its bytes
abbrev pub call_bytes : Ops → ℕ → ℕ → ℕ → FileCall → List ℕ
call_bytes ops page_size subcontract tag call =
    frame_bytes (head_of_call ops page_size subcontract tag call) (data_of call)

-- the frame of a call that was read, and its bytes
abbrev pub received_frame : Ops → ℕ → Received → FrameSeen
received_frame ops page_size r = frame_of_call ops page_size r.subcontract r.tag r.call

abbrev pub received_bytes : Ops → ℕ → Received → List ℕ
received_bytes ops page_size r = call_bytes ops page_size r.subcontract r.tag r.call

-- what can be read: the subcontract is one, the tag has 32 bits, and the call is within one page
pub record IsReceived (page_size : ℕ) (r : Received) : Type 0 where
  pub subcontract_low : 1 ≤ r.subcontract
  pub subcontract_high : r.subcontract ≤ 5
  pub tag : r.tag < 2 ^ 32
  pub call : IsOnePage page_size r.call
