-- What is read from the frame of a call.
use Rattle.std.specs.Prelude.{IsOk, MatchResult, IfOk, IfErr}
use Rattle.std.proofs.Common.{◌≡◌, ◌≢◌, ℕ, ◌^◌, ◌<◌, ◌≤◌, List, Some, None, Result, Ok, Err, refl, sym, ◌∙◌, ap, subst}
use Rattle.hist_plain.specs.Plain.{IsPageSize}
use Rattle.pager_channel.specs.declared.front.Head.{Head}
use Rattle.pager_channel.specs.declared.numbers.Ops.{Ops}
use Rattle.pager_channel.specs.Frame.{IsFrame, frame_bytes}
use Rattle.pager_channel.specs.Numbers.{number_of}
use Rattle.pager_channel.specs.Reading.{frame_at}
use Rattle.pager_channel.specs.Seen.{FrameSeen}
use Rattle.file_frames.specs.declared.call.FileCall.{FileCall}
use Rattle.file_frames.specs.declared.call.Received.{Received}
use Rattle.file_frames.specs.declared.why.CallWhy.{CallWhy}
use Rattle.file_frames.specs.Calls.{IsOnePage, operation_of}
use Rattle.file_frames.specs.Frames.{head_of_call, received_frame, IsReceived}
use Rattle.file_frames.specs.Reading.{call_in, IsCause, IsOfFrame}
use Rattle.file_frames.proofs.CallLaws.{page_sized, call_frame, call_again}

-- the frame of a call can be that call alone
pub received_again : (ops : Ops) (page_size : ℕ) (r : Received) → IsPageSize page_size → IsReceived page_size r → call_in page_size (received_frame ops page_size r) ≡ Some r.call
received_again ops page_size r size is = call_again ops page_size r.subcontract r.tag r.call (page_sized page_size size) is.call

-- a call within one page, of an object of a frame, can be read
pub can_be_read : (page_size subcontract tag : ℕ) (call : FileCall) → (1 ≤ subcontract) × (subcontract ≤ 5) → tag < 2 ^ 32 → IsOnePage page_size call → IsReceived page_size (record { subcontract = subcontract; tag = tag; call = call })
can_be_read page_size subcontract tag call known tagged one = record { subcontract_low = known.0; subcontract_high = known.1; tag = tagged; call = one }

-- two calls of one frame are one
pub same_received : (ops : Ops) (page_size : ℕ) (a b : Received) → IsPageSize page_size → IsReceived page_size a → IsReceived page_size b → received_frame ops page_size a ≡ received_frame ops page_size b → a ≡ b
same_received ops page_size a b size is_a is_b e =
    let call : Some a.call ≡ Some b.call = sym (received_again ops page_size a size is_a) ∙ ap (call_in page_size) e ∙ received_again ops page_size b size is_b in
    let subcontract : a.subcontract ≡ b.subcontract = ap (λ (f : FrameSeen). f.head.subcontract) e in
    let tag : a.tag ≡ b.tag = ap (λ (f : FrameSeen). f.head.tag) e in
    let same : a.call ≡ b.call = cc in
    ap (λ (x : ℕ). record { subcontract = x; tag = a.tag; call = a.call }) subcontract
    ∙ ap (λ (x : ℕ). record { subcontract = b.subcontract; tag = x; call = a.call }) tag
    ∙ ap (λ (x : FileCall). record { subcontract = b.subcontract; tag = b.tag; call = x }) same

-- a frame that can be no call is of none
pub none_is : (ops : Ops) (page_size : ℕ) (f : FrameSeen) → IsPageSize page_size → call_in page_size f ≡ None → (r : Received) → IsReceived page_size r → f ≢ received_frame ops page_size r
none_is ops page_size f size none r is e =
    let none_some : None ≡ Some r.call = sym none ∙ ap (call_in page_size) e ∙ received_again ops page_size r size is in cc

-- nor is one whose head is not that of the call
pub other_is : (ops : Ops) (page_size : ℕ) (f : FrameSeen) (call : FileCall) → IsPageSize page_size → call_in page_size f ≡ Some call →
    ((IsOnePage page_size call × (f.head ≡ head_of_call ops page_size f.head.subcontract f.head.tag call)) → ⊥) →
    (r : Received) → IsReceived page_size r → f ≢ received_frame ops page_size r
other_is ops page_size f call size some unlike r is e =
    let both : Some call ≡ Some r.call = sym some ∙ ap (call_in page_size) e ∙ received_again ops page_size r size is in
    let same : r.call ≡ call = cc in
    let head : f.head ≡ head_of_call ops page_size r.subcontract r.tag r.call = ap (λ (g : FrameSeen). g.head) e in
    let subcontract : r.subcontract ≡ f.head.subcontract = sym (ap (λ (h : Head). h.subcontract) head) in
    let tag : r.tag ≡ f.head.tag = sym (ap (λ (h : Head). h.tag) head) in
    unlike (
      subst (IsOnePage page_size) same is.call,
      head ∙ ap (λ (x : ℕ). head_of_call ops page_size x r.tag r.call) subcontract
          ∙ ap (λ (x : ℕ). head_of_call ops page_size f.head.subcontract x r.call) tag
          ∙ ap (λ (x : FileCall). head_of_call ops page_size f.head.subcontract f.head.tag x) same,
    )

module _ (ops : Ops) (page_size : ℕ) (size : IsPageSize page_size) (fits : (call : FileCall) → number_of ops (operation_of call) < 2 ^ 16) where
  -- a call that was read has a frame
  pub received_is : (r : Received) → IsReceived page_size r → IsFrame ops (received_frame ops page_size r)
  received_is r is = call_frame ops page_size r.subcontract r.tag r.call (page_sized page_size size) is.subcontract_low is.subcontract_high is.tag (fits r.call) is.call

  -- the frame of a call is read as that call, or memory runs out
  pub read_only : (f : FrameSeen) (result : Result Received CallWhy) → IfOk result (λ r. IsReceived page_size r × (f ≡ received_frame ops page_size r)) → IfErr result (IsOfFrame ops page_size f) →
      (r : Received) → IsReceived page_size r → f ≡ received_frame ops page_size r → MatchResult result (λ read. read ≡ r) (λ why. why ≡ CallWhy.Memory)
  read_only f (Ok read) found refused r is e = same_received ops page_size read r size found.0 is (sym found.1 ∙ e)
  read_only f (Err (CallWhy.Frame bad)) found refused r is e = absurd refused
  read_only f (Err CallWhy.NoCall) found refused r is e = absurd (refused r is e)
  read_only f (Err CallWhy.Memory) found refused r is e = refl

  -- why a frame is not read as a call is why its bytes are not
  pub read_cause : (bytes : List ℕ) (f : FrameSeen) (result : Result Received CallWhy) → frame_at ops bytes ≡ Ok f →
      ((g : FrameSeen) → IsFrame ops g → bytes ≡ frame_bytes g.head g.body → frame_at ops bytes ≡ Ok g) →
      IfErr result (IsOfFrame ops page_size f) → IfErr result (IsCause ops page_size bytes)
  read_cause bytes f (Ok read) at only refused = tt
  read_cause bytes f (Err (CallWhy.Frame bad)) at only refused = absurd refused
  read_cause bytes f (Err CallWhy.NoCall) at only refused = (
    subst IsOk (sym at) refl,
    λ r is e. refused r is (let same : Ok f ≡ Ok (received_frame ops page_size r) = sym at ∙ only (received_frame ops page_size r) (received_is r is) e in cc),
  )
  read_cause bytes f (Err CallWhy.Memory) at only refused = tt
