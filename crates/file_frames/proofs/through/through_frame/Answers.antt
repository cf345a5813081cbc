use Rattle.std.proofs.Common.{◌≡◌, ◌∙◌, ◌++◌, ℕ, List, sym, ap, arith}
use Rattle.file_frames.specs.declared.why.CallWhy.{CallWhy}
use Rattle.file_frames.specs.Frames.{call_bytes}
use Rattle.file_frames.proofs.ReadLaws.{can_be_read}
use Rattle.file_frames.proofs.through.through_frame.Goals as goal

pub returns-in-Ok-clause-read : goal.returns-in-Ok-clause-read
returns-in-Ok-clause-read c =
    let frame = call_bytes c.args.ops.now c.args.page_size c.args.subcontract c.args.tag c.args.call.now in
    let is = can_be_read c.args.page_size c.args.subcontract c.args.tag c.args.call.now c.requires.subcontract (omega arith) c.requires.call in
    c.in-Ok.ensures.only _ is (c.as_slice.ensures.value ∙ (c.in_ok-put_call.ensures.ok.bytes ∙ ap (λ (b : List ℕ). b ++ frame) c.clear.ensures.bytes))

pub unreachable-requires : goal.unreachable-requires
unreachable-requires c =
    let frame = call_bytes c.args.ops.now c.args.page_size c.args.subcontract c.args.tag c.args.call.now in
    let is = can_be_read c.args.page_size c.args.subcontract c.args.tag c.args.call.now c.requires.subcontract (omega arith) c.requires.call in
    let memory : CallWhy.Frame c.in-Err-Frame.field-0-0 ≡ CallWhy.Memory = sym c.in-Err-Frame.field-0-is ∙ c.in-Err-Frame.ensures.only _ is (c.as_slice.ensures.value ∙ (c.in_ok-put_call.ensures.ok.bytes ∙ ap (λ (b : List ℕ). b ++ frame) c.clear.ensures.bytes)) in
    cc

pub unreachable-requires-in-Err-NoCall : goal.unreachable-requires-in-Err-NoCall
unreachable-requires-in-Err-NoCall c =
    let frame = call_bytes c.args.ops.now c.args.page_size c.args.subcontract c.args.tag c.args.call.now in
    let is = can_be_read c.args.page_size c.args.subcontract c.args.tag c.args.call.now c.requires.subcontract (omega arith) c.requires.call in
    let memory : CallWhy.NoCall ≡ CallWhy.Memory = sym c.in-Err-NoCall.field-0-is ∙ c.in-Err-NoCall.ensures.only _ is (c.as_slice.ensures.value ∙ (c.in_ok-put_call.ensures.ok.bytes ∙ ap (λ (b : List ℕ). b ++ frame) c.clear.ensures.bytes)) in
    cc
