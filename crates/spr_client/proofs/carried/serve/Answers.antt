use Rattle.std.proofs.Common.{◌≡◌, ◌<◌, ◌^◌, ℕ, List, length, inr, refl, sym, ap, subst, ◌∙◌}
use Rattle.file_frames.specs.declared.call.Received.{Received}
use Rattle.file_frames.specs.declared.why.CallWhy.{CallWhy}
use Rattle.spr_client.specs.Serving.{FitsFile, IsReceivedAs, asked_in}
use Rattle.spr_client.proofs.CarriedLaws.{Reads, call-read, call-unread, few-read, frame-short, read_on, request-read, serves-as}
use Rattle.spr_client.proofs.carried.serve.Goals as goal

pub read_call-requires-clause-few : goal.read_call-requires-clause-few
read_call-requires-clause-few g c =
    let mount = c.args.common.now.mount.now in
    let ops = c.args.common.now.ops.now in
    let way = c.args.way in
    let may = c.requires.request in
    let is = request-read mount ops may.caller may.life way may.call c.args.bytes.now c.in-Ok._number c.in-Ok.request (sym c.read_request.ensures.exact ∙ c.in-Ok.is) may.request_is in
    subst (λ (l : List ℕ). length l < 2 ^ 32) (sym (c.frame.ensures ∙ is.frame_is)) (few-read _ (frame-short ops mount.page_size way.sub way.tag may.call may.framed))

pub call_at-requires-clause-object : goal.call_at-requires-clause-object
call_at-requires-clause-object g c κs within =
    let mount = c.args.common.now.mount.now in
    let ops = c.args.common.now.ops.now in
    let way = c.args.way in
    let may = c.requires.request in
    let is = request-read mount ops may.caller may.life way may.call c.args.bytes.now c.in-Ok._number c.in-Ok.request (sym c.read_request.ensures.exact ∙ c.in-Ok.is) may.request_is in
    let reads = subst (λ (n : ℕ). Reads n ops c.frame.result.now c.read_call.result) c.page_size-page_size.ensures.value c.read_call.ensures.only in
    let same = call-read mount ops way may.call c.frame.result.now c.read_call.result c.in-Ok-read_call.received c.page_size-page_size.ensures.sound (may.framed.head.subcontract_low, may.framed.head.subcontract_high) may.framed.head.tag may.fits (c.frame.ensures ∙ is.frame_is) reads c.in-Ok-read_call.is in
    subst (λ (r : Received). IsReceivedAs way r.call r) (sym same) (record { subcontract_is = refl; tag_is = refl; call_is = refl })

pub call_at-requires-clause-fits : goal.call_at-requires-clause-fits
call_at-requires-clause-fits g c κs within =
    let mount = c.args.common.now.mount.now in
    let ops = c.args.common.now.ops.now in
    let way = c.args.way in
    let may = c.requires.request in
    let is = request-read mount ops may.caller may.life way may.call c.args.bytes.now c.in-Ok._number c.in-Ok.request (sym c.read_request.ensures.exact ∙ c.in-Ok.is) may.request_is in
    let reads = subst (λ (n : ℕ). Reads n ops c.frame.result.now c.read_call.result) c.page_size-page_size.ensures.value c.read_call.ensures.only in
    let same = call-read mount ops way may.call c.frame.result.now c.read_call.result c.in-Ok-read_call.received c.page_size-page_size.ensures.sound (may.framed.head.subcontract_low, may.framed.head.subcontract_high) may.framed.head.tag may.fits (c.frame.ensures ∙ is.frame_is) reads c.in-Ok-read_call.is in
    subst (λ (r : Received). FitsFile mount way.file r.call) (sym same) may.fits

pub call_at-requires-clause-long : goal.call_at-requires-clause-long
call_at-requires-clause-long g c κs within =
    let mount = c.args.common.now.mount.now in
    let ops = c.args.common.now.ops.now in
    let way = c.args.way in
    let may = c.requires.request in
    let is = request-read mount ops may.caller may.life way may.call c.args.bytes.now c.in-Ok._number c.in-Ok.request (sym c.read_request.ensures.exact ∙ c.in-Ok.is) may.request_is in
    let reads = subst (λ (n : ℕ). Reads n ops c.frame.result.now c.read_call.result) c.page_size-page_size.ensures.value c.read_call.ensures.only in
    let same = call-read mount ops way may.call c.frame.result.now c.read_call.result c.in-Ok-read_call.received c.page_size-page_size.ensures.sound (may.framed.head.subcontract_low, may.framed.head.subcontract_high) may.framed.head.tag may.fits (c.frame.ensures ∙ is.frame_is) reads c.in-Ok-read_call.is in
    may.long ∙ ap (λ (r : Received). asked_in r.call) (sym same)

pub unreachable-requires-in-Err-Frame : goal.unreachable-requires-in-Err-Frame
unreachable-requires-in-Err-Frame g c =
    let mount = c.args.common.now.mount.now in
    let ops = c.args.common.now.ops.now in
    let way = c.args.way in
    let may = c.requires.request in
    let is = request-read mount ops may.caller may.life way may.call c.args.bytes.now c.in-Ok._number c.in-Ok.request (sym c.read_request.ensures.exact ∙ c.in-Ok.is) may.request_is in
    let reads = subst (λ (n : ℕ). Reads n ops c.frame.result.now c.read_call.result) c.page_size-page_size.ensures.value c.read_call.ensures.only in
    let memory = call-unread mount ops way may.call c.frame.result.now c.read_call.result c.in-Err-Frame.field-0 c.page_size-page_size.ensures.sound (may.framed.head.subcontract_low, may.framed.head.subcontract_high) may.framed.head.tag may.fits (c.frame.ensures ∙ is.frame_is) reads c.in-Err-Frame.is in
    let never : CallWhy.Frame c.in-Err-Frame.field-0-0 ≡ CallWhy.Memory = sym c.in-Err-Frame.field-0-is ∙ memory in
    cc

pub unreachable-requires-in-Err-NoCall : goal.unreachable-requires-in-Err-NoCall
unreachable-requires-in-Err-NoCall g c =
    let mount = c.args.common.now.mount.now in
    let ops = c.args.common.now.ops.now in
    let way = c.args.way in
    let may = c.requires.request in
    let is = request-read mount ops may.caller may.life way may.call c.args.bytes.now c.in-Ok._number c.in-Ok.request (sym c.read_request.ensures.exact ∙ c.in-Ok.is) may.request_is in
    let reads = subst (λ (n : ℕ). Reads n ops c.frame.result.now c.read_call.result) c.page_size-page_size.ensures.value c.read_call.ensures.only in
    let memory = call-unread mount ops way may.call c.frame.result.now c.read_call.result c.in-Err-NoCall.field-0 c.page_size-page_size.ensures.sound (may.framed.head.subcontract_low, may.framed.head.subcontract_high) may.framed.head.tag may.fits (c.frame.ensures ∙ is.frame_is) reads c.in-Err-NoCall.is in
    let never : CallWhy.NoCall ≡ CallWhy.Memory = sym c.in-Err-NoCall.field-0-is ∙ memory in
    cc

pub returns-in-Ok-read_call : goal.returns-in-Ok-read_call
returns-in-Ok-read_call g c = λ caller life call this fits.
    let mount = c.args.common.now.mount.now in
    let ops = c.args.common.now.ops.now in
    let way = c.args.way in
    let may = c.requires.request in
    let is = request-read mount ops caller life way call c.args.bytes.now c.in-Ok._number c.in-Ok.request (sym c.read_request.ensures.exact ∙ c.in-Ok.is) this in
    let reads = subst (λ (n : ℕ). Reads n ops c.frame.result.now c.read_call.result) c.page_size-page_size.ensures.value c.read_call.ensures.only in
    let same = call-read mount ops way call c.frame.result.now c.read_call.result c.in-Ok-read_call.received c.page_size-page_size.ensures.sound (may.framed.head.subcontract_low, may.framed.head.subcontract_high) may.framed.head.tag fits (c.frame.ensures ∙ is.frame_is) reads c.in-Ok-read_call.is in
    serves-as c.in-Ok.request.caller caller c.in-Ok.request.life life way.file c.args.node c.in-Ok-read_call.received.call call c.args.pass.now c.call_at.new.pass c.call_at.new.out c.call_at.result c.served.result
    is.caller_is is.life_is (ap (λ (r : Received). r.call) same) c.call_at.ensures c.served.ensures

pub returns-in-Err-Memory : goal.returns-in-Err-Memory
returns-in-Err-Memory g c = λ caller life call this fits. inr (refl, refl)
