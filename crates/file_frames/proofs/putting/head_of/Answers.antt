use Rattle.std.proofs.Common.{◌≡◌, ◌<◌, ◌^◌, ap, ◌∙◌, arith}
use Rattle.file_frames.specs.Calls.{operation_of}
use Rattle.pager_channel.specs.Numbers.{number_of}
use Rattle.pager_channel.specs.declared.operation.Operation.{Operation}
use Rattle.file_frames.proofs.CallLaws.{call_frame, page_sized}
use Rattle.file_frames.proofs.putting.head_of.Goals as goal

pub returns-clause-frame : goal.returns-clause-frame
returns-clause-frame c =
    let is : c.number.result ≡ number_of c.args.ops.now (operation_of c.args.call.now) = c.number.ensures.number ∙ ap (λ (which : Operation). number_of c.args.ops.now which) c.operation.ensures in
    let fits : number_of c.args.ops.now (operation_of c.args.call.now) < 2 ^ 16 = omega (arith, c.number.type_inv) in
    call_frame c.args.ops.now c.args.page_size c.args.subcontract c.args.tag c.args.call.now (page_sized c.args.page_size c.requires.size) c.requires.subcontract.0 c.requires.subcontract.1 (omega arith) fits c.requires.call
