use Rattle.std.proofs.Common.{◌≡◌, Ok, sym, ◌∙◌}
use Rattle.file_frames.specs.Frames.{received_frame}
use Rattle.file_frames.proofs.ReadLaws.{received_is, read_only, read_cause}
use Rattle.file_frames.proofs.reading.read_call.Goals as goal

pub returns-in-Ok-clause-only : goal.returns-in-Ok-clause-only
returns-in-Ok-clause-only c = λ r is e.
    let read : c.read_frame.result ≡ Ok (received_frame c.args.ops.now c.args.page_size r) = c.read_frame.ensures.only (received_frame c.args.ops.now c.args.page_size r) (received_is c.args.ops.now c.args.page_size c.requires.size c.know_numbers.ensures r is) e in
    let same : c.in-Ok.frame ≡ received_frame c.args.ops.now c.args.page_size r = cc (read, c.in-Ok.is) in
    read_only c.args.ops.now c.args.page_size c.requires.size c.know_numbers.ensures c.in-Ok.frame c.received.result c.received.ensures.found c.received.ensures.refused r is same

pub returns-in-Ok-clause-refused : goal.returns-in-Ok-clause-refused
returns-in-Ok-clause-refused c =
    read_cause c.args.ops.now c.args.page_size c.requires.size c.know_numbers.ensures c.args.bytes.now c.in-Ok.frame c.received.result
    (sym c.read_frame.ensures.exact ∙ c.in-Ok.is)
    (λ g is e. sym c.read_frame.ensures.exact ∙ c.read_frame.ensures.only g is e)
    c.received.ensures.refused

pub returns-in-Err-clause-only : goal.returns-in-Err-clause-only
returns-in-Err-clause-only c = λ r is e.
    let read : c.read_frame.result ≡ Ok (received_frame c.args.ops.now c.args.page_size r) = c.read_frame.ensures.only (received_frame c.args.ops.now c.args.page_size r) (received_is c.args.ops.now c.args.page_size c.requires.size c.know_numbers.ensures r is) e in
    cc (read, c.in-Err.is)
