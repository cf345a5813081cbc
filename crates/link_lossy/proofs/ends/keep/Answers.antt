use Rattle.std.proofs.Common.{◌≡◌, arith}
use Rattle.link_lossy.specs.Forms.{reply_bytes}
use Rattle.link_lossy.proofs.Replies.{length-reply_bytes}
use Rattle.link_lossy.proofs.ends.keep.Goals as goal

pub returns-clause-small : goal.returns-clause-small
returns-clause-small c =
    let bytes : c.put_reply.new.buf.bytes ≡ reply_bytes c.args.reply.now = grind (arith, c.in-Ok.ensures.ok.bytes, c.clear.ensures.bytes) in
    rw bytes (omega (arith, length-reply_bytes c.args.reply.now))
