use Rattle.std.proofs.Common.{rules, ◌≤◌, length, sym}
use Rattle.pager_channel.proofs.Read.{long_frame}
use Rattle.pager_channel.proofs.reading.frame_of.Goals as goal

pub returns : goal.returns
returns c =
    let long : 24 ≤ length c.args.bytes.now = search rules in
    rw (c.frame_of_parts.ensures, c.head_of-head.ensures, c.pad_of-pad.ensures, c.split_at.ensures.back) (sym (long_frame c.args.ops.now c.args.bytes.now long))
