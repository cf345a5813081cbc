use Rattle.std.proofs.Common.{arith}
use Rattle.spr_report.proofs.Joined.{joined}
use Rattle.spr_report.proofs.bytes.head_bytes.Goals as goal

pub returns : goal.returns
returns c = rw (c.write_first.ensures.bytes, c.write_second.ensures) (joined _ _ _ c.write_first.ensures.len (omega arith))
