use Rattle.std.proofs.Common.{arith}
use Rattle.byteorder.specs.Endian.{big_bytes}
use Rattle.disk_format.proofs.HeaderLaws.{put-tail}
use Rattle.disk_format.proofs.version_1.put_number.Goals as goal

pub returns-clause-number : goal.returns-clause-number
returns-clause-number c = put-tail c.args.place 4 c.args.out.now c.write_u32.new.buf (big_bytes 4 c.args.number) (omega arith) c.write_u32.ensures
