use Rattle.std.proofs.Common.{arith}
use Rattle.byteorder.specs.Endian.{big_bytes}
use Rattle.disk_format.proofs.HeaderLaws.{put-tail}
use Rattle.disk_format.proofs.version_1.put_long_number.Goals as goal

pub returns-clause-number : goal.returns-clause-number
returns-clause-number c = put-tail c.args.place 8 c.args.out.now c.write_u64.new.buf (big_bytes 8 c.args.number) (omega arith) c.write_u64.ensures
