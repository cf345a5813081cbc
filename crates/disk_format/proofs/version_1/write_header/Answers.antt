use Rattle.std.proofs.Common.{arith}
use Rattle.disk_format.proofs.ShapeLaws.{size_low}
use Rattle.disk_format.proofs.version_1.write_header.Goals as goal

pub put_number-requires : goal.put_number-requires
put_number-requires c = omega (arith, size_low _ c.requires.shape)

pub put_number-requires-2 : goal.put_number-requires-2
put_number-requires-2 c = omega (arith, size_low _ c.requires.shape)

pub put_number-requires-3 : goal.put_number-requires-3
put_number-requires-3 c = omega (arith, size_low _ c.requires.shape)

pub put_number-requires-4 : goal.put_number-requires-4
put_number-requires-4 c = omega (arith, size_low _ c.requires.shape)

pub put_long_number-requires : goal.put_long_number-requires
put_long_number-requires c = omega (arith, size_low _ c.requires.shape)
