use Rattle.std.proofs.Common.{arith}
use Rattle.disk_format.proofs.ShapeLaws.{size_low}
use Rattle.disk_format.proofs.version_1.read_header.Goals as goal

pub long_number_at-generation-requires : goal.long_number_at-generation-requires
long_number_at-generation-requires c = omega (arith, size_low _ c.requires.shape)

pub number_at-requires : goal.number_at-requires
number_at-requires c = omega (arith, size_low _ c.requires.shape)

pub number_at-requires-else-number_at-ne-MAGIC : goal.number_at-requires-else-number_at-ne-MAGIC
number_at-requires-else-number_at-ne-MAGIC c = omega (arith, size_low _ c.requires.shape)

pub number_at-requires-else-number_at-ne-VERSION : goal.number_at-requires-else-number_at-ne-VERSION
number_at-requires-else-number_at-ne-VERSION c = omega (arith, size_low _ c.requires.shape)

pub number_at-requires-else-number_at-shape : goal.number_at-requires-else-number_at-shape
number_at-requires-else-number_at-shape c = omega (arith, size_low _ c.requires.shape)

pub slice_bounds-nonzero_place-count : goal.slice_bounds-nonzero_place-count
slice_bounds-nonzero_place-count c = omega (arith, size_low _ c.requires.shape)

pub slice_bounds-nonzero_place-start : goal.slice_bounds-nonzero_place-start
slice_bounds-nonzero_place-start c = omega (arith, size_low _ c.requires.shape)
