use Rattle.std.proofs.Common.{◌≡◌, replicate}
use Rattle.spr_io.specs.Blocks.{zero_block}
use Rattle.spr_io.proofs.blocks.zero_blocks.Given as goal

abbrev pub invariant-loop : goal.invariant-loop
invariant-loop l = l.blocks.items ≡ replicate l.counter (zero_block l.size)
