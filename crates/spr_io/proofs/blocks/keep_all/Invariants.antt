use Rattle.spr_io.proofs.Sound.{KeptSoFar}
use Rattle.spr_io.proofs.blocks.keep_all.Given as goal

abbrev pub invariant-loop-block : goal.invariant-loop-block
invariant-loop-block l = KeptSoFar l.initial.blocks l.blocks l.block-index
