use Rattle.std.proofs.Common.{drop}
use Rattle.spr_io.proofs.Sound.{Keeping}
use Rattle.spr_io.proofs.blocks.keep_listed.Given as goal

abbrev pub invariant-loop-at : goal.invariant-loop-at
invariant-loop-at l = Keeping l.initial.blocks l.blocks (drop l.at-index l.listed)
