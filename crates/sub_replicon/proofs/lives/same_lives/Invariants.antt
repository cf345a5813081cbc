use Rattle.std.proofs.Common.{◌≡◌, take}
use Rattle.sub_replicon.proofs.lives.same_lives.Given as goal

abbrev pub invariant-loop-life : goal.invariant-loop-life
invariant-loop-life l = l.copy.items ≡ take l.life-index l.lives
