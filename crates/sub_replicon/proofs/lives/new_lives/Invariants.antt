use Rattle.std.proofs.Common.{◌≡◌, take}
use Rattle.sub_replicon.specs.Replicas.{new_lives}
use Rattle.sub_replicon.proofs.lives.new_lives.Given as goal

abbrev pub invariant-loop : goal.invariant-loop
invariant-loop l = l.lives.items ≡ new_lives (take l.index l.doors)
