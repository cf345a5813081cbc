use Rattle.std.proofs.Common.{take}
use Rattle.sub_replicon.specs.Replicas.{AreOfOneFile}
use Rattle.sub_replicon.proofs.replicas.are_of_one_file.Given as goal

abbrev pub invariant-loop-k : goal.invariant-loop-k
invariant-loop-k l = AreOfOneFile (take l.k l.doors)
