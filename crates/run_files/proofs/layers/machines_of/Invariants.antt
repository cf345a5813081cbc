use Rattle.std.proofs.Common.{◌≡◌, take, map}
use Rattle.run_files.proofs.layers.machines_of.Given as goal

abbrev pub invariant-loop-node : goal.invariant-loop-node
invariant-loop-node l = l.machines.items ≡ map (λ node. node.machine) (take l.node-index l.mount.nodes)
