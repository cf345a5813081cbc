use Rattle.std.proofs.Common.{◌≡◌, ◌++◌, drop, map}
use Rattle.std.specs.List.{filter_map}
use Rattle.stack_accept.specs.Mount.{node_of}
use Rattle.stack_accept.proofs.mount.nodes_of.Given as goal

abbrev pub invariant-loop-line : goal.invariant-loop-line
invariant-loop-line l =
    l.nodes.items ++ filter_map (λ line. node_of l.machines (map (λ line. line.now) l.lines) line) (map (λ line. line.now) (drop l.line-index l.lines))
    ≡ filter_map (λ line. node_of l.machines (map (λ line. line.now) l.lines) line) (map (λ line. line.now) l.lines)
