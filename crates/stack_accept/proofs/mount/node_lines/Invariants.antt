use Rattle.std.proofs.Common.{◌≡◌, ◌≤◌, ◌+◌, ◌++◌, drop, map, length}
use Rattle.std.specs.List.{filter}
use Rattle.stack_accept.specs.Rules.{is_node}
use Rattle.stack_accept.specs.Mount.{node_lines}
use Rattle.stack_accept.proofs.mount.node_lines.Given as goal

abbrev pub invariant-loop-line : goal.invariant-loop-line
invariant-loop-line l =
    record {
      all : map (λ line. line.now) l.nodes.items ++ filter (λ line. is_node l.lines line) (drop l.line-index l.lines) ≡ node_lines l.lines;
      few : length l.nodes.items ≤ l.line-index + 1;
    }
