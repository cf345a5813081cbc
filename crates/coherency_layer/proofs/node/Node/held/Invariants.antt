use Rattle.std.proofs.Common.{◌≡◌, ◌≤◌}
use Rattle.tower_core.specs.Count.{count_below}
use Rattle.tower_core.specs.Trail.{holds}
use Rattle.coherency_layer.specs.Node.{side}
use Rattle.coherency_layer.proofs.node.Node.held.Given as goal

abbrev pub invariant-loop-page : goal.invariant-loop-page
invariant-loop-page l = record { count : l.held ≡ count_below (λ page. holds (side l.self page).right) l.page; most : l.held ≤ l.page }
