use Rattle.std.proofs.Common.{◌≡◌, ◌++◌, drop}
use Rattle.std.specs.List.{filter_map}
use Rattle.name_context.specs.declared.tree.Bound.{Bound}
use Rattle.name_context.specs.Listed.{part_below}
use Rattle.name_context.proofs.tree.NameTree.list.Given as goal

abbrev pub invariant-loop-bound : goal.invariant-loop-bound
invariant-loop-bound l =
    l.texts.items ++ filter_map (λ (bound : Bound). part_below l.above bound.path) (drop l.bound-index l.bound-items) ≡ filter_map (λ (bound : Bound). part_below l.above bound.path) l.bound-items
