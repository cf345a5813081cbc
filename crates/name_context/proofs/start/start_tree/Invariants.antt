use Rattle.std.proofs.Common.{◌≡◌, take}
use Rattle.name_context.specs.Start.{start_names}
use Rattle.name_context.proofs.start.start_tree.Given as goal

abbrev pub invariant-loop-view : goal.invariant-loop-view
invariant-loop-view l = l.tree ≡ start_names (take l.view-index l.views) l.files
