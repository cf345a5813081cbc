use Rattle.std.proofs.Common.{◌≡◌, [], ◌∷◌, ◌++◌, take}
use Rattle.name_context.specs.Names.{context}
use Rattle.name_context.specs.Start.{object_names}
use Rattle.name_context.proofs.start.put_view.Given as goal

abbrev pub invariant-loop-at : goal.invariant-loop-at
invariant-loop-at l = l.tree ≡ (l.fn.tree ++ record { path = l.view ∷ []; kept = context } ∷ []) ++ object_names l.view l.node 0 (take l.at l.files)
