-- What holds of the state of every engine.
use Rattle.std.proofs.Common.{◌≡◌, ℕ}
use Rattle.tower_core.specs.declared.right.Right.{Right}
use Rattle.tower_core.specs.Trail.{IsCoherentState}
use Rattle.tower_core.proofs.Frames.{run_coherent}
use Rattle.tower_core.proofs.Trails.{trail_ground}
use Rattle.stack_engine.specs.Engine.{EngineSeen, IsSound, events_in, file_in, state_in, tree_in}

pub coherent_in : (e : EngineSeen) → IsSound e → IsCoherentState (tree_in e) (file_in e).pages (state_in e)
coherent_in e sound = run_coherent (tree_in e) (file_in e).pages (events_in e) sound.true_to.tree sound.true_to.run

pub ground_in : (e : EngineSeen) → IsSound e → (page : ℕ) → ((state_in e).column page).right 0 ≡ Right.Write
ground_in e sound page = trail_ground (tree_in e) (file_in e).pages (events_in e) sound.true_to.tree sound.true_to.run page
