use Rattle.tower_core.proofs.Legals.{legal_run}
use Rattle.tower_core.proofs.Trails.{access_newest}
use Rattle.tower_core.proofs.Frames.{run_coherent}
use Rattle.tower_core.specs.Trail.{state_of}
use Rattle.tower_core.proofs.law.access_sees_newest.Goals as goal

pub returns : goal.returns
returns c = λ shape size pages bytes trail tree legal caller number node page op of ok.
    access_newest shape pages (state_of shape trail) _ caller number node page op ((run_coherent shape pages trail tree (legal_run shape size pages bytes trail legal)).columns page) of ok
