use Rattle.tower_core.proofs.Trails.{event_ground}
use Rattle.tower_core.proofs.Frames.{start_coherent_state, event_coherent}
use Rattle.tower_core.proofs.law.event_keeps_coherence.Goals as goal

pub returns-clause-start : goal.returns-clause-start
returns-clause-start c = start_coherent_state

pub returns-clause-event : goal.returns-clause-event
returns-clause-event c = event_coherent

pub returns-clause-ground : goal.returns-clause-ground
returns-clause-ground c = event_ground
