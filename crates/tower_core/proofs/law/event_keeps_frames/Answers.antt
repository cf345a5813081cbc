use Rattle.tower_core.proofs.Frames.{event_frames}
use Rattle.tower_core.proofs.law.event_keeps_frames.Goals as goal

pub returns : goal.returns
returns c = event_frames
