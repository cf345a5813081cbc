use Rattle.std.proofs.Common.{◌∙◌, length, ap}
use Rattle.hist_plain.specs.History.{mine}
use Rattle.tower_log.specs.Log.{trail_of}
use Rattle.tower_log.specs.Trail.{TrailSeen}
use Rattle.tower_log.proofs.trail.Trail.number.Goals as goal

pub returns : goal.returns
returns c = c.number.ensures ∙ (c.self.invariant.counts c.args.caller ∙ ap (λ (t : TrailSeen). length (mine (trail_of t.log) c.args.caller)) c.self.view_is)
