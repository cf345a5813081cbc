use Rattle.std.proofs.Common.{◌∙◌, sym, ap}
use Rattle.tower_log.specs.Log.{place_of}
use Rattle.tower_log.specs.Trail.{TrailSeen}
use Rattle.tower_log.proofs.MergedLaws.{place_of-merged}
use Rattle.tower_log.proofs.trail.Trail.len.Goals as goal

pub returns : goal.returns
returns c = c.len.ensures ∙ (sym (place_of-merged c.self.inside.blocks.entries c.self.inside.notes.items) ∙ ap (λ (t : TrailSeen). place_of t.log) c.self.view_is)
