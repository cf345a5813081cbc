use Rattle.std.proofs.Common.{◌∙◌, List, sym, ap}
use Rattle.std.specs.List.{slice_get}
use Rattle.tower_log.specs.declared.logged.Entry.{Entry}
use Rattle.tower_log.specs.Log.{entries_of}
use Rattle.tower_log.specs.Trail.{TrailSeen}
use Rattle.tower_log.proofs.MergedLaws.{entries_of-merged}
use Rattle.tower_log.proofs.trail.Trail.entry.Goals as goal

pub returns : goal.returns
returns c =
    c.entry.ensures ∙ (ap (λ (es : List Entry). slice_get es c.args.place) (sym (entries_of-merged 0 c.self.inside.blocks.entries c.self.inside.notes.items))
    ∙ ap (λ (t : TrailSeen). slice_get (entries_of t.log) c.args.place) c.self.view_is)
