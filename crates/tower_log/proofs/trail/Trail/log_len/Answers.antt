use Rattle.std.proofs.Common.{◌∙◌, sym, ap, arith, length}
use Rattle.tower_log.specs.Log.{place_of}
use Rattle.tower_log.specs.Trail.{TrailSeen}
use Rattle.tower_log.proofs.MergedLaws.{place_of-merged, length-merged}
use Rattle.tower_log.proofs.trail.Trail.log_len.Goals as goal

pub returns : goal.returns
returns c =
    let entries = c.self.inside.blocks.entries in
    let notes = c.self.inside.notes.items in
    let all = ap (λ (t : TrailSeen). length t.log) (sym c.self.view_is) in
    let parts = length-merged 0 entries notes in
    let events = c.len.ensures in
    let same = ap (λ (t : TrailSeen). place_of t.log) (sym c.self.view_is) in
    let place = place_of-merged entries notes in
    let seen = c.len-2.ensures in
    omega arith
