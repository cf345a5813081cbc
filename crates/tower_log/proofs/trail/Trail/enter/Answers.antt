use Rattle.std.proofs.Common.{◌∙◌, ◌++◌, ◌∷◌, ◌<◌, [], ℕ, length, length-append, ap, sym, subst, arith}
use Rattle.tower_log.specs.declared.logged.Logged.TheVariants.{Entered}
use Rattle.tower_log.specs.Log.{place_of}
use Rattle.tower_log.specs.Merged.{merged, ArePlaced}
use Rattle.tower_log.specs.Trail.{TrailSeen}
use Rattle.tower_log.proofs.MergedLaws.{log-entered, placed-more, place_of-merged}
use Rattle.tower_log.proofs.TrailLaws.{counts-entered, count-fits}
use Rattle.tower_log.proofs.trail.Trail.enter.Goals as goal

pub count-requires-clause-fits : goal.count-requires-clause-fits
count-requires-clause-fits c = λ caller own.
    count-fits (merged 0 c.self.inside.blocks.entries c.self.inside.notes.items) c.self.inside.counters.list caller c.self.invariant.counts
    (subst (λ (t : TrailSeen). place_of t.log < 4194304) (sym c.self.view_is) c.requires.few)

pub push-requires-clause-few : goal.push-requires-clause-few
push-requires-clause-few c =
    let few = subst (λ (t : TrailSeen). place_of t.log < 4194304) (sym c.self.view_is) c.requires.few in
    let is = place_of-merged c.self.inside.blocks.entries c.self.inside.notes.items in
    omega arith

pub invariant_of-self : goal.invariant_of-self
invariant_of-self c =
    let log = log-entered c.self.inside.blocks.entries c.push.new.self.entries c.self.inside.notes.items c.args.entry c.self.invariant.placed c.push.ensures.entries in
    let len = ap length c.push.ensures.entries ∙ length-append c.self.inside.blocks.entries (c.args.entry ∷ []) in
    let room = ap (λ (t : TrailSeen). t.room) c.self.view_is in
    record {
      counts = counts-entered _ _ c.args.entry c.self.inside.counters.list c.count.new.self.list log c.self.invariant.counts c.count.ensures.counts;
      placed = subst (λ (end : ℕ). ArePlaced 0 end c.self.inside.notes.items) (sym len) (placed-more 0 _ c.self.inside.notes.items c.self.invariant.placed);
      pool = c.self.invariant.pool;
      entry_room = omega arith;
      caller_room = omega arith;
      note_room = c.self.invariant.note_room;
    }

pub returns-clause-entered : goal.returns-clause-entered
returns-clause-entered c =
    log-entered c.self.inside.blocks.entries c.push.new.self.entries c.self.inside.notes.items c.args.entry c.self.invariant.placed c.push.ensures.entries
    ∙ ap (λ (t : TrailSeen). t.log ++ Entered c.args.entry ∷ []) c.self.view_is
