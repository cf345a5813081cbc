use Rattle.std.proofs.Common.{◌∙◌, ◌++◌, ◌∷◌, [], List, length, ap, sym, subst, arith}
use Rattle.tower_log.specs.declared.logged.Logged.TheVariants.{Noted}
use Rattle.tower_log.specs.declared.notes.Placed.{Placed}
use Rattle.tower_log.specs.Merged.{ArePlaced}
use Rattle.tower_log.specs.Trail.{TrailSeen}
use Rattle.tower_log.proofs.MergedLaws.{log-noted, placed-noted}
use Rattle.tower_log.proofs.TrailLaws.{counts-noted}
use Rattle.tower_log.proofs.trail.Trail.note.Goals as goal

pub invariant_of-self : goal.invariant_of-self
invariant_of-self c =
    let placed : Placed = record { before = c.len-before.result; note = c.args.note } in
    let log = log-noted c.self.inside.blocks.entries c.self.inside.notes.items c.push_reserved.new.self.items placed c.self.invariant.placed c.len-before.ensures c.push_reserved.ensures.items in
    let room = ap (λ (t : TrailSeen). t.room) c.self.view_is in
    record {
      counts = counts-noted _ _ c.args.note c.self.inside.counters.list log c.self.invariant.counts;
      placed = subst (λ (notes : List Placed). ArePlaced 0 (length c.self.inside.blocks.entries) notes) (sym c.push_reserved.ensures.items)
          (placed-noted 0 _ c.self.inside.notes.items placed c.len-before.ensures c.self.invariant.placed);
      pool = c.self.invariant.pool;
      entry_room = c.self.invariant.entry_room;
      caller_room = c.self.invariant.caller_room;
      note_room = omega arith;
    }

pub returns-clause-noted : goal.returns-clause-noted
returns-clause-noted c =
    let placed : Placed = record { before = c.len-before.result; note = c.args.note } in
    log-noted c.self.inside.blocks.entries c.self.inside.notes.items c.push_reserved.new.self.items placed c.self.invariant.placed c.len-before.ensures c.push_reserved.ensures.items
    ∙ ap (λ (t : TrailSeen). t.log ++ Noted c.args.note ∷ []) c.self.view_is
