use Rattle.std.proofs.Common.{List, ◌++◌, ◌∷◌, [], subst, sym, ◌∙◌}
use Rattle.spr_volume.specs.FilePasses.{FileLock, FileSeat}
use Rattle.spr_volume.proofs.RowLemmas.{LocksSoFar, locks_more}
use Rattle.spr_volume.proofs.rows.lock_all.Goals as goal

pub loop-tower-preserved : goal.loop-tower-preserved
loop-tower-preserved g c =
    let i = c.loop-tower.invariant in
    let P : List FileLock → Type 0 = λ ls. LocksSoFar c.args.callers c.args.towers.now.items c.pop.new.self.items ls c.push_reserved-in-Ok.new.self.items in
    let Q : List FileSeat → Type 0 = λ ss. LocksSoFar c.args.callers c.args.towers.now.items c.pop.new.self.items (c.loop-tower.locks.items ++ c.in-Ok.lock ∷ []) ss in
    record {
      so_far = subst P (sym c.push_reserved.ensures.items) (subst Q (sym c.push_reserved-in-Ok.ensures.items)
          (locks_more c.args.callers c.args.towers.now.items c.loop-tower.towers.items c.pop.new.self.items c.loop-tower.locks.items c.loop-tower.seats.items c.in-Some.tower c.in-Ok.lock c.in-Ok.seat i.so_far c.in-Some.ensures.items
          c.in-Ok.ensures.fresh));
      locks = c.push_reserved.ensures.capacity ∙ i.locks;
      seats = c.push_reserved-in-Ok.ensures.capacity ∙ i.seats;
      towers = c.pop.ensures.capacity ∙ i.towers;
    }
