use Rattle.std.proofs.Common.{List, ◌∷◌, [], length, length-append, ap, subst, sym, ◌∙◌, arith}
use Rattle.stack_engine.specs.Tower.{TowerSeen}
use Rattle.spr_volume.proofs.RowLemmas.{ClosesSoFar, closes_last, closes_more, closes_none, whole_length}
use Rattle.spr_volume.proofs.rows.close_all.Goals as goal

pub loop-lock-init : goal.loop-lock-init
loop-lock-init g c = record { so_far = closes_none c.args.locks.items c.args.seats.items c.args.room.items c.requires.seats; room = c.requires.room }

pub take_last-seat-requires : goal.take_last-seat-requires
take_last-seat-requires g c =
    let same = whole_length c.loop-lock.locks.items c.loop-lock.seats.items c.loop-lock.invariant.so_far.whole in
    let long = ap length c.in-Some.ensures.items ∙ length-append c.pop.new.self.items (c.in-Some.lock ∷ []) in
    omega arith

pub close-requires-after_bounds : goal.close-requires-after_bounds
close-requires-after_bounds g c κs within = closes_last c.args.locks.items c.loop-lock.locks.items c.pop.new.self.items c.args.seats.items c.loop-lock.seats.items c.take_last-seat.new.self.items c.args.room.items c.loop-lock.towers.items c.in-Some.lock c.take_last-seat.result c.loop-lock.invariant.so_far c.in-Some.ensures.items c.take_last-seat.ensures.items

pub loop-lock-preserved : goal.loop-lock-preserved
loop-lock-preserved g c =
    let long = ap length c.in-Some.ensures.items ∙ length-append c.pop.new.self.items (c.in-Some.lock ∷ []) in
    let longer = ap length c.push_reserved.ensures.items ∙ length-append c.loop-lock.towers.items (c.close.result ∷ []) in
    let room = c.loop-lock.invariant.room in
    let cap = c.push_reserved.ensures.capacity in
    let P : List TowerSeen → Type 0 = λ ts. ClosesSoFar c.args.locks.items c.pop.new.self.items c.args.seats.items c.take_last-seat.new.self.items c.args.room.items ts in
    record {
      so_far = subst P (sym c.push_reserved.ensures.items) (closes_more c.args.locks.items c.loop-lock.locks.items c.pop.new.self.items c.args.seats.items c.loop-lock.seats.items c.take_last-seat.new.self.items c.args.room.items c.loop-lock.towers.items c.in-Some.lock c.take_last-seat.result c.loop-lock.invariant.so_far c.in-Some.ensures.items c.take_last-seat.ensures.items c.close.result c.close.ensures);
      room = omega arith;
    }
