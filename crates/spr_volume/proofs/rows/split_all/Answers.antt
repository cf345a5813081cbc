use Rattle.std.proofs.Common.{◌<◌, length, ap, sym, ◌∙◌, arith}
use Rattle.spr_volume.specs.FilePasses.{FileSeat}
use Rattle.spr_volume.specs.Rows.{IsWithin}
use Rattle.spr_volume.proofs.RowLemmas.{all_get, cut_all, cut_length, cut_next, free_length, ok_is, others_all, others_length, others_next, seats_next}
use Rattle.spr_volume.proofs.rows.split_all.Goals as goal

pub index_mut-requires : goal.index_mut-requires
index_mut-requires g c =
    let same = free_length c.args.locks.now.items c.args.seats.now.items c.requires.seats in
    let now = ap length c.loop-index.invariant.low ∙ cut_length c.args.at c.loop-index.index c.args.seats.now.items in
    omega (arith, c.loop-index-test.true, c.len-index-end.ensures)

pub split-requires-clause-seat : goal.split-requires-clause-seat
split-requires-clause-seat g c =
    (cut_next c.args.at c.loop-index.index c.args.locks.now.items c.args.seats.now.items c.loop-index.seats.items c.index.result.now c.index_mut.result.now c.requires.seats c.loop-index.invariant.low (omega (arith, c.loop-index-test.true, c.len-index-end.ensures)) c.index.ensures c.index_mut.ensures.value).1

pub split-requires-clause-at : goal.split-requires-clause-at
split-requires-clause-at g c =
    let found = (cut_next c.args.at c.loop-index.index c.args.locks.now.items c.args.seats.now.items c.loop-index.seats.items c.index.result.now c.index_mut.result.now c.requires.seats c.loop-index.invariant.low (omega (arith, c.loop-index-test.true, c.len-index-end.ensures)) c.index.ensures c.index_mut.ensures.value).0 in
    let P : FileSeat → Type 0 = IsWithin c.args.at in
    all_get P c.args.seats.now.items c.loop-index.index c.index_mut.result.now c.requires.at found

pub push_reserved-requires : goal.push_reserved-requires
push_reserved-requires g c =
    let same = free_length c.args.locks.now.items c.args.seats.now.items c.requires.seats in
    let inside : c.loop-index.index < length c.args.seats.now.items = omega (arith, c.loop-index-test.true, c.len-index-end.ensures) in
    let made = ap length c.loop-index.invariant.high ∙ others_length c.args.at c.loop-index.index c.args.seats.now.items (omega arith) in
    let room = c.requires.room in
    let cap = c.loop-index.invariant.room in
    omega arith

pub loop-index-preserved : goal.loop-index-preserved
loop-index-preserved g c =
    let found = (cut_next c.args.at c.loop-index.index c.args.locks.now.items c.args.seats.now.items c.loop-index.seats.items c.index.result.now c.index_mut.result.now c.requires.seats c.loop-index.invariant.low (omega (arith, c.loop-index-test.true, c.len-index-end.ensures)) c.index.ensures c.index_mut.ensures.value).0 in
    record {
      low = seats_next c.args.at c.loop-index.index c.args.seats.now.items c.loop-index.seats.items c.index_mut.result.now c.split.new.seat c.loop-index.invariant.low found c.split.ensures.low;
      high = others_next c.args.at c.loop-index.index c.args.seats.now.items c.loop-index.others.items c.push_reserved.new.self.items c.index_mut.result.now c.unwrap-other.result c.loop-index.invariant.high found c.push_reserved.ensures.items
          (ok_is _ _ (sym c.unwrap-other.ensures ∙ c.split.ensures.high));
      room = c.push_reserved.ensures.capacity ∙ c.loop-index.invariant.room;
    }

pub returns-clause-low : goal.returns-clause-low
returns-clause-low g c =
    let same = free_length c.args.locks.now.items c.args.seats.now.items c.requires.seats in
    c.loop-index.invariant.low ∙ cut_all c.args.at c.loop-index.index c.args.seats.now.items (omega (arith, c.loop-index-test.false, c.len-index-end.ensures))

pub returns-clause-high : goal.returns-clause-high
returns-clause-high g c =
    let same = free_length c.args.locks.now.items c.args.seats.now.items c.requires.seats in
    c.loop-index.invariant.high ∙ others_all c.args.at c.loop-index.index c.args.seats.now.items (omega (arith, c.loop-index-test.false, c.len-index-end.ensures))
