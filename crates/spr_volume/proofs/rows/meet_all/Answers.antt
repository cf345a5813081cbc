use Rattle.std.proofs.Common.{length, refl, ◌∙◌, arith}
use Rattle.std.proofs.lemmas.Option.{slice_get_read, slice_get_within}
use Rattle.spr_volume.proofs.RowLemmas.{free_at, free_length, meets_more, meets_none, met_other, met_start, neighbours_at}
use Rattle.spr_volume.proofs.rows.meet_all.Goals as goal

pub loop-other-init : goal.loop-other-init
loop-other-init g c = meets_none c.args.seats.now.items c.args.others.items c.requires.neighbours

pub index-requires : goal.index-requires
index-requires g c =
    let there = met_other c.args.seats.now.items c.loop-other.seats.items c.args.others.items c.loop-other.others.items c.pop.new.self.items c.in-Some.other c.len-index.result c.loop-other.invariant c.in-Some.ensures.items (c.len-index.ensures ∙ c.pop.new.self.ok.0) in
    let inside = slice_get_within c.args.others.items c.len-index.result c.in-Some.other there in
    let same = free_length c.args.locks.now.items c.args.others.items c.requires.others in
    omega arith

pub meet-requires-clause-seat : goal.meet-requires-clause-seat
meet-requires-clause-seat g c =
    let there = met_other c.args.seats.now.items c.loop-other.seats.items c.args.others.items c.loop-other.others.items c.pop.new.self.items c.in-Some.other c.len-index.result c.loop-other.invariant c.in-Some.ensures.items (c.len-index.ensures ∙ c.pop.new.self.ok.0) in
    let inside = slice_get_within c.args.others.items c.len-index.result c.in-Some.other there in
    let same = free_length c.args.locks.now.items c.args.others.items c.requires.others in
    let start = met_start c.args.seats.now.items c.loop-other.seats.items c.args.others.items c.loop-other.others.items c.pop.new.self.items c.in-Some.other c.len-index.result c.loop-other.invariant c.in-Some.ensures.items (c.len-index.ensures ∙ c.pop.new.self.ok.0) c.index_mut.result.now c.index_mut.ensures.value in
    free_at c.args.locks.now.items c.args.seats.now.items c.len-index.result c.index.result.now c.index_mut.result.now c.requires.seats
    (slice_get_read c.args.locks.now.items (length c.args.locks.now.items) c.len-index.result c.index.result.now refl (omega arith) c.index.ensures) start

pub meet-requires-clause-other : goal.meet-requires-clause-other
meet-requires-clause-other g c =
    let there = met_other c.args.seats.now.items c.loop-other.seats.items c.args.others.items c.loop-other.others.items c.pop.new.self.items c.in-Some.other c.len-index.result c.loop-other.invariant c.in-Some.ensures.items (c.len-index.ensures ∙ c.pop.new.self.ok.0) in
    let inside = slice_get_within c.args.others.items c.len-index.result c.in-Some.other there in
    let same = free_length c.args.locks.now.items c.args.others.items c.requires.others in
    free_at c.args.locks.now.items c.args.others.items c.len-index.result c.index.result.now c.in-Some.other c.requires.others
    (slice_get_read c.args.locks.now.items (length c.args.locks.now.items) c.len-index.result c.index.result.now refl (omega arith) c.index.ensures) there

pub meet-requires-clause-neighbours : goal.meet-requires-clause-neighbours
meet-requires-clause-neighbours g c =
    neighbours_at c.args.seats.now.items c.args.others.items c.len-index.result c.index_mut.result.now c.in-Some.other c.requires.neighbours
    (met_start c.args.seats.now.items c.loop-other.seats.items c.args.others.items c.loop-other.others.items c.pop.new.self.items c.in-Some.other c.len-index.result c.loop-other.invariant c.in-Some.ensures.items (c.len-index.ensures ∙ c.pop.new.self.ok.0) c.index_mut.result.now c.index_mut.ensures.value)
    (met_other c.args.seats.now.items c.loop-other.seats.items c.args.others.items c.loop-other.others.items c.pop.new.self.items c.in-Some.other c.len-index.result c.loop-other.invariant c.in-Some.ensures.items (c.len-index.ensures ∙ c.pop.new.self.ok.0))

pub loop-other-preserved : goal.loop-other-preserved
loop-other-preserved g c =
    meets_more c.args.seats.now.items c.loop-other.seats.items c.args.others.items c.loop-other.others.items c.pop.new.self.items c.in-Some.other c.len-index.result c.loop-other.invariant c.in-Some.ensures.items (c.len-index.ensures ∙ c.pop.new.self.ok.0) c.index_mut.result.now c.index_mut.ensures.value
    c.meet.new.seat (record { is = c.meet.ensures.seat; this = c.meet.ensures.this; that = c.meet.ensures.that })
