use Rattle.std.proofs.Common.{List, vec_capacity, ap, subst, sym, ◌∙◌}
use Rattle.spr_volume.specs.FilePasses.{FileSeat, IsPass}
use Rattle.spr_volume.proofs.Passing.{cut_within, free_seats, high_is, high_pass, low_is, low_pass, pass_of, within_seats}
use Rattle.spr_volume.proofs.shared_files.SharedFiles.split.Goals as goal

pub split_all-requires-clause-seats : goal.split_all-requires-clause-seats
split_all-requires-clause-seats g c κs within =
    free_seats c.args.self.now c.args.pass.now c.self.inside.end c.pass.inside.first c.pass.inside.end c.self.inside.locks.items c.pass.inside.seats.items c.self.view_is c.pass.view_is c.requires.pass c.pass.invariant.seated

pub split_all-requires-clause-at : goal.split_all-requires-clause-at
split_all-requires-clause-at g c κs within =
    let inside = cut_within c.args.pass.now c.pass.inside.first c.pass.inside.end c.args.at c.pass.inside.seats.items c.pass.view_is c.requires.at in
    within_seats c.pass.inside.first c.pass.inside.end c.args.at c.pass.inside.seats.items inside.0 inside.1 c.pass.invariant.seated

pub invariant_of-result : goal.invariant_of-result
invariant_of-result g c =
    let inside = cut_within c.args.pass.now c.pass.inside.first c.pass.inside.end c.args.at c.pass.inside.seats.items c.pass.view_is c.requires.at in
    let P : List FileSeat → Type 0 = λ seats. IsPass c.args.at c.pass.inside.end seats c.new.result.items (vec_capacity c.new.result) in
    subst P (sym c.split_all.ensures.high) (high_is c.pass.inside.first c.pass.inside.end c.args.at _ _ c.pass.inside.seats.items c.pass.inside.room.items c.new.result.items c.pass.invariant inside.0 inside.1 c.new.ensures.items)

pub invariant_of-pass : goal.invariant_of-pass
invariant_of-pass g c =
    let inside = cut_within c.args.pass.now c.pass.inside.first c.pass.inside.end c.args.at c.pass.inside.seats.items c.pass.view_is c.requires.at in
    let P : List FileSeat → Type 0 = λ seats. IsPass c.pass.inside.first c.args.at seats c.pass.inside.room.items (vec_capacity c.pass.inside.room) in
    subst P (sym c.split_all.ensures.low) (low_is c.pass.inside.first c.pass.inside.end c.args.at _ c.pass.inside.seats.items c.pass.inside.room.items c.pass.invariant inside.0)

pub returns-clause-low : goal.returns-clause-low
returns-clause-low g c =
    ap (pass_of c.pass.inside.first c.args.at) c.split_all.ensures.low ∙ low_pass c.pass.inside.first c.pass.inside.end c.args.at c.pass.inside.seats.items c.args.pass.now c.pass.view_is

pub returns-clause-high : goal.returns-clause-high
returns-clause-high g c =
    ap (pass_of c.args.at c.pass.inside.end) c.split_all.ensures.high ∙ high_pass c.pass.inside.first c.pass.inside.end c.args.at c.pass.inside.seats.items c.args.pass.now c.pass.view_is
