use Rattle.std.proofs.Common.{ℕ, subst}
use Rattle.std.specs.List.{AllByRecursion}
use Rattle.spr_volume.specs.FilePasses.{IsSeat}
use Rattle.spr_volume.proofs.Passing.{all_that, all_this, free_seats, met_is, met_pass, next_at, next_seats}
use Rattle.spr_volume.proofs.shared_files.SharedFiles.meet.Goals as goal

pub meet_all-requires-clause-seats : goal.meet_all-requires-clause-seats
meet_all-requires-clause-seats g c κs within =
    free_seats c.args.self.now c.args.pass.now c.self.inside.end c.pass.inside.first c.pass.inside.end c.self.inside.locks.items c.pass.inside.seats.items c.self.view_is c.pass.view_is c.requires.pass c.pass.invariant.seated

pub meet_all-requires-clause-others : goal.meet_all-requires-clause-others
meet_all-requires-clause-others g c κs within =
    free_seats c.args.self.now c.args.other c.self.inside.end c.other.inside.first c.other.inside.end c.self.inside.locks.items c.other.inside.seats.items c.self.view_is c.other.view_is c.requires.other c.other.invariant.seated

pub meet_all-requires-clause-neighbours : goal.meet_all-requires-clause-neighbours
meet_all-requires-clause-neighbours g c κs within =
    let next = next_at c.args.pass.now c.args.other c.pass.inside.first c.pass.inside.end c.other.inside.first c.other.inside.end c.pass.inside.seats.items c.other.inside.seats.items c.pass.view_is c.other.view_is c.requires.neighbours in
    let P : ℕ → Type 0 = λ n. AllByRecursion (IsSeat n c.other.inside.end) c.other.inside.seats.items in
    next_seats c.self.inside.locks.items c.pass.inside.first c.pass.inside.end c.other.inside.end c.pass.inside.seats.items c.other.inside.seats.items
    (free_seats c.args.self.now c.args.pass.now c.self.inside.end c.pass.inside.first c.pass.inside.end c.self.inside.locks.items c.pass.inside.seats.items c.self.view_is c.pass.view_is c.requires.pass c.pass.invariant.seated)
    (free_seats c.args.self.now c.args.other c.self.inside.end c.other.inside.first c.other.inside.end c.self.inside.locks.items c.other.inside.seats.items c.self.view_is c.other.view_is c.requires.other c.other.invariant.seated)
    c.pass.invariant.seated (subst P next c.other.invariant.seated)

pub invariant_of-pass : goal.invariant_of-pass
invariant_of-pass g c =
    let next = next_at c.args.pass.now c.args.other c.pass.inside.first c.pass.inside.end c.other.inside.first c.other.inside.end c.pass.inside.seats.items c.other.inside.seats.items c.pass.view_is c.other.view_is c.requires.neighbours in
    met_is c.pass.inside.first c.pass.inside.end c.other.inside.first c.other.inside.end _ _ c.pass.inside.seats.items c.other.inside.seats.items c.meet_all.new.seats.items c.pass.inside.room.items c.other.inside.room.items next c.pass.invariant c.other.invariant c.meet_all.ensures

pub returns-clause-pass : goal.returns-clause-pass
returns-clause-pass g c =
    met_pass c.pass.inside.first c.pass.inside.end c.other.inside.first c.other.inside.end c.pass.inside.seats.items c.other.inside.seats.items c.meet_all.new.seats.items c.args.pass.now c.args.other c.pass.view_is c.other.view_is c.meet_all.ensures

pub returns-clause-this : goal.returns-clause-this
returns-clause-this g c =
    all_this c.pass.inside.first c.pass.inside.end c.other.inside.end c.pass.inside.seats.items c.other.inside.seats.items c.meet_all.new.seats.items c.args.pass.now c.pass.view_is c.meet_all.ensures c.pass.invariant.seated

pub returns-clause-that : goal.returns-clause-that
returns-clause-that g c =
    all_that c.pass.inside.first c.other.inside.first c.other.inside.end c.pass.inside.seats.items c.other.inside.seats.items c.meet_all.new.seats.items c.args.other c.other.view_is c.meet_all.ensures c.other.invariant.seated
