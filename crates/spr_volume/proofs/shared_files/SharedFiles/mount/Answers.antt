use Rattle.std.proofs.Common.{◌≡◌, [], refl, rules, ◌∙◌}
use Rattle.spr_volume.proofs.Passing.{closed_all, fresh_is, fresh_locks, fresh_pass, fresh_towers, made_all}
use Rattle.spr_volume.proofs.RowLemmas.{fresh_whole}
use Rattle.spr_volume.proofs.shared_files.SharedFiles.mount.Goals as goal

pub close_all-requires-clause-seats : goal.close_all-requires-clause-seats
close_all-requires-clause-seats g c κs within =
    let m = c.lock_all.ensures.made in
    fresh_whole c.args.callers m.0 c.lock_all.new.locks.items c.lock_all.new.seats.items m.2

pub returns-then-is_err-clause-err : goal.returns-then-is_err-clause-err
returns-then-is_err-clause-err g c =
    let m = c.lock_all.ensures.made in
    let closed = c.close_all.ensures in
    closed_all c.args.callers c.args.towers.items c.reverse.new.self.items c.lock_all.new.towers.items m.0 closed.0 c.close_all.result.items c.lock_all.new.locks.items c.lock_all.new.seats.items c.reverse.ensures.items m.1 m.2 closed.2 closed.1

pub invariant_of-volume : goal.invariant_of-volume
invariant_of-volume g c =
    let m = c.lock_all.ensures.made in
    fresh_locks c.args.callers m.0 c.lock_all.new.locks.items c.lock_all.new.seats.items m.2

pub invariant_of-pass : goal.invariant_of-pass
invariant_of-pass g c =
    let m = c.lock_all.ensures.made in
    let none : c.lock_all.new.towers.items ≡ [] = search rules in
    fresh_is c.args.callers _ m.0 c.lock_all.new.towers.items c.lock_all.new.locks.items c.lock_all.new.seats.items c.requires m.2 none c.lock_all.ensures.room

pub returns-clause-volume : goal.returns-clause-volume
returns-clause-volume g c =
    let m = c.lock_all.ensures.made in
    let none : c.lock_all.new.towers.items ≡ [] = search rules in
    record {
      towers_are = fresh_towers c.args.callers m.0 c.lock_all.new.locks.items c.lock_all.new.seats.items m.2 ∙ made_all c.args.towers.items c.reverse.new.self.items c.lock_all.new.towers.items m.0 c.reverse.ensures.items m.1 none;
      end_is = refl;
    }

pub returns-clause-pass : goal.returns-clause-pass
returns-clause-pass g c =
    let m = c.lock_all.ensures.made in
    fresh_pass c.args.callers m.0 c.lock_all.new.locks.items c.lock_all.new.seats.items m.2
