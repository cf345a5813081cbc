use Rattle.std.proofs.Common.{List, [], sym, subst}
use Rattle.tower_log.specs.declared.logged.Logged.{Logged}
use Rattle.tower_log.specs.Log.{place_of}
use Rattle.spr_volume.specs.FileCalls.{Called, IsSync}
use Rattle.spr_volume.specs.FilePasses.{known}
use Rattle.spr_volume.specs.TowerShared.{IsNeeded, IsPlain}
use Rattle.spr_volume.proofs.Passing.{called_at, called_is, caller_at, knows_at, found_at, known_at}
use Rattle.spr_volume.proofs.shared_files.SharedFiles.sync.Goals as goal

pub sync-requires-clause-seat : goal.sync-requires-clause-seat
sync-requires-clause-seat g c κs within =
    let at = found_at c.args.self.now c.args.pass.now c.self.inside.end c.pass.inside.first c.pass.inside.end c.args.file c.self.inside.locks.items c.pass.inside.seats.items c.index-lock.result.now c.index_mut.result.now c.self.view_is c.pass.view_is
    c.requires.pass c.requires.file c.pass.invariant.seated c.index-lock.ensures c.index_mut.ensures.value in
    at.free

pub sync-requires-clause-caller : goal.sync-requires-clause-caller
sync-requires-clause-caller g c κs within =
    let at = found_at c.args.self.now c.args.pass.now c.self.inside.end c.pass.inside.first c.pass.inside.end c.args.file c.self.inside.locks.items c.pass.inside.seats.items c.index-lock.result.now c.index_mut.result.now c.self.view_is c.pass.view_is
    c.requires.pass c.requires.file c.pass.invariant.seated c.index-lock.ensures c.index_mut.ensures.value in
    caller_at c.args.pass.now c.pass.inside.first c.pass.inside.end c.args.caller c.pass.inside.seats.items c.index_mut.result.now c.pass.view_is at.range c.requires.caller

pub sync-requires-clause-upper : goal.sync-requires-clause-upper
sync-requires-clause-upper g c κs within =
    let at = found_at c.args.self.now c.args.pass.now c.self.inside.end c.pass.inside.first c.pass.inside.end c.args.file c.self.inside.locks.items c.pass.inside.seats.items c.index-lock.result.now c.index_mut.result.now c.self.view_is c.pass.view_is
    c.requires.pass c.requires.file c.pass.invariant.seated c.index-lock.ensures c.index_mut.ensures.value in
    c.requires.upper c.index-lock.result.now.part at.tower

pub returns-clause-called : goal.returns-clause-called
returns-clause-called g c =
    let at = found_at c.args.self.now c.args.pass.now c.self.inside.end c.pass.inside.first c.pass.inside.end c.args.file c.self.inside.locks.items c.pass.inside.seats.items c.index-lock.result.now c.index_mut.result.now c.self.view_is c.pass.view_is
    c.requires.pass c.requires.file c.pass.invariant.seated c.index-lock.ensures c.index_mut.ensures.value in
    called_at c.args.pass.now c.pass.inside.seats.items c.pass.inside.first c.pass.inside.end c.args.caller c.args.file (IsSync c.args.caller c.args.node c.args.keep (place_of (known c.args.pass.now c.args.file))) c.index_mut.result.now c.sync.new.seat [] c.sync.result
    c.pass.view_is at.seat at.range c.sync.ensures.seat (
    let P : List Logged → Type 0 = λ log. Called c.index_mut.result.now.first c.index_mut.result.now.end c.args.caller (IsSync c.args.caller c.args.node c.args.keep (place_of log)) c.index_mut.result.now.seen c.sync.new.seat.seen [] c.sync.result in
    subst P (sym (knows_at c.args.pass.now c.pass.inside.first c.pass.inside.end c.args.file c.pass.inside.seats.items c.index_mut.result.now c.pass.view_is at.seat)) c.sync.ensures.called)

pub returns-clause-plain : goal.returns-clause-plain
returns-clause-plain g c =
    let at = found_at c.args.self.now c.args.pass.now c.self.inside.end c.pass.inside.first c.pass.inside.end c.args.file c.self.inside.locks.items c.pass.inside.seats.items c.index-lock.result.now c.index_mut.result.now c.self.view_is c.pass.view_is
    c.requires.pass c.requires.file c.pass.invariant.seated c.index-lock.ensures c.index_mut.ensures.value in
    known_at IsPlain c.args.self.now c.pass.inside.first c.pass.inside.end c.args.file c.pass.inside.seats.items c.index-lock.result.now c.index_mut.result.now c.sync.new.seat at c.sync.ensures.plain

pub returns-clause-needed : goal.returns-clause-needed
returns-clause-needed g c =
    let at = found_at c.args.self.now c.args.pass.now c.self.inside.end c.pass.inside.first c.pass.inside.end c.args.file c.self.inside.locks.items c.pass.inside.seats.items c.index-lock.result.now c.index_mut.result.now c.self.view_is c.pass.view_is
    c.requires.pass c.requires.file c.pass.invariant.seated c.index-lock.ensures c.index_mut.ensures.value in
    known_at IsNeeded c.args.self.now c.pass.inside.first c.pass.inside.end c.args.file c.pass.inside.seats.items c.index-lock.result.now c.index_mut.result.now c.sync.new.seat at c.sync.ensures.needed

pub invariant_of-pass : goal.invariant_of-pass
invariant_of-pass g c =
    let at = found_at c.args.self.now c.args.pass.now c.self.inside.end c.pass.inside.first c.pass.inside.end c.args.file c.self.inside.locks.items c.pass.inside.seats.items c.index-lock.result.now c.index_mut.result.now c.self.view_is c.pass.view_is
    c.requires.pass c.requires.file c.pass.invariant.seated c.index-lock.ensures c.index_mut.ensures.value in
    called_is c.pass.inside.first c.pass.inside.end c.args.file _ c.pass.inside.seats.items c.pass.inside.room.items c.index_mut.result.now c.sync.new.seat c.pass.invariant at.range c.sync.ensures.seat
