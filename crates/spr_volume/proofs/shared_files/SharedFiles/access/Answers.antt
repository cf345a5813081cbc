use Rattle.spr_volume.specs.FileCalls.{IsAccess}
use Rattle.spr_volume.specs.TowerShared.{IsNeeded, IsPlain}
use Rattle.spr_volume.proofs.Passing.{called_at, called_is, caller_at, found_at, known_at}
use Rattle.spr_volume.proofs.shared_files.SharedFiles.access.Goals as goal

pub access-requires-clause-seat : goal.access-requires-clause-seat
access-requires-clause-seat g c κs within =
    let at = found_at c.args.self.now c.args.pass.now c.self.inside.end c.pass.inside.first c.pass.inside.end c.args.file c.self.inside.locks.items c.pass.inside.seats.items c.index-lock.result.now c.index_mut.result.now c.self.view_is c.pass.view_is
    c.requires.pass c.requires.file c.pass.invariant.seated c.index-lock.ensures c.index_mut.ensures.value in
    at.free

pub access-requires-clause-caller : goal.access-requires-clause-caller
access-requires-clause-caller g c κs within =
    let at = found_at c.args.self.now c.args.pass.now c.self.inside.end c.pass.inside.first c.pass.inside.end c.args.file c.self.inside.locks.items c.pass.inside.seats.items c.index-lock.result.now c.index_mut.result.now c.self.view_is c.pass.view_is
    c.requires.pass c.requires.file c.pass.invariant.seated c.index-lock.ensures c.index_mut.ensures.value in
    caller_at c.args.pass.now c.pass.inside.first c.pass.inside.end c.args.caller c.pass.inside.seats.items c.index_mut.result.now c.pass.view_is at.range c.requires.caller

pub access-requires-clause-upper : goal.access-requires-clause-upper
access-requires-clause-upper g c κs within =
    let at = found_at c.args.self.now c.args.pass.now c.self.inside.end c.pass.inside.first c.pass.inside.end c.args.file c.self.inside.locks.items c.pass.inside.seats.items c.index-lock.result.now c.index_mut.result.now c.self.view_is c.pass.view_is
    c.requires.pass c.requires.file c.pass.invariant.seated c.index-lock.ensures c.index_mut.ensures.value in
    (c.requires.call c.index-lock.result.now.part at.tower).0

pub access-requires-clause-fits : goal.access-requires-clause-fits
access-requires-clause-fits g c κs within =
    let at = found_at c.args.self.now c.args.pass.now c.self.inside.end c.pass.inside.first c.pass.inside.end c.args.file c.self.inside.locks.items c.pass.inside.seats.items c.index-lock.result.now c.index_mut.result.now c.self.view_is c.pass.view_is
    c.requires.pass c.requires.file c.pass.invariant.seated c.index-lock.ensures c.index_mut.ensures.value in
    (c.requires.call c.index-lock.result.now.part at.tower).1

pub returns-clause-called : goal.returns-clause-called
returns-clause-called g c =
    let at = found_at c.args.self.now c.args.pass.now c.self.inside.end c.pass.inside.first c.pass.inside.end c.args.file c.self.inside.locks.items c.pass.inside.seats.items c.index-lock.result.now c.index_mut.result.now c.self.view_is c.pass.view_is
    c.requires.pass c.requires.file c.pass.invariant.seated c.index-lock.ensures c.index_mut.ensures.value in
    called_at c.args.pass.now c.pass.inside.seats.items c.pass.inside.first c.pass.inside.end c.args.caller c.args.file (IsAccess c.args.caller c.args.node c.args.life c.args.op.now) c.index_mut.result.now c.access.new.seat c.access.new.out c.access.result
    c.pass.view_is at.seat at.range c.access.ensures.seat c.access.ensures.called

pub returns-clause-plain : goal.returns-clause-plain
returns-clause-plain g c =
    let at = found_at c.args.self.now c.args.pass.now c.self.inside.end c.pass.inside.first c.pass.inside.end c.args.file c.self.inside.locks.items c.pass.inside.seats.items c.index-lock.result.now c.index_mut.result.now c.self.view_is c.pass.view_is
    c.requires.pass c.requires.file c.pass.invariant.seated c.index-lock.ensures c.index_mut.ensures.value in
    known_at IsPlain c.args.self.now c.pass.inside.first c.pass.inside.end c.args.file c.pass.inside.seats.items c.index-lock.result.now c.index_mut.result.now c.access.new.seat at c.access.ensures.plain

pub returns-clause-needed : goal.returns-clause-needed
returns-clause-needed g c =
    let at = found_at c.args.self.now c.args.pass.now c.self.inside.end c.pass.inside.first c.pass.inside.end c.args.file c.self.inside.locks.items c.pass.inside.seats.items c.index-lock.result.now c.index_mut.result.now c.self.view_is c.pass.view_is
    c.requires.pass c.requires.file c.pass.invariant.seated c.index-lock.ensures c.index_mut.ensures.value in
    known_at IsNeeded c.args.self.now c.pass.inside.first c.pass.inside.end c.args.file c.pass.inside.seats.items c.index-lock.result.now c.index_mut.result.now c.access.new.seat at c.access.ensures.needed

pub invariant_of-pass : goal.invariant_of-pass
invariant_of-pass g c =
    let at = found_at c.args.self.now c.args.pass.now c.self.inside.end c.pass.inside.first c.pass.inside.end c.args.file c.self.inside.locks.items c.pass.inside.seats.items c.index-lock.result.now c.index_mut.result.now c.self.view_is c.pass.view_is
    c.requires.pass c.requires.file c.pass.invariant.seated c.index-lock.ensures c.index_mut.ensures.value in
    called_is c.pass.inside.first c.pass.inside.end c.args.file _ c.pass.inside.seats.items c.pass.inside.room.items c.index_mut.result.now c.access.new.seat c.pass.invariant at.range c.access.ensures.seat
