use Rattle.std.proofs.Common.{[]}
use Rattle.spr_volume.specs.FileCalls.{IsEnd}
use Rattle.spr_volume.specs.TowerShared.{IsNeeded, IsPlain}
use Rattle.spr_volume.proofs.Passing.{called_at, called_is, caller_at, found_at, known_at}
use Rattle.spr_volume.proofs.shared_files.SharedFiles.end.Goals as goal

pub end-requires-clause-seat : goal.end-requires-clause-seat
end-requires-clause-seat g c κs within =
    let at = found_at c.args.self.now c.args.pass.now c.self.inside.end c.pass.inside.first c.pass.inside.end c.args.file c.self.inside.locks.items c.pass.inside.seats.items c.index-lock.result.now c.index_mut.result.now c.self.view_is c.pass.view_is
    c.requires.pass c.requires.file c.pass.invariant.seated c.index-lock.ensures c.index_mut.ensures.value in
    at.free

pub end-requires-clause-caller : goal.end-requires-clause-caller
end-requires-clause-caller g c κs within =
    let at = found_at c.args.self.now c.args.pass.now c.self.inside.end c.pass.inside.first c.pass.inside.end c.args.file c.self.inside.locks.items c.pass.inside.seats.items c.index-lock.result.now c.index_mut.result.now c.self.view_is c.pass.view_is
    c.requires.pass c.requires.file c.pass.invariant.seated c.index-lock.ensures c.index_mut.ensures.value in
    caller_at c.args.pass.now c.pass.inside.first c.pass.inside.end c.args.caller c.pass.inside.seats.items c.index_mut.result.now c.pass.view_is at.range c.requires.caller

pub end-requires-clause-upper : goal.end-requires-clause-upper
end-requires-clause-upper g c κs within =
    let at = found_at c.args.self.now c.args.pass.now c.self.inside.end c.pass.inside.first c.pass.inside.end c.args.file c.self.inside.locks.items c.pass.inside.seats.items c.index-lock.result.now c.index_mut.result.now c.self.view_is c.pass.view_is
    c.requires.pass c.requires.file c.pass.invariant.seated c.index-lock.ensures c.index_mut.ensures.value in
    c.requires.upper c.index-lock.result.now.part at.tower

pub returns-clause-called : goal.returns-clause-called
returns-clause-called g c =
    let at = found_at c.args.self.now c.args.pass.now c.self.inside.end c.pass.inside.first c.pass.inside.end c.args.file c.self.inside.locks.items c.pass.inside.seats.items c.index-lock.result.now c.index_mut.result.now c.self.view_is c.pass.view_is
    c.requires.pass c.requires.file c.pass.invariant.seated c.index-lock.ensures c.index_mut.ensures.value in
    called_at c.args.pass.now c.pass.inside.seats.items c.pass.inside.first c.pass.inside.end c.args.caller c.args.file (IsEnd c.args.caller c.args.node c.args.end) c.index_mut.result.now c.end.new.seat [] c.end.result
    c.pass.view_is at.seat at.range c.end.ensures.seat c.end.ensures.called

pub returns-clause-plain : goal.returns-clause-plain
returns-clause-plain g c =
    let at = found_at c.args.self.now c.args.pass.now c.self.inside.end c.pass.inside.first c.pass.inside.end c.args.file c.self.inside.locks.items c.pass.inside.seats.items c.index-lock.result.now c.index_mut.result.now c.self.view_is c.pass.view_is
    c.requires.pass c.requires.file c.pass.invariant.seated c.index-lock.ensures c.index_mut.ensures.value in
    known_at IsPlain c.args.self.now c.pass.inside.first c.pass.inside.end c.args.file c.pass.inside.seats.items c.index-lock.result.now c.index_mut.result.now c.end.new.seat at c.end.ensures.plain

pub returns-clause-needed : goal.returns-clause-needed
returns-clause-needed g c =
    let at = found_at c.args.self.now c.args.pass.now c.self.inside.end c.pass.inside.first c.pass.inside.end c.args.file c.self.inside.locks.items c.pass.inside.seats.items c.index-lock.result.now c.index_mut.result.now c.self.view_is c.pass.view_is
    c.requires.pass c.requires.file c.pass.invariant.seated c.index-lock.ensures c.index_mut.ensures.value in
    known_at IsNeeded c.args.self.now c.pass.inside.first c.pass.inside.end c.args.file c.pass.inside.seats.items c.index-lock.result.now c.index_mut.result.now c.end.new.seat at c.end.ensures.needed

pub invariant_of-pass : goal.invariant_of-pass
invariant_of-pass g c =
    let at = found_at c.args.self.now c.args.pass.now c.self.inside.end c.pass.inside.first c.pass.inside.end c.args.file c.self.inside.locks.items c.pass.inside.seats.items c.index-lock.result.now c.index_mut.result.now c.self.view_is c.pass.view_is
    c.requires.pass c.requires.file c.pass.invariant.seated c.index-lock.ensures c.index_mut.ensures.value in
    called_is c.pass.inside.first c.pass.inside.end c.args.file _ c.pass.inside.seats.items c.pass.inside.room.items c.index_mut.result.now c.end.new.seat c.pass.invariant at.range c.end.ensures.seat
