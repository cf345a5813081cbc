use Rattle.std.proofs.Common.{refl}
use Rattle.run_phases.proofs.PhaseLaws.{may-next, part-next, phases-none}
use Rattle.run_phases.proofs.phase.run_phases.Goals as goal

pub loop-phase-init : goal.loop-phase-init
loop-phase-init g c = record {
  first = refl;
  done = phases-none c.args.common.now.mount.now 0 c.args.workers.items c.args.pass c.requires.silent;
  ready = c.requires.ready.clients;
}

pub run_part-part-requires-after_bounds : goal.run_part-part-requires-after_bounds
run_part-part-requires-after_bounds g c κs within =
    let inv = c.loop-phase.invariant in
    may-next c.args.common.now.mount.now c.args.common.now.volume.now c.args.phases.now c.phase-item.result c.as_slice.result.now c.loop-phase.phase-index c.args.workers.items c.args.pass c.loop-phase.part
    c.as_slice.ensures c.phase-item.is c.loop-phase-test.true c.requires.ready c.requires.calls c.requires.silent c.requires.room inv.first inv.done inv.ready

pub loop-phase-preserved : goal.loop-phase-preserved
loop-phase-preserved g c =
    let inv = c.loop-phase.invariant in
    let next = part-next c.args.common.now.mount.now c.args.phases.now c.phase-item.result c.as_slice.result.now c.loop-phase.phase-index c.args.workers.items c.args.pass c.loop-phase.part c.run_part-part.result
    c.as_slice.ensures c.phase-item.is c.loop-phase-test.true inv.first inv.done c.run_part-part.ensures in
    record { first = next.0; done = next.1; ready = next.2 }
