use Rattle.std.proofs.Common.{◌≡◌, List, map, length, ap, subst, arith}
use Rattle.script_text.specs.declared.script.CallLine.{CallLine}
use Rattle.run_phases.specs.declared.worker.Worker.{Worker}
use Rattle.run_phases.specs.Phases.{PhasesDone}
use Rattle.run_phases.specs.Closing.{FilesClosed}
use Rattle.spr_client.specs.Calls.{histories}
use Rattle.run_files.proofs.PlayLaws.{length-done, length-started, played, ready, silent, some-machine}
use Rattle.run_files.proofs.play.play_over.Goals as goal

pub run_phases-pass-requires-clause-ready : goal.run_phases-pass-requires-clause-ready
run_phases-pass-requires-clause-ready g c κs within =
    let script = c.args.script.now in
    let begun : List Worker = c.args.asked.clients.items in
    let first = c.requires.all.0 in
    let end = c.requires.all.1 in
    let many = length-started c.args.common.now.mount.now c.args.asked.loss 0 script.clients begun c.requires.room.started in
    record {
      stack = c.requires.stack;
      of = c.requires.pass;
      clients = ready c.args.common.now.mount.now c.args.asked.loss 0 script.clients begun (some-machine c.args.common.now.mount.now c.nodes-nodes.ensures.sound) c.requires.room.started;
      first_is = omega (arith, first);
      last_is = omega (arith, many, end);
      small = let few = c.requires.script.clients in omega (arith, many);
    }

pub run_phases-pass-requires-clause-silent : goal.run_phases-pass-requires-clause-silent
run_phases-pass-requires-clause-silent g c κs within = silent c.args.common.now.mount.now c.args.asked.loss 0 c.args.script.now.clients c.args.asked.clients.items c.requires.room.started

pub gather-requires : goal.gather-requires
gather-requires g c =
    let mount = c.args.common.now.mount.now in
    let begun : List Worker = c.args.asked.clients.items in
    let done = c.run_phases-pass.ensures.done in
    let many = length-done mount c.as_slice-2.result.now (histories mount c.args.pass) done.cuts begun c.run_phases-pass.result.1.items done.each in
    let started = length-started mount c.args.asked.loss 0 c.args.script.now.clients begun c.requires.room.started in
    let room = c.requires.room.said.1 in
    (c.requires.room.said.0, omega (arith, many, started, room))

pub returns : goal.returns
returns g c =
    let mount = c.args.common.now.mount.now in
    let script = c.args.script.now in
    let begun : List Worker = c.args.asked.clients.items in
    let workers : List Worker = c.run_phases-pass.result.1.items in
    let count : length c.as_slice.result.now ≡ length script.clients = ap length c.as_slice.ensures in
    played mount c.args.asked.loss script begun workers c.args.pass c.run_phases-pass.result.0 c.close_files.new.pass (map (λ v. v.items) c.gather.new.said.items) c.close_files.new.closing.items c.requires.all.0 c.requires.all.1 c.requires.room.started
    (subst (λ (ps : List (List CallLine)). PhasesDone mount ps 0 begun workers c.args.pass c.run_phases-pass.result.0) c.as_slice-2.ensures c.run_phases-pass.ensures.done)
    (subst (λ n. FilesClosed mount n mount.files c.close_files.new.closing.items c.run_phases-pass.result.0 c.close_files.new.pass) count c.close_files.ensures.closed)
    c.gather.ensures
    c.close_files.ensures.len
