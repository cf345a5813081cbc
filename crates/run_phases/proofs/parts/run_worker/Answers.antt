use Rattle.run_phases.proofs.PartLaws.{worker-done}
use Rattle.run_phases.proofs.parts.run_worker.Goals as goal

pub returns-clause-done : goal.returns-clause-done
returns-clause-done g c =
    worker-done c.args.common.now.mount.now c.args.lines.now c.args.worker.now _ c.do_lines.ensures.done.0 c.args.pass.now c.do_lines.new.pass c.do_lines.ensures.caller c.do_lines.ensures.room
    c.do_lines.ensures.done.1 c.do_lines.ensures.done.2
