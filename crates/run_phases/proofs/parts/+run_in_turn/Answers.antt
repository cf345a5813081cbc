use Rattle.std.proofs.Common.{rules}
use Rattle.run_phases.proofs.PartLaws.{turn-done}
use Rattle.run_phases.proofs.parts.+run_in_turn.Goals as goal

pub returns-in-Some-clause-done : goal.returns-in-Some-clause-done
returns-in-Some-clause-done g t c =
    turn-done c.args.common.now.mount.now c.args.lines.now c.args.first c.args.workers.now c.in-Some.worker.now c.run_worker.new.worker c.in-Some.others.now c.run_in_turn.new.workers c.args.pass.now c.run_worker.new.pass c.run_in_turn.new.pass
    (search rules) c.requires.ready.clients c.requires.ready.first_is c.requires.ready.last_is c.run_worker.ensures.done (search rules)
