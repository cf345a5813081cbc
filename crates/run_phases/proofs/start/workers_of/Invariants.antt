use Rattle.std.proofs.Common.{take}
use Rattle.run_phases.specs.Workers.{AreStarted, HaveRoom}
use Rattle.run_phases.proofs.start.workers_of.Given as goal

-- the clients so far are there
abbrev pub invariant-loop-number : goal.invariant-loop-number
invariant-loop-number l = record {
  started : AreStarted l.mount l.loss 0 (take l.number l.script.clients) l.workers.items;
  room : HaveRoom l.script.phases l.workers.items;
}
