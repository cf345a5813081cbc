use Rattle.std.proofs.Common.{◌≡◌, take}
use Rattle.run_phases.specs.Workers.{AreReady}
use Rattle.run_phases.specs.Phases.{PhasesDone}
use Rattle.run_phases.proofs.phase.run_phases.Given as goal

-- the phases so far are done
abbrev pub invariant-loop-phase : goal.invariant-loop-phase
invariant-loop-phase g l = record {
  first : l.part.first ≡ 0;
  done : PhasesDone l.common.mount.now (take l.phase-index l.phases) 0 l.fn.workers.items l.part.workers.items l.fn.pass l.part.pass;
  ready : AreReady l.common.mount.now 0 l.part.workers.items;
}
