use Rattle.trial_volumes.specs.Alike.{IsFor}
use Rattle.trial_volumes.proofs.volume.do_lines.Given as goal

-- the pass has the callers that it had
abbrev pub invariant-loop-line : goal.invariant-loop-line
invariant-loop-line g l = IsFor l.volume 0 l.end l.pass
