use Rattle.trial_volumes.specs.Alike.{IsFor}
use Rattle.trial_volumes.proofs.volume.do_apart.Given as goal

-- the passes have the callers that they had
abbrev pub invariant-loop-line : goal.invariant-loop-line
invariant-loop-line g l = record {
  low : IsFor l.volume 0 1 l.low;
  high : IsFor l.volume 1 l.end l.high;
}
