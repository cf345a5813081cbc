use Rattle.rust_tests.specs.Sample.{IsFor}
use Rattle.rust_tests.proofs.volumes.write_often.Given as goal

-- the pass has the callers that it had
abbrev pub invariant-loop-time : goal.invariant-loop-time
invariant-loop-time g l = IsFor l.volume l.initial.pass.first l.initial.pass.end l.pass
