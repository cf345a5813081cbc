use Rattle.hist_lock.specs.Sample.{IsSame, Made, numbered}
use Rattle.hist_lock.proofs.sample.enter_many.Given as goal

-- so far the caller made as many calls
abbrev pub invariant-loop-number : goal.invariant-loop-number
invariant-loop-number g l = record {
  seat : IsSame l.initial.seat l.seat;
  made : Made l.caller (numbered l.caller l.number) l.initial.seat.seen l.seat.seen;
}
