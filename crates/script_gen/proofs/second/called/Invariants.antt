use Rattle.std.proofs.Common.{◌≡◌, length}
use Rattle.script_gen.specs.Made.{called, state_before}
use Rattle.script_gen.proofs.second.called.Given as goal

abbrev pub invariant-loop-number : goal.invariant-loop-number
invariant-loop-number l =
    record {
      lines : l.lines ≡ called l.shape l.first l.seed l.number;
      state : l.state ≡ state_before l.shape l.seed l.number;
      many : length l.lines ≡ l.number;
    }
