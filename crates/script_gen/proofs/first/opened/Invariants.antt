use Rattle.std.proofs.Common.{◌≡◌, ◌≤◌, ◌*◌, length}
use Rattle.script_gen.specs.Made.{opened}
use Rattle.script_gen.proofs.first.opened.Given as goal

abbrev pub invariant-loop-client : goal.invariant-loop-client
invariant-loop-client l =
    record {
      lines : l.lines ≡ opened l.shape l.first l.client;
      few : length l.lines ≤ 32 * l.client;
    }
