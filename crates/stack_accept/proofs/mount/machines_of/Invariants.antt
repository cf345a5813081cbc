use Rattle.std.proofs.Common.{◌≡◌, ◌≤◌, drop, length}
use Rattle.std.specs.List.{fold}
use Rattle.stack_accept.specs.Lines.{machine_of}
use Rattle.stack_accept.specs.Mount.{with_machine, machines_of}
use Rattle.stack_accept.proofs.mount.machines_of.Given as goal

abbrev pub invariant-loop-line : goal.invariant-loop-line
invariant-loop-line l =
    record {
      all : fold (λ names line. with_machine names (machine_of line)) l.machines.items (drop l.line-index l.lines) ≡ machines_of l.lines;
      few : length l.machines.items ≤ l.line-index;
    }
