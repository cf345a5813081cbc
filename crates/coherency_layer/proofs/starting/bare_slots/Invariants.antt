use Rattle.std.proofs.Common.{◌≡◌, All, vec_len}
use Rattle.coherency_layer.specs.Bare.{IsBare}
use Rattle.coherency_layer.proofs.starting.bare_slots.Given as goal

abbrev pub invariant-loop : goal.invariant-loop
invariant-loop l = record { many : vec_len l.slots ≡ l.counter; bare : All IsBare l.slots.items }
