use Rattle.std.proofs.Common.{◌≡◌, ◌≤◌, ◌-◌, take, drop, length}
use Rattle.std.specs.Prelude.{IfSome}
use Rattle.spr_io.specs.Raw.{FileSeen}
use Rattle.spr_io.proofs.host_store.read_whole.Given as goal

abbrev pub invariant-loop-done : goal.invariant-loop-done
invariant-loop-done g l = (l.done ≤ length l.out) × (g.F.RawFile.seen l.file ≡ g.F.RawFile.seen l.initial.file) × IfSome (g.F.RawFile.seen l.initial.file) (λ (f : FileSeen). take l.done l.out ≡ take l.done (drop l.start f.bytes))

abbrev pub decreases-loop-done : goal.decreases-loop-done
decreases-loop-done g l = length l.initial.out - l.done
