use Rattle.std.proofs.Common.{◌≡◌, take, count_by}
use Rattle.stack_accept.specs.Lines.{is_disk}
use Rattle.stack_accept.proofs.mount.count_disks.Given as goal

abbrev pub invariant-loop-line : goal.invariant-loop-line
invariant-loop-line l = l.count ≡ count_by (λ line. is_disk line) (take l.line-index l.lines)
