use Rattle.std.proofs.Common.{◌≡◌, ◌*◌, ◌≤◌, take, map}
use Rattle.gen_summary.specs.Summary.{is_write, answered}
use Rattle.gen_summary.proofs.counts.writes.Given as goal

-- each client was answered fewer than 2 ^ 64
abbrev pub invariant-loop-one : goal.invariant-loop-one
invariant-loop-one l = (l.total ≡ answered is_write l.lines (map (λ v. v.items) (take l.one-index l.said))) × (l.total ≤ l.one-index * 18446744073709551615)
