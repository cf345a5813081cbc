use Rattle.std.proofs.Common.{◌≡◌, ◌*◌, ◌≤◌, take}
use Rattle.gen_summary.specs.Summary.{sum_of}
use Rattle.gen_summary.proofs.bytes.sum_of.Given as goal

-- the bytes of each file sum to less than 2 ^ 72
abbrev pub invariant-loop-file : goal.invariant-loop-file
invariant-loop-file l = (l.total ≡ sum_of (take l.file-index l.files)) × (l.total ≤ l.file-index * 4722366482869645213696)
