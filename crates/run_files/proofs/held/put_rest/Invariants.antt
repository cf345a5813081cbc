use Rattle.std.proofs.Common.{◌≡◌, ◌++◌, vec_capacity}
use Rattle.run_files.proofs.held.put_rest.Given as goal

-- the files so far were put behind
abbrev pub invariant-loop-file : goal.invariant-loop-file
invariant-loop-file g l = record {
  items : l.files.items ≡ l.fn.files.items ++ l.yielded;
  room : vec_capacity l.files ≡ vec_capacity l.fn.files;
}
