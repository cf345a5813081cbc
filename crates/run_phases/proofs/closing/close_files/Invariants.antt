use Rattle.std.proofs.Common.{◌≡◌, ◌≤◌, length, take, vec_capacity}
use Rattle.run_phases.specs.Closing.{FilesClosed}
use Rattle.run_phases.proofs.closing.close_files.Given as goal

-- the files so far are closed
abbrev pub invariant-loop-file : goal.invariant-loop-file
invariant-loop-file g l = record {
  closed : FilesClosed l.common.mount.now l.closer (take l.file l.common.mount.now.files) l.closing.items l.fn.pass l.pass;
  len : length l.closing.items ≡ l.file;
  room : length l.common.mount.now.files ≤ vec_capacity l.closing;
}
