use Rattle.std.proofs.Common.{◌≡◌, ◌≤◌, ◌+◌, ◌*◌, drop, length}
use Rattle.script_gen.specs.Made.{with_files}
use Rattle.script_gen.proofs.first.put_files.Given as goal

-- the lines with the files that are left are the whole
abbrev pub invariant-loop-file : goal.invariant-loop-file
invariant-loop-file l =
    record {
      whole : with_files l.first l.seat l.client l.lines l.number (drop l.file-index l.files) ≡ with_files l.first l.seat l.client l.fn.lines 0 l.files;
      number : l.number ≡ l.file-index;
      few : length l.lines ≤ length l.fn.lines + 2 * l.file-index;
    }
