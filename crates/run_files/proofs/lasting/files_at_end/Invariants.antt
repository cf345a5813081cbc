use Rattle.std.proofs.Common.{◌≡◌, ℕ, List, length, map, Some}
use Rattle.std.specs.Prelude.{slice_get}
use Rattle.hist_plain.specs.File.{Counted}
use Rattle.tower_log.specs.Log.{trail_of}
use Rattle.script_meaning.specs.Log.{log_of}
use Rattle.run_files.specs.Begun.{begun_as, file_then}
use Rattle.run_files.proofs.lasting.files_at_end.Given as goal

-- the files so far
abbrev pub invariant-loop-file : goal.invariant-loop-file
invariant-loop-file l = record {
  many : length l.lasts.items ≡ l.file;
  room : length l.scratch.items ≡ l.mount.page_size;
  ends : (k : ℕ) (bytes : List ℕ) (last : Counted) → slice_get (map (λ b. b.items) l.begun) k ≡ Some bytes → slice_get l.lasts.items k ≡ Some last
      → last.file ≡ file_then (begun_as l.mount k (record { bytes = bytes })) (trail_of (log_of (map (λ t. t.log) l.logs) k));
}
