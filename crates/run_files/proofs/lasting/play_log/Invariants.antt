use Rattle.std.proofs.Common.{◌≡◌, length, take}
use Rattle.hist_plain.specs.History.{replay}
use Rattle.tower_log.specs.Log.{trail_of}
use Rattle.run_files.proofs.lasting.play_log.Given as goal

-- the events so far were taken
abbrev pub invariant-loop-place : goal.invariant-loop-place
invariant-loop-place l = record {
  file : l.plain.file ≡ replay l.fn.plain.shape l.fn.plain.file (take l.place (trail_of l.log.log));
  shape : l.plain.shape ≡ l.fn.plain.shape;
  count : l.plain.len ≡ l.place;
  room : length l.scratch ≡ length l.fn.scratch;
}
