use Rattle.std.proofs.Common.{◌≡◌, ◌++◌, List, Option, length, map, vec_capacity}
use Rattle.std.specs.Vec.Iter.{into_iter_items, into_iter_len}
use Rattle.spr_volume.specs.Passes.{logs}
use Rattle.mirror_layer.specs.declared.came.Notice.{Notice}
use Rattle.run_files.specs.Held.{AreEnded}
use Rattle.run_files.proofs.held.close_towers.Given as goal

-- the towers so far were closed
abbrev pub invariant-loop-tower : goal.invariant-loop-tower
invariant-loop-tower g l = record {
  ended : (done : List (List (Option Notice))) × AreEnded 0 l.yielded l.files.items done (map (λ m. m.items) l.notices.items) × (map (λ m. m.items) l.fn.made.items ≡ done ++ map (λ m. m.items) (into_iter_items l.rest));
  many : into_iter_len l.rest ≡ length (into_iter_items l.rest);
  told : map (λ t. t.log) l.trails.items ≡ logs l.yielded;
  files_room : vec_capacity l.files ≡ vec_capacity l.fn.files;
  trails_room : vec_capacity l.trails ≡ vec_capacity l.fn.trails;
  notices_room : vec_capacity l.notices ≡ vec_capacity l.fn.notices;
}
