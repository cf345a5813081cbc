use Rattle.std.proofs.Common.{◌≡◌, length, vec_capacity}
use Rattle.image_commands.specs.Fresh.{Went}
use Rattle.image_commands.proofs.fresh.format_stores.Given as goal

-- what became of the stores so far
abbrev pub invariant-loop-held : goal.invariant-loop-held
invariant-loop-held g l = record {
  went : Went l.mount l.yielded l.left.items l.stopped;
  number : length l.left.items ≡ length l.yielded;
  room : vec_capacity l.left ≡ vec_capacity l.fn.left;
}
