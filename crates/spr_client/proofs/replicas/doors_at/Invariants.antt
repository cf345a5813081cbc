use Rattle.std.proofs.Common.{◌≡◌, take, Some}
use Rattle.script_meaning.specs.Plan.{doors_at}
use Rattle.spr_client.proofs.replicas.doors_at.Given as goal

-- the doors at the views so far
abbrev pub invariant-loop-view : goal.invariant-loop-view
invariant-loop-view l = doors_at l.fn.mount l.fn.file (take l.view-index l.fn.views) ≡ Some l.doors.items
