use Rattle.std.proofs.Common.{◌≤◌, length, ◌∙◌}
use Rattle.spr_io.proofs.Cut.{room_after}
use Rattle.spr_io.proofs.Image.{reads_more}
use Rattle.spr_io.proofs.host_store.read_whole.Goals as goal

pub loop-done-preserved : goal.loop-done-preserved
loop-done-preserved g c =
    let r = c.in_ok-count.ensures.bytes in
    let room : c.loop-done.done ≤ length c.loop-done.out = c.loop-done.invariant.0 in (
      room_after _ _ c.loop-done.out c.read_at.new.out _ room r.within,
      c.in_ok-count.ensures.same ∙ c.loop-done.invariant.1,
      reads_more _ _ _ _ _ _ c.loop-done.out c.read_at.new.out c.loop-done.invariant.1 room r.within c.loop-done.invariant.2 r.told,
    )
