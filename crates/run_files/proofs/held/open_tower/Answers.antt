use Rattle.std.proofs.Common.{◌≤◌, sym, subst, ◌∙◌}
use denote.Exit.{no}
use denote.Param.Send.{arg_send, param_send}
use Rattle.tower_core.specs.TreeShape.{TreeShape, frames_of}
use Rattle.file_stores.proofs.Crossing.{ground_send}
use Rattle.file_stores.proofs.UnderLaws.{counts-under}
use Rattle.run_files.proofs.HeldLaws.{few-frames, machines-many}
use Rattle.run_files.proofs.held.open_tower.Goals as goal

pub open-requires-send-G : goal.open-requires-send-G
open-requires-send-G g c κs within = param_send _ _ (arg_send _ no _ (ground_send _ _ c.type_bounds.send-S))

pub open-requires-clause-frames : goal.open-requires-clause-frames
open-requires-clause-frames g c κs within node =
    subst (λ (t : TreeShape). frames_of t node ≤ 1024) (sym (c.in-Ok.ensures ∙ c.tree.ensures.value)) (few-frames c.args.mount.now node c.paged_file-paged.ensures.sound)

pub open-requires-clause-counts : goal.open-requires-clause-counts
open-requires-clause-counts g c κs within disk = counts-under c.args.ground c.sound.ensures disk

pub open-requires-clause-machines : goal.open-requires-clause-machines
open-requires-clause-machines g c κs within =
    machines-many c.args.mount.now _ _ c.paged_file-paged.ensures.sound (c.in-Ok.ensures ∙ c.tree.ensures.value) c.in-Ok-machines_of.ensures
