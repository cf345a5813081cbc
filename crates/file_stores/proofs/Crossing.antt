-- What lies under a file may go to another thread, if its stores may.
use denote.RattleType.{RattleType}
use denote.Struct.Declared.{shape}
use denote.Param.Send.{IsSend, recorded_send, sendable, struct_send, view_send}
use Rattle.std.proofs.Crossing.{Vec-send, crosses}
use Rattle.spr_io.specs.declared.outside.Store.{Ghosts}
use Rattle.disk_layer.specs.contracts.layer.Disk as Disk
use Rattle.mirror_layer.specs.contracts.any.AnyGround as AnyGround
use Rattle.mirror_layer.specs.contracts.any.AnyGround.TheInside as any
use Rattle.std.proofs.option.Option.TheSendSync as option
use Rattle.mirror_layer.proofs.node.Node.TheLaws.TheKnot as node
use Rattle.file_stores.specs.contracts.ground.Either as Either
use Rattle.file_stores.specs.contracts.ground.FileGround as FileGround
use Rattle.file_stores.specs.contracts.ground.FileGround.TheInside as inside
use Rattle.file_stores.specs.contracts.whole_disk.WholeDisk as WholeDisk
use Rattle.file_stores.specs.contracts.whole_disk.WholeDisk.TheInside as whole

module _ (S : RattleType) (ghosts : Ghosts S.Denot) (store : IsSend S) where
  disk_send : IsSend (Disk.the_row S ghosts)
  disk_send = search (crosses, sendable) depth 40 fits 20000

  whole_send : IsSend (WholeDisk.the_row S ghosts)
  whole_send =
      view_send (whole.the_row S ghosts) _ _ _ _
      (recorded_send (whole.the_field S ghosts).row _ _ (whole.the_type S ghosts).to_one
      (struct_send (shape (whole.the_type S ghosts)) (disk_send, (search (crosses, sendable) depth 12, (search (crosses, sendable) depth 12, (Vec-send _ store, tt))))))

  any_send : IsSend (AnyGround.the_row S ghosts)
  any_send =
      view_send (any.the_row S ghosts) _ _ _ _
      (recorded_send (any.the_field S ghosts).row _ _ (any.the_type S ghosts).to_one
      (struct_send (shape (any.the_type S ghosts)) (search (node.crosses, disk_send, crosses, sendable) depth 40 fits 20000, (Vec-send _ (option.the_send S store), (Vec-send _ store, tt)))))

  either_send : IsSend (Either.the_field S ghosts).row
  either_send = search (whole_send, any_send, crosses, sendable) depth 12

  -- it may
  pub ground_send : IsSend (FileGround.the_row S ghosts)
  ground_send =
      view_send (inside.the_row S ghosts) _ _ _ _
      (recorded_send (inside.the_field S ghosts).row _ _ (inside.the_type S ghosts).to_one
      (struct_send (shape (inside.the_type S ghosts)) (either_send, tt)))
