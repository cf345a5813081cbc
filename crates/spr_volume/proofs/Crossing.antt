-- A volume and its passes may go to another thread if the ground may, and a volume may be shared.
use denote.RattleType.{RattleType}
use denote.Struct.Declared.{shape}
use denote.Param.Send.{IsSend, IsSync, recorded_send, recorded_sync, struct_send, struct_sync, view_send, view_sync}
use Rattle.page_ground.specs.declared.ground.Ground.{Ghosts}
use Rattle.hist_lock.proofs.lock.HistLock.TheSendSync as lock
use Rattle.hist_lock.proofs.lock.Seat.TheSendSync as seat
use Rattle.hist_lock.specs.contracts.lock.HistLock as HistLock
use Rattle.hist_lock.specs.contracts.lock.Seat as Seat
use Rattle.name_context.proofs.Crossing.{names_send}
use Rattle.name_context.specs.contracts.entry.NameEntry as NameEntry
use Rattle.name_context.specs.contracts.stack_names.Names as Names
use Rattle.name_context.specs.contracts.stack_names.NamesStoried.TheImpl as storied
use Rattle.name_context.specs.contracts.tree.NameTree as NameTree
use Rattle.spr_volume.proofs.FilesCrossing.{volume_send as files_send, volume_sync as files_sync}
use Rattle.spr_volume.proofs.FilesCrossing.{pass_send as files_pass_send}
use Rattle.spr_volume.specs.contracts.mounted.Pass as Pass
use Rattle.spr_volume.specs.contracts.mounted.Pass.TheInside as pass
use Rattle.spr_volume.specs.contracts.mounted.Volume as Volume
use Rattle.spr_volume.specs.contracts.mounted.Volume.TheInside as volume

lock_send : IsSend (HistLock.the_row Names.the_row NameEntry.the_row NameTree.the_row storied.ghosts)
lock_send = lock.the_send Names.the_row NameEntry.the_row NameTree.the_row storied.ghosts names_send

lock_sync : IsSync (HistLock.the_row Names.the_row NameEntry.the_row NameTree.the_row storied.ghosts)
lock_sync = lock.the_sync Names.the_row NameEntry.the_row NameTree.the_row storied.ghosts names_send

seat_send : IsSend (Seat.the_row Names.the_row NameEntry.the_row NameTree.the_row storied.ghosts)
seat_send = seat.the_send Names.the_row NameEntry.the_row NameTree.the_row storied.ghosts names_send

module _ (G : RattleType) (ghosts : Ghosts G.Denot) (ground : IsSend G) where
  pub volume_send : IsSend (Volume.the_row G ghosts)
  volume_send =
      view_send (volume.the_row G ghosts) _ _ _ _
      (recorded_send (volume.the_field G ghosts).row _ _ (volume.the_type G ghosts).to_one
      (struct_send (shape (volume.the_type G ghosts)) (files_send G ghosts ground, (lock_send, tt))))

  pub volume_sync : IsSync (Volume.the_row G ghosts)
  volume_sync =
      view_sync (volume.the_row G ghosts) _ _ _ _
      (recorded_sync (volume.the_field G ghosts).row _ _ (volume.the_type G ghosts).to_one
      (struct_sync (shape (volume.the_type G ghosts)) (files_sync G ghosts ground, (lock_sync, tt))))

  pub pass_send : IsSend (Pass.the_row G ghosts)
  pass_send =
      view_send (pass.the_row G ghosts) _ _ _ _
      (recorded_send (pass.the_field G ghosts).row _ _ (pass.the_type G ghosts).to_one
      (struct_send (shape (pass.the_type G ghosts)) (files_pass_send G ghosts ground, (seat_send, tt))))
