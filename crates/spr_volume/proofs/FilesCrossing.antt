-- A volume and its passes may go to another thread if the ground may, and a volume may be shared.
use denote.RattleType.{RattleType}
use denote.Struct.Declared.{shape}
use denote.Struct.Field.{rows}
use denote.Struct.Tuple.{TupleAt, field_at, parts, type_at}
use mir.Syntax.{Sym}
use Rattle.std.proofs.Common.{List, [], ◌∷◌}
use denote.Param.Send.{AllSend, IsSend, IsSync, recorded_send, recorded_sync, sendable, struct_send, struct_sync, view_send, view_sync}
use Rattle.std.proofs.Crossing.{Box-send, Vec-send, Vec-sync, crosses}
use Rattle.page_ground.specs.declared.ground.Ground.{Ghosts}
use Rattle.tower_log.specs.contracts.logged.Logged as Logged
use Rattle.stack_engine.specs.contracts.tower.Tower as Tower
use Rattle.stack_engine.proofs.tower.Tower.TheSendSync as tower
use Rattle.hist_lock.specs.contracts.lock.HistLock as HistLock
use Rattle.hist_lock.specs.contracts.lock.Seat as Seat
use Rattle.hist_lock.proofs.lock.HistLock.TheSendSync as lock
use Rattle.hist_lock.proofs.lock.Seat.TheSendSync as seat
use Rattle.spr_volume.specs.contracts.shared_tower.SharedTower as Shared
use Rattle.spr_volume.specs.contracts.shared_tower.SharedTower.TheInside as shared
use Rattle.spr_volume.specs.contracts.shared_tower.SharedTowerStoried.TheImpl as storied
use Rattle.spr_volume.specs.contracts.shared_files.FilesPass as FilesPass
use Rattle.spr_volume.specs.contracts.shared_files.FilesPass.TheInside as pass
use Rattle.spr_volume.specs.contracts.shared_files.SharedFiles as SharedFiles
use Rattle.spr_volume.specs.contracts.shared_files.SharedFiles.TheInside as volume

module _ (G : RattleType) (ghosts : Ghosts G.Denot) (ground : IsSend G) where
  shared_send : IsSend (Shared.the_row G ghosts)
  shared_send =
      view_send (shared.the_row G ghosts) _ _ _ _
      (recorded_send (shared.the_field G ghosts).row _ _ (shared.the_type G ghosts).to_one
      (struct_send (shape (shared.the_type G ghosts)) (Box-send _ (tower.the_send G ghosts ground), (search crosses, (search sendable, tt)))))

  lock_send : IsSend (HistLock.the_row (Shared.the_row G ghosts) Logged.the_row (Tower.the_row G ghosts) (storied.ghosts G ghosts storied.no_dict))
  lock_send = lock.the_send (Shared.the_row G ghosts) Logged.the_row (Tower.the_row G ghosts) (storied.ghosts G ghosts storied.no_dict) shared_send

  lock_sync : IsSync (HistLock.the_row (Shared.the_row G ghosts) Logged.the_row (Tower.the_row G ghosts) (storied.ghosts G ghosts storied.no_dict))
  lock_sync = lock.the_sync (Shared.the_row G ghosts) Logged.the_row (Tower.the_row G ghosts) (storied.ghosts G ghosts storied.no_dict) shared_send

  seat_send : IsSend (Seat.the_row (Shared.the_row G ghosts) Logged.the_row (Tower.the_row G ghosts) (storied.ghosts G ghosts storied.no_dict))
  seat_send = seat.the_send (Shared.the_row G ghosts) Logged.the_row (Tower.the_row G ghosts) (storied.ghosts G ghosts storied.no_dict) shared_send

  pub volume_send : IsSend (SharedFiles.the_row G ghosts)
  volume_send =
      view_send (volume.the_row G ghosts) _ _ _ _
      (recorded_send (volume.the_field G ghosts).row _ _ (volume.the_type G ghosts).to_one
      (struct_send (shape (volume.the_type G ghosts)) (search sendable, (Vec-send _ lock_send, tt))))

  pub volume_sync : IsSync (SharedFiles.the_row G ghosts)
  volume_sync =
      view_sync (volume.the_row G ghosts) _ _ _ _
      (recorded_sync (volume.the_field G ghosts).row _ _ (volume.the_type G ghosts).to_one
      (struct_sync (shape (volume.the_type G ghosts)) (search sendable, (Vec-sync _ lock_sync, tt))))

  pub pass_send : IsSend (FilesPass.the_row G ghosts)
  pass_send =
      view_send (pass.the_row G ghosts) _ _ _ _
      (recorded_send (pass.the_field G ghosts).row _ _ (pass.the_type G ghosts).to_one
      (struct_send (shape (pass.the_type G ghosts)) (search sendable, (search sendable, (Vec-send _ seat_send, (Vec-send _ (tower.the_send G ghosts ground), tt))))))

parts_send : (Ts : List RattleType) → AllSend Ts → AllSend (rows (parts Ts))
parts_send [] all = tt
parts_send (T ∷ Ts) all = (all.0, parts_send Ts all.1)

-- a closure crosses if what it captures does
pub closure_send : (name : Sym) (Ts : List RattleType) → AllSend Ts → IsSend (TupleAt name Ts)
closure_send name Ts all = recorded_send (field_at name Ts).row _ _ (type_at name Ts).to_one (struct_send (shape (type_at name Ts)) (parts_send Ts all))
