-- A shared tower may go to another thread if its ground may: what it was when it was handed in owns nothing. So may a seat of a lock
-- round it, and the lock may be shared.
use denote.RattleType.{RattleType}
use denote.Struct.Declared.{shape}
use denote.Param.Send.{IsSend, IsSync, recorded_send, sendable, struct_send, view_send}
use Rattle.std.proofs.Crossing.{Box-send, crosses}
use Rattle.page_ground.specs.declared.ground.Ground.{Ghosts}
use Rattle.tower_log.specs.contracts.logged.Logged as Logged
use Rattle.stack_engine.specs.contracts.tower.Tower as Tower
use Rattle.stack_engine.proofs.tower.Tower.TheSendSync as tower
use Rattle.hist_lock.specs.declared.storied.Storied as Storied
use Rattle.hist_lock.specs.contracts.lock.HistLock as HistLock
use Rattle.hist_lock.specs.contracts.lock.Seat as Seat
use Rattle.hist_lock.proofs.lock.HistLock.TheSendSync as lock
use Rattle.hist_lock.proofs.lock.Seat.TheSendSync as seat
use Rattle.spr_volume.specs.contracts.shared_tower.SharedTower as Shared
use Rattle.spr_volume.specs.contracts.shared_tower.SharedTower.TheInside as inside

module _ (G : RattleType) (ghosts : Ghosts G.Denot) (ground : IsSend G) where
  pub shared_send : IsSend (Shared.the_row G ghosts)
  shared_send =
      view_send (inside.the_row G ghosts) _ _ _ _
      (recorded_send (inside.the_field G ghosts).row _ _ (inside.the_type G ghosts).to_one
      (struct_send (shape (inside.the_type G ghosts)) (Box-send _ (tower.the_send G ghosts ground), (search crosses, (search sendable, tt)))))

  module _ (storied : Storied.Ghosts (Shared.the_row G ghosts).Denot Logged.the_row.Denot (Tower.the_row G ghosts).Denot) where
    pub seat_send : IsSend (Seat.the_row (Shared.the_row G ghosts) Logged.the_row (Tower.the_row G ghosts) storied)
    seat_send = seat.the_send (Shared.the_row G ghosts) Logged.the_row (Tower.the_row G ghosts) storied shared_send

    pub lock_sync : IsSync (HistLock.the_row (Shared.the_row G ghosts) Logged.the_row (Tower.the_row G ghosts) storied)
    lock_sync = lock.the_sync (Shared.the_row G ghosts) Logged.the_row (Tower.the_row G ghosts) storied shared_send
