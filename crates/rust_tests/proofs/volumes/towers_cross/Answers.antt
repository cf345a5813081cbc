use denote.Exit.{no}
use denote.Param.{param}
use denote.Param.Send.{arg_send, arg_sync, param_send, param_sync}
use Rattle.spr_volume.specs.contracts.shared_tower.SharedTowerStoried.TheImpl as storied
use Rattle.spr_volume.proofs.TowerCrossing.{lock_sync, seat_send, shared_send}
use Rattle.rust_tests.proofs.volumes.towers_cross.Goals as goal

pub needs_send-requires-2-send-X : goal.needs_send-requires-2-send-X
needs_send-requires-2-send-X g c κs within = param_send _ _ (arg_send _ no _ (shared_send _ _ c.type_bounds.send-G))

pub needs_send-requires-3-send-X : goal.needs_send-requires-3-send-X
needs_send-requires-3-send-X g c κs within = param_send _ _ (arg_send _ no _ (seat_send (param 0 g.row.G) g.G.Ground c.type_bounds.send-G (storied.ghosts g.row.G g.G.Ground g.G.Ground-dict)))

pub needs_sync-requires-sync-X : goal.needs_sync-requires-sync-X
needs_sync-requires-sync-X g c κs within = param_sync _ _ (arg_sync _ no _ (lock_sync (param 0 g.row.G) g.G.Ground c.type_bounds.send-G (storied.ghosts g.row.G g.G.Ground g.G.Ground-dict)))
