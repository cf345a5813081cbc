use denote.Exit.{no}
use denote.Param.Send.{arg_send, arg_sync, param_send, param_sync}
use Rattle.spr_volume.proofs.FilesCrossing.{pass_send, volume_send, volume_sync}
use Rattle.rust_tests.proofs.volumes.files_cross.Goals as goal

pub needs_send-requires-send-X : goal.needs_send-requires-send-X
needs_send-requires-send-X g c κs within = param_send _ _ (arg_send _ no _ (volume_send _ _ c.type_bounds.send-G))

pub needs_sync-requires-sync-X : goal.needs_sync-requires-sync-X
needs_sync-requires-sync-X g c κs within = param_sync _ _ (arg_sync _ no _ (volume_sync _ _ c.type_bounds.send-G))

pub needs_send-requires-2-send-X : goal.needs_send-requires-2-send-X
needs_send-requires-2-send-X g c κs within = param_send _ _ (arg_send _ no _ (pass_send _ _ c.type_bounds.send-G))
