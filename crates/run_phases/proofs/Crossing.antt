-- Some clients with their pass may go to another thread if the ground may, and what clients share may be shared.
use mir.Syntax.{Sym}
use denote.Ref.{NamedLft}
use denote.RattleType.{RattleType}
use denote.Struct.Declared.{shape}
use denote.Struct.Field.{rows}
use denote.Struct.Tuple.{TupleAt, field_at, parts, type_at}
use denote.Param.Send.{AllSync, IsSend, IsSync, recorded_sync, sendable, struct_sync}
use Rattle.std.proofs.Common.{List, [], ◌∷◌}
use Rattle.std.proofs.Crossing.{crosses}
use Rattle.page_ground.specs.declared.ground.Ground.{Ghosts}
use Rattle.pager_channel.proofs.numbers.Ops.TheSendSync as ops
use Rattle.stack_accept.proofs.entries.GroundPlan.TheLaws.TheKnot as plan
use Rattle.stack_accept.specs.contracts.mounted.Mounted as Mounted
use Rattle.spr_volume.proofs.Crossing.{pass_send, volume_sync}
use Rattle.spr_volume.specs.contracts.mounted.Pass as Pass
use Rattle.spr_volume.specs.contracts.mounted.Volume as Volume
use Rattle.spr_client.specs.contracts.client.Common as Common
use Rattle.run_phases.proofs.worker.Worker.TheSendSync as worker
use Rattle.run_phases.specs.contracts.parts.Part as Part

mounted_sync : IsSync Mounted.the_row
mounted_sync = search (crosses, plan.crosses, sendable) depth 60 fits 20000

module _ (G : RattleType) (ghosts : Ghosts G.Denot) (ground : IsSend G) where
  pass_crosses : IsSend (Pass.the_row G ghosts)
  pass_crosses = pass_send G ghosts ground

  pub part_send : IsSend (Part.the_row G ghosts)
  part_send = search (pass_crosses, worker.the_send, crosses, sendable) depth 8

  volume_crosses : IsSync (Volume.the_row G ghosts)
  volume_crosses = volume_sync G ghosts ground

  pub common_sync : (ℓ : NamedLft) (T : RattleType) → IsSync T → IsSync (Common.the_row ℓ G T ghosts)
  common_sync ℓ T gate = search (volume_crosses, mounted_sync, ops.the_sync, sendable) depth 12

parts_sync : (Ts : List RattleType) → AllSync Ts → AllSync (rows (parts Ts))
parts_sync [] all = tt
parts_sync (T ∷ Ts) all = (all.0, parts_sync Ts all.1)

closure_sync : (name : Sym) (Ts : List RattleType) → AllSync Ts → IsSync (TupleAt name Ts)
closure_sync name Ts all = recorded_sync (field_at name Ts).row _ _ (type_at name Ts).to_one (struct_sync (shape (type_at name Ts)) (parts_sync Ts all))

-- a closure may be shared if the five things that it captures may
pub shared_with_five : (name : Sym) (A B C D E : RattleType) → IsSync A → IsSync B → IsSync C → IsSync D → IsSync E → IsSync (TupleAt name (A ∷ B ∷ C ∷ D ∷ E ∷ []))
shared_with_five name A B C D E a b c d e = closure_sync name (A ∷ B ∷ C ∷ D ∷ E ∷ []) (a, (b, (c, (d, (e, tt)))))
