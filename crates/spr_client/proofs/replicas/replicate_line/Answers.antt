use Rattle.std.proofs.Common.{◌≡◌, ℕ, List, Some, sym, subst}
use Rattle.marshal_buf.specs.declared.door.Door.{Door}
use Rattle.sub_replicon.specs.Replicas.{AreReplicas}
use Rattle.script_meaning.specs.Plan.{doors_at}
use Rattle.spr_client.proofs.DoorLaws.{are-replicas}
use Rattle.spr_client.proofs.LineLaws.{done-lacks}
use Rattle.spr_client.proofs.replicas.replicate_line.Goals as goal

pub returns-in_default-doors_at : goal.returns-in_default-doors_at
returns-in_default-doors_at g c = done-lacks c.args.common.now.mount.now c.args.client.now.caller c.args.client.now.state _ c.args.pass.now

pub bind_doors-requires-clause-of : goal.bind_doors-requires-clause-of
bind_doors-requires-clause-of g c κs within =
    let at = subst (λ (vs : List (List ℕ)). doors_at c.args.common.now.mount.now c.in-Some.number vs ≡ Some c.in-Ok.doors.items) c.as_slice.ensures c.in-Ok.ensures in
    subst (λ (ds : List Door). AreReplicas ds) (sym c.deref.ensures.value) (are-replicas c.args.common.now.mount.now c.in-Some.number c.args.views.now c.in-Ok.doors.items c.requires.views at)
