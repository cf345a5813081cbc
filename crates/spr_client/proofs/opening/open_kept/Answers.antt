use Rattle.std.proofs.Common.{List, [], Option, None, Some, sym, ap, subst, ◌∙◌}
use Rattle.std.specs.List.{AllByRecursion}
use Rattle.marshal_buf.specs.declared.door.Door.{Door}
use Rattle.name_context.specs.Names.{kept_object}
use Rattle.sub_replicon.specs.Replicas.{AreReplicas}
use Rattle.client_replicas.specs.Received.{LeadsOnto}
use Rattle.script_meaning.specs.Plan.{plan_opens, plan_received}
use Rattle.spr_client.specs.Lines.{PlanDone}
use Rattle.spr_client.proofs.opening.open_kept.Goals as goal

pub open_replicon-requires-clause-of : goal.open_replicon-requires-clause-of
open_replicon-requires-clause-of g c κs within = subst AreReplicas (sym c.as_slice.ensures.value) c.in-Some.ensures.of

pub open_replicon-requires-clause-lead : goal.open_replicon-requires-clause-lead
open_replicon-requires-clause-lead g c κs within = subst (λ (ds : List Door). AllByRecursion (LeadsOnto c.args.common.now.mount.now) ds) (sym c.as_slice.ensures.value) c.in-Some.ensures.lead

pub returns-in-Some-clause-done : goal.returns-in-Some-clause-done
returns-in-Some-clause-done g c =
    let mount = c.args.common.now.mount.now in
    let caller = c.args.client.now.caller in
    let state = c.args.client.now.state in
    let kept = Some (kept_object c.args.stored.now) in
    let done = subst (λ (ds : List Door). PlanDone mount caller (plan_opens mount c.args.name [] ds state) c.args.pass.now c.open_replicon.new.pass c.open_replicon.result c.open_replicon.new.client.state) c.as_slice.ensures.value c.open_replicon.ensures.done in
    subst (λ (o : Option (List Door)). PlanDone mount caller (plan_received mount state c.args.name kept o) c.args.pass.now c.open_replicon.new.pass c.open_replicon.result c.open_replicon.new.client.state) (sym c.in-Some.is ∙ c.received_doors.ensures.is) done

pub returns-in-None-clause-done : goal.returns-in-None-clause-done
returns-in-None-clause-done g c =
    let mount = c.args.common.now.mount.now in
    let caller = c.args.client.now.caller in
    let state = c.args.client.now.state in
    let kept = Some (kept_object c.args.stored.now) in
    subst (λ (o : Option (List Door)). PlanDone mount caller (plan_received mount state c.args.name kept o) c.args.pass.now c.open_stored.new.pass c.open_stored.result c.open_stored.new.client.state) (sym c.in-None.is ∙ c.received_doors.ensures.is) c.open_stored.ensures.done
