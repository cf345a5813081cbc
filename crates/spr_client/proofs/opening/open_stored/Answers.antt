use Rattle.std.proofs.Common.{List, Option, Some, sym, ap, subst, ◌∙◌}
use Rattle.script_text.specs.declared.script.Reply.TheVariants as replies
use Rattle.name_context.specs.Names.{kept_object}
use Rattle.client_objects.specs.declared.target.Target.{Target}
use Rattle.client_objects.specs.declared.target.Found.{Found}
use Rattle.client_objects.specs.Objects.{OpenObject}
use Rattle.client_objects.specs.declared.why.NotReceived.{NotReceived}
use Rattle.client_objects.specs.Received.{RefusesReceived}
use Rattle.client_objects.specs.Stored.{received, received_word}
use Rattle.script_meaning.specs.Plan.{ends, holding, plan_found}
use Rattle.spr_client.specs.Lines.{PlanDone}
use Rattle.spr_client.proofs.LineLaws.{found-lacks, plan-none}
use Rattle.spr_client.proofs.Targets.{on_machine-either, received_target}
use Rattle.spr_client.proofs.opening.open_stored.Goals as goal

pub open_received-requires-clause-target : goal.open_received-requires-clause-target
open_received-requires-clause-target g c κs within =
    received_target c.args.common.now.mount.now c.args.client.now.state.machine (Some (kept_object c.args.stored.now)) c.in-Ok.found c.nodes-nodes.ensures.sound c.in-Ok.ensures.read c.in-Ok.ensures.node

pub open_received-requires-clause-node : goal.open_received-requires-clause-node
open_received-requires-clause-node g c κs within = ap (λ (f : Found). f.node) c.in-Ok.ensures.node

pub returns-in-Ok-clause-done : goal.returns-in-Ok-clause-done
returns-in-Ok-clause-done g c =
    let state = c.args.client.now.state in
    subst (λ (o : Option Target). PlanDone c.args.common.now.mount.now c.args.client.now.caller (plan_found c.args.common.now.mount.now state c.args.name (received_word (Some (kept_object c.args.stored.now))) o) c.args.pass.now c.open_received.new.pass c.open_received.result c.open_received.new.client.state) (sym c.in-Ok.ensures.read)
    (c.open_received.ensures.done state.objects c.args.name (received_word (Some (kept_object c.args.stored.now))) c.in-Ok.ensures.opened)

pub returns-in-Ok-clause-on : goal.returns-in-Ok-clause-on
returns-in-Ok-clause-on g c =
    let state = c.args.client.now.state in
    on_machine-either c.args.common.now.mount.now c.open_received.new.client.state state c.args.name (received_word (Some (kept_object c.args.stored.now))) c.in-Ok.found.target (Some (kept_object c.args.stored.now)) c.requires.on c.in-Ok.ensures.read
    (c.open_received.ensures.on state.objects c.args.name (received_word (Some (kept_object c.args.stored.now))) c.in-Ok.ensures.opened)

pub returns-in-Err-BadObject-clause-done : goal.returns-in-Err-BadObject-clause-done
returns-in-Err-BadObject-clause-done g c =
    let state = c.args.client.now.state in
    let found = received c.args.common.now.mount.now (Some (kept_object c.args.stored.now)) in
    let why : RefusesReceived found NotReceived.BadObject = subst (λ (e : NotReceived). RefusesReceived found e) c.in-Err-BadObject.field-0-is c.in-Err-BadObject.ensures.why in
    plan-none c.args.common.now.mount.now c.args.client.now.caller (plan_found c.args.common.now.mount.now state c.args.name (received_word (Some (kept_object c.args.stored.now))) (received c.args.common.now.mount.now (Some (kept_object c.args.stored.now)))) c.args.pass.now replies.BadObject (holding state c.receive.new.self)
    (ap (λ (o : Option Target). plan_found c.args.common.now.mount.now state c.args.name (received_word (Some (kept_object c.args.stored.now))) o) why ∙ ap (λ (os : List OpenObject). ends replies.BadObject (holding state os)) (sym c.in-Err-BadObject.ensures.err))

pub returns-in-Err-Memory-clause-done : goal.returns-in-Err-Memory-clause-done
returns-in-Err-Memory-clause-done g c =
    let mount = c.args.common.now.mount.now in
    let state = c.args.client.now.state in
    let found = received mount (Some (kept_object c.args.stored.now)) in
    let why : RefusesReceived found NotReceived.Memory = subst (λ (e : NotReceived). RefusesReceived found e) c.in-Err-Memory.field-0-is c.in-Err-Memory.ensures.why in
    subst (λ (os : List OpenObject). PlanDone mount c.args.client.now.caller (plan_found c.args.common.now.mount.now state c.args.name (received_word (Some (kept_object c.args.stored.now))) found) c.args.pass.now c.args.pass.now replies.Memory (holding state os)) (sym c.in-Err-Memory.ensures.err)
    (found-lacks mount c.args.client.now.caller state c.args.name (received_word (Some (kept_object c.args.stored.now))) found c.args.pass.now why)
