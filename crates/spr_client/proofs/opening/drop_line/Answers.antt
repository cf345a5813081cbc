use Rattle.std.proofs.Common.{List, sym, ap, subst, ◌∙◌}
use Rattle.std.specs.List.{AllByRecursion}
use Rattle.script_text.specs.declared.script.Reply.TheVariants as replies
use Rattle.client_objects.specs.Objects.{IsOnStack, OpenObject, object_of}
use Rattle.client_objects.proofs.OpenLaws.{on_stack-without}
use Rattle.script_meaning.specs.Plan.{ends, holding, plan_drop}
use Rattle.spr_client.proofs.LineLaws.{done-none, named-none, named-some}
use Rattle.spr_client.proofs.Targets.{found-none, found-some}
use Rattle.spr_client.proofs.opening.drop_line.Goals as goal

pub returns-in_default-clause-done : goal.returns-in_default-clause-done
returns-in_default-clause-done g c =
    let state = c.args.client.now.state in
    done-none c.args.common.now.mount.now c.args.client.now.caller state _ c.args.pass.now _ state
    (named-none state (object_of c.args.name.now state.objects) (plan_drop state c.args.name.now)
    (found-none c.args.common.now.mount.now state.machine (object_of c.args.name.now state.objects) (sym c.find.ensures.is ∙ c.in_default.is)))

pub returns-clause-done : goal.returns-clause-done
returns-clause-done g c =
    let state = c.args.client.now.state in
    done-none c.args.common.now.mount.now c.args.client.now.caller state _ c.args.pass.now replies.Done (holding state c.remove.new.self)
    (named-some state (object_of c.args.name.now state.objects) c.in-Some.field-0.target (plan_drop state c.args.name.now)
    (found-some c.args.common.now.mount.now state.machine (object_of c.args.name.now state.objects) c.in-Some.field-0 (sym c.find.ensures.is ∙ c.in-Some.is)).0
    ∙ ap (λ (os : List OpenObject). ends replies.Done (holding state os)) (sym c.remove.ensures))

pub returns-clause-on : goal.returns-clause-on
returns-clause-on g c =
    let mount = c.args.common.now.mount.now in
    let state = c.args.client.now.state in
    record {
      machine = c.requires.on.machine;
      objects = subst (λ (os : List OpenObject). AllByRecursion (IsOnStack mount) os) (sym c.remove.ensures) (on_stack-without mount state.objects c.args.name.now c.requires.on.objects);
      replicas = c.requires.on.replicas;
      regions = c.requires.on.regions;
    }
