use Rattle.std.proofs.Common.{◌≡◌, ℕ, List, Bool, false, Some, sym, ap, ◌∙◌}
use Rattle.script_text.specs.declared.script.Reply.TheVariants as replies
use Rattle.client_objects.specs.declared.target.Target.{Target}
use Rattle.client_objects.specs.Objects.{OpenObject, object_of, with_object, word_of}
use Rattle.script_meaning.specs.Plan.{ends, holding, is_open, plan_copy}
use Rattle.spr_client.proofs.LineLaws.{done-left, done-none, done-lacks, named-none, named-some}
use Rattle.spr_client.proofs.Targets.{found-none, found-some, on_machine-copy}
use Rattle.spr_client.proofs.opening.copy_line.Goals as goal

pub returns-in_default-clause-done : goal.returns-in_default-clause-done
returns-in_default-clause-done g c =
    let state = c.args.client.now.state in
    done-none c.args.common.now.mount.now c.args.client.now.caller state _ c.args.pass.now _ state
    (named-none state (object_of c.args.name.now state.objects) (plan_copy state (word_of c.args.name.now state.objects) c.args.other.now (is_open c.args.other.now state))
    (found-none c.args.common.now.mount.now state.machine (object_of c.args.name.now state.objects) (sym c.find.ensures.is ∙ c.in_default.is)))

pub returns-then-is_open-clause-done : goal.returns-then-is_open-clause-done
returns-then-is_open-clause-done g c =
    let state = c.args.client.now.state in
    let mount = c.args.common.now.mount.now in
    let target : Target = c.in-Some.field-0.target in
    let found = found-some mount state.machine (object_of c.args.name.now state.objects) c.in-Some.field-0 (sym c.find.ensures.is ∙ c.in-Some.is) in
    done-none c.args.common.now.mount.now c.args.client.now.caller state _ c.args.pass.now _ state
    (named-some state (object_of c.args.name.now state.objects) target (plan_copy state (word_of c.args.name.now state.objects) c.args.other.now (is_open c.args.other.now state)) found.0
    ∙ ap (λ (b : Bool). plan_copy state (word_of c.args.name.now state.objects) c.args.other.now b target) (sym c.is_open.ensures ∙ c.if-is_open.true))

pub returns-in_default-of-clause-done : goal.returns-in_default-of-clause-done
returns-in_default-of-clause-done g c = done-lacks c.args.common.now.mount.now c.args.client.now.caller c.args.client.now.state _ c.args.pass.now

pub returns-in-Ok-copy-clause-done : goal.returns-in-Ok-copy-clause-done
returns-in-Ok-copy-clause-done g c =
    let state = c.args.client.now.state in
    let mount = c.args.common.now.mount.now in
    let target : Target = c.in-Some.field-0.target in
    let other = c.args.other.now in
    let word = word_of c.args.name.now state.objects in
    let found : object_of c.args.name.now state.objects ≡ Some target = (found-some mount state.machine (object_of c.args.name.now state.objects) c.in-Some.field-0 (sym c.find.ensures.is ∙ c.in-Some.is)).0 in
    let free : is_open other state ≡ false = sym c.is_open.ensures ∙ c.if-is_open.false in
    let second : c.in-Ok.second ≡ other = c.in-Ok.ensures ∙ c.as_str.ensures in
    let left : c.copy.new.self ≡ with_object state.objects other target word = c.in-Ok-copy.ensures.ok target found ∙ ap (λ (n : List ℕ). with_object state.objects n target word) second in
    done-none c.args.common.now.mount.now c.args.client.now.caller state _ c.args.pass.now replies.Done (holding state c.copy.new.self)
    (named-some state (object_of c.args.name.now state.objects) target (plan_copy state word other (is_open other state)) found
    ∙ (ap (λ (b : Bool). plan_copy state word other b target) free
    ∙ ap (λ (os : List OpenObject). ends replies.Done (holding state os)) (sym left)))

pub returns-in-Ok-copy-clause-on : goal.returns-in-Ok-copy-clause-on
returns-in-Ok-copy-clause-on g c =
    let state = c.args.client.now.state in
    let mount = c.args.common.now.mount.now in
    let target : Target = c.in-Some.field-0.target in
    let found : object_of c.args.name.now state.objects ≡ Some target = (found-some mount state.machine (object_of c.args.name.now state.objects) c.in-Some.field-0 (sym c.find.ensures.is ∙ c.in-Some.is)).0 in
    on_machine-copy mount state c.copy.new.self c.args.name.now c.in-Ok.second (word_of c.args.name.now state.objects) target c.requires.on found (c.in-Ok-copy.ensures.ok target found)

pub returns-in-Err-clause-done : goal.returns-in-Err-clause-done
returns-in-Err-clause-done g c =
    let state = c.args.client.now.state in
    done-left c.args.common.now.mount.now c.args.client.now.caller state _ c.args.pass.now c.args.pass.now replies.Memory state (holding state c.copy.new.self) (ap (holding state) c.in-Err.ensures.err)
    (done-lacks c.args.common.now.mount.now c.args.client.now.caller state _ c.args.pass.now)
