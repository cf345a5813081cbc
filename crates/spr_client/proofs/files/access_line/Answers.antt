use Rattle.std.proofs.Common.{◌≡◌, ◌≢◌, ℕ, true, ap, refl, sym, ◌∙◌}
use Rattle.hist_plain.specs.Event.{fits_page}
use Rattle.client_objects.specs.Objects.{object_of, word_of}
use Rattle.client_objects.specs.declared.kind.ObjectKind.TheVariants.{Reconnectable}
use Rattle.script_meaning.specs.Stack.{pages_of}
use Rattle.script_meaning.specs.Plan.{plan_access, plan_call, trial_of}
use Rattle.spr_client.proofs.LineLaws.{access-once, access-unfit, done-as, done-none, named-none, named-some}
use Rattle.spr_client.proofs.Targets.{found-none, found-some}
use Rattle.spr_client.proofs.files.access_line.Goals as goal

pub returns-in_default-clause-done : goal.returns-in_default-clause-done
returns-in_default-clause-done g c =
    let state = c.args.client.now.state in
    done-none c.args.common.now.mount.now c.args.client.now.caller state _ c.args.pass.now _ state
    (named-none state (object_of c.args.name.now state.objects) (plan_access c.args.common.now.mount.now state c.args.name.now (word_of c.args.name.now state.objects) c.args.op) (found-none c.args.common.now.mount.now state.machine (object_of c.args.name.now state.objects) (sym c.find.ensures.is ∙ c.in_default.is)))

pub returns-then-not-fits-clause-done : goal.returns-then-not-fits-clause-done
returns-then-not-fits-clause-done g c =
    let mount = c.args.common.now.mount.now in
    let state = c.args.client.now.state in
    let found = c.in-Some.found in
    let target = found.target in
    let unfit = ap (λ n. fits_page mount.page_size n c.args.op) (sym c.pages_of.ensures) ∙ (ap (λ n. fits_page n c.pages_of.result c.args.op) (sym c.page_size.ensures.value) ∙ (sym c.fits.ensures ∙ c.if-not-fits.true)) in
    done-none mount c.args.client.now.caller state _ c.args.pass.now _ state
    (named-some state (object_of c.args.name.now state.objects) target (plan_access mount state c.args.name.now (word_of c.args.name.now state.objects) c.args.op) (found-some mount state.machine (object_of c.args.name.now state.objects) found (sym c.find.ensures.is ∙ c.in-Some.is)).0 ∙ access-unfit mount state c.args.name.now (word_of c.args.name.now state.objects) c.args.op target unfit)

pub returns-clause-done : goal.returns-clause-done
returns-clause-done g c =
    let mount = c.args.common.now.mount.now in
    let state = c.args.client.now.state in
    let name = c.args.name.now in
    let found = c.in-Some.found in
    let target = found.target in
    let fit : fits_page mount.page_size (pages_of mount target.file) c.args.op ≡ true =
    ap (λ (n : ℕ). fits_page mount.page_size n c.args.op) (sym c.pages_of.ensures) ∙ (ap (λ (n : ℕ). fits_page n c.pages_of.result c.args.op) (sym c.page_size.ensures.value) ∙ (sym c.fits.ensures ∙ c.if-not-fits.false)) in
    let other : target.kind ≢ Reconnectable = λ same. let hit : c.eq.result ≡ true = c.eq.ensures ∙ rw same refl in let never = sym hit ∙ c.if-eq.false in cc in
    done-as mount c.args.client.now.caller state (plan_call state (trial_of mount state target c.args.op)) _ c.args.pass.now c.access_object.new.pass c.access_object.result c.access_object.new.client.state
    (named-some state (object_of name state.objects) target (plan_access mount state name (word_of name state.objects) c.args.op) (found-some mount state.machine (object_of name state.objects) found (sym c.find.ensures.is ∙ c.in-Some.is)).0
    ∙ access-once mount state name (word_of name state.objects) c.args.op target other fit) c.access_object.ensures.done

pub returns-then-eq-clause-done : goal.returns-then-eq-clause-done
returns-then-eq-clause-done g c =
    let mount = c.args.common.now.mount.now in
    let state = c.args.client.now.state in
    let name = c.args.name.now in
    let found = c.in-Some.found in
    let word = word_of name state.objects in
    done-as mount c.args.client.now.caller state (plan_access mount state name word c.args.op found.target) _ c.args.pass.now c.reconnecting.new.pass c.reconnecting.result c.reconnecting.new.client.state
    (named-some state (object_of name state.objects) found.target (plan_access mount state name word c.args.op) (found-some mount state.machine (object_of name state.objects) found (sym c.find.ensures.is ∙ c.in-Some.is)).0)
    c.reconnecting.ensures.done
