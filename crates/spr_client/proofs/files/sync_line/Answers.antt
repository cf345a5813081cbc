use Rattle.std.proofs.Common.{◌≡◌, ℕ, List, refl, sym, ap, subst, ◌∙◌}
use Rattle.hist_plain.specs.declared.event.Keep.{Keep}
use Rattle.client_objects.specs.Objects.{object_of}
use Rattle.script_meaning.specs.Plan.{Request, asking_at, carrying, node_at, plan_call, plan_sync, sync}
use Rattle.spr_client.specs.declared.client.Client.{Client}
use Rattle.spr_client.specs.Serving.{CallMade, keep_of}
use Rattle.spr_client.proofs.BackLaws.{done-back, done-ended, keep-again, made-err, made-held, made-ok}
use Rattle.spr_client.proofs.LineLaws.{done-as, done-none, named-none, named-some, no-bytes}
use Rattle.spr_client.proofs.Targets.{found-none, found-some, on_machine-carrying}
use Rattle.spr_client.proofs.files.sync_line.Goals as goal

pub returns-in_default-clause-done : goal.returns-in_default-clause-done
returns-in_default-clause-done g c =
    let state = c.args.client.now.state in
    done-none c.args.common.now.mount.now c.args.client.now.caller state _ c.args.pass.now _ state
    (named-none state (object_of c.args.name.now state.objects) (plan_sync c.args.common.now.mount.now state c.args.keep) (found-none c.args.common.now.mount.now state.machine (object_of c.args.name.now state.objects) (sym c.find.ensures.is ∙ c.in_default.is)))

pub returns-in-Ok-clause-done : goal.returns-in-Ok-clause-done
returns-in-Ok-clause-done g c =
    let mount = c.args.common.now.mount.now in
    let caller = c.args.client.now.caller in
    let state = c.args.client.now.state in
    let found = c.in-Some.found in
    let target = found.target in
    let keep = c.args.keep in
    let left = c.call_object.new.client.state in
    let old = c.args.pass.now in
    let new = c.call_object.new.pass in
    let out : List ℕ = c.call_object.new.out in
    let answer = c.in-Ok.answer in
    let is = found-some mount state.machine (object_of c.args.name.now state.objects) found (sym c.find.ensures.is ∙ c.in-Some.is) in
    let request : Request = asking_at mount state (node_at mount state target) target.file (sync (node_at mount state target) keep) in
    let moved : left ≡ carrying state left.carrier = ap (λ (k : Client). k.state) c.call_object.ensures.same in
    let kept : keep_of c.keep_number-life.result ≡ keep = ap keep_of c.keep_number-life.ensures ∙ keep-again keep in
    let made = made-held mount caller (asking_at mount state found.node target.file (sync found.node (keep_of c.keep_number-life.result))) old new state left out c.call_object.result moved c.call_object.ensures.made in
    let with_keep = subst (λ (k : Keep). CallMade mount caller (asking_at mount state found.node target.file (sync found.node k)) old new state left out c.call_object.result) kept made in
    let at_node = subst (λ (n : ℕ). CallMade mount caller (asking_at mount state n target.file (sync n keep)) old new state left out c.call_object.result) is.1 with_keep in
    done-as mount caller state (plan_call state request) _ old new c.reply_to.result left
    (named-some state (object_of c.args.name.now state.objects) target (plan_sync mount state keep) is.0)
    (done-back mount caller state request old new state left out answer c.reply_to.result (made-ok mount caller request old new state left out c.call_object.result answer c.in-Ok.is at_node)
    (λ told answered bytes. c.reply_to.ensures told answered (λ read. bytes read ∙ (no-bytes out c.call_object.auto.out ∙ sym c.new.ensures.items))))

pub returns-in-Ok-clause-on : goal.returns-in-Ok-clause-on
returns-in-Ok-clause-on g c =
    on_machine-carrying c.args.common.now.mount.now c.args.client.now.state c.call_object.new.client.state (ap (λ (k : Client). k.state) c.call_object.ensures.same) c.requires.on

pub returns-in-Err-clause-done : goal.returns-in-Err-clause-done
returns-in-Err-clause-done g c =
    let mount = c.args.common.now.mount.now in
    let caller = c.args.client.now.caller in
    let state = c.args.client.now.state in
    let found = c.in-Some.found in
    let target = found.target in
    let keep = c.args.keep in
    let left = c.call_object.new.client.state in
    let old = c.args.pass.now in
    let new = c.call_object.new.pass in
    let out : List ℕ = c.call_object.new.out in
    let reply = c.in-Err.reply in
    let is = found-some mount state.machine (object_of c.args.name.now state.objects) found (sym c.find.ensures.is ∙ c.in-Some.is) in
    let request : Request = asking_at mount state (node_at mount state target) target.file (sync (node_at mount state target) keep) in
    let moved : left ≡ carrying state left.carrier = ap (λ (k : Client). k.state) c.call_object.ensures.same in
    let kept : keep_of c.keep_number-life.result ≡ keep = ap keep_of c.keep_number-life.ensures ∙ keep-again keep in
    let made = made-held mount caller (asking_at mount state found.node target.file (sync found.node (keep_of c.keep_number-life.result))) old new state left out c.call_object.result moved c.call_object.ensures.made in
    let with_keep = subst (λ (k : Keep). CallMade mount caller (asking_at mount state found.node target.file (sync found.node k)) old new state left out c.call_object.result) kept made in
    let at_node = subst (λ (n : ℕ). CallMade mount caller (asking_at mount state n target.file (sync n keep)) old new state left out c.call_object.result) is.1 with_keep in
    done-as mount caller state (plan_call state request) _ old new reply left
    (named-some state (object_of c.args.name.now state.objects) target (plan_sync mount state keep) is.0)
    (done-ended mount caller state request old new state left reply (made-err mount caller request old new state left out c.call_object.result reply c.in-Err.is at_node))

pub returns-in-Err-clause-on : goal.returns-in-Err-clause-on
returns-in-Err-clause-on g c =
    on_machine-carrying c.args.common.now.mount.now c.args.client.now.state c.call_object.new.client.state (ap (λ (k : Client). k.state) c.call_object.ensures.same) c.requires.on
