use Rattle.std.proofs.Common.{◌≡◌, ℕ, List, Some, inr, refl, sym, ap, subst, ◌∙◌}
use Rattle.hist_plain.specs.declared.event.Op.TheVariants as ops
use Rattle.client_objects.specs.declared.state.ClientState.{ClientState}
use Rattle.client_objects.specs.Objects.{OpenObject, with_object}
use Rattle.script_meaning.specs.Plan.{access, asking_at, carrying, holding, opening, plan_found}
use Rattle.spr_client.specs.declared.client.Client.{Client}
use Rattle.spr_client.specs.Lines.{PlanDone}
use Rattle.spr_client.specs.Serving.{CallMade}
use Rattle.spr_client.proofs.BackLaws.{found-ended, found-kept, made-err, made-objects, made-ok}
use Rattle.spr_client.proofs.LineLaws.{no-bytes}
use Rattle.spr_client.proofs.opening.open_received.Goals as goal

pub returns-in-Ok-clause-done : goal.returns-in-Ok-clause-done
returns-in-Ok-clause-done g c = λ objects name word is.
    let mount = c.args.common.now.mount.now in
    let caller = c.args.client.now.caller in
    let state : ClientState = holding c.args.client.now.state objects in
    let target = c.args.found.target in
    let mid = c.call_object.new.client.state in
    let back : ClientState = holding mid objects in
    let old = c.args.pass.now in
    let new = c.call_object.new.pass in
    let out : List ℕ = c.call_object.new.out in
    let answer = c.in-Ok.answer in
    let same : mid.objects ≡ c.args.client.now.state.objects = ap (λ (k : Client). k.state.objects) c.call_object.ensures.same in
    let moved : mid ≡ carrying c.args.client.now.state mid.carrier = ap (λ (k : Client). k.state) c.call_object.ensures.same in
    let one = made-objects mount caller (asking_at mount state c.args.found.node target.file (access c.args.found.node 0 ops.Open)) old new c.args.client.now.state mid out c.call_object.result objects moved c.call_object.ensures.made in
    let made = subst (λ (n : ℕ). CallMade mount caller (asking_at mount state n target.file (access n 0 ops.Open)) old new state back out c.call_object.result) c.requires.node one in
    let kept : c.set_life.new.self ≡ with_object objects name (record target { life = c.life_in.result }) word = c.set_life.ensures.last objects name word target (same ∙ is) in
    found-kept mount caller old new state back (holding mid c.set_life.new.self) name word target out answer c.reply_to.result
    (made-ok mount caller (opening mount state target) old new state back out c.call_object.result answer c.in-Ok.is made)
    (λ told answered bytes. c.reply_to.ensures told answered (λ read. bytes read ∙ (no-bytes out c.call_object.auto.out ∙ sym c.new.ensures.items)))
    (ap (λ (os : List OpenObject). holding mid os) kept ∙ ap (λ (n : ℕ). holding mid (with_object objects name (record target { life = n }) word)) c.life_in.ensures)

pub returns-in-Ok-clause-on : goal.returns-in-Ok-clause-on
returns-in-Ok-clause-on g c = λ objects name word is.
    let before = c.args.client.now.state in
    let target = c.args.found.target in
    let mid = c.call_object.new.client.state in
    let moved : mid ≡ carrying before mid.carrier = ap (λ (k : Client). k.state) c.call_object.ensures.same in
    let same : mid.objects ≡ before.objects = ap (λ (s : ClientState). s.objects) moved in
    let kept : c.set_life.new.self ≡ with_object objects name (record target { life = c.life_in.result }) word = c.set_life.ensures.last objects name word target (same ∙ is) in
    inr (c.life_in.result, ap (λ (s : ClientState). holding s c.set_life.new.self) moved ∙ ap (λ (os : List OpenObject). carrying (holding before os) mid.carrier) kept)

pub returns-clause-done : goal.returns-clause-done
returns-clause-done g c = λ objects name word is.
    let mount = c.args.common.now.mount.now in
    let caller = c.args.client.now.caller in
    let state : ClientState = holding c.args.client.now.state objects in
    let target = c.args.found.target in
    let mid = c.call_object.new.client.state in
    let back : ClientState = holding mid objects in
    let old = c.args.pass.now in
    let new = c.call_object.new.pass in
    let out : List ℕ = c.call_object.new.out in
    let reply = c.in-Err.reply in
    let same : mid.objects ≡ c.args.client.now.state.objects = ap (λ (k : Client). k.state.objects) c.call_object.ensures.same in
    let moved : mid ≡ carrying c.args.client.now.state mid.carrier = ap (λ (k : Client). k.state) c.call_object.ensures.same in
    let one = made-objects mount caller (asking_at mount state c.args.found.node target.file (access c.args.found.node 0 ops.Open)) old new c.args.client.now.state mid out c.call_object.result objects moved c.call_object.ensures.made in
    let made = subst (λ (n : ℕ). CallMade mount caller (asking_at mount state n target.file (access n 0 ops.Open)) old new state back out c.call_object.result) c.requires.node one in
    let gone : c.give_up_last.new.self ≡ objects = c.give_up_last.ensures.last objects name word target (same ∙ is) in
    subst (λ (os : List OpenObject). PlanDone mount caller (plan_found mount state name word (Some target)) old new reply (holding mid os)) (sym gone)
    (found-ended mount caller old new state back name word target reply
    (made-err mount caller (opening mount state target) old new state back out c.call_object.result reply c.in-Err.is made))
