use Rattle.std.proofs.Common.{◌≡◌, ℕ, List, refl, sym, ap, subst, ◌∙◌}
use Rattle.std.proofs.lemmas.List.{with_items_is}
use Rattle.client_objects.specs.declared.state.ClientState.{ClientState}
use Rattle.script_meaning.specs.Plan.{access, asking_at, carrying, trial_of}
use Rattle.spr_client.specs.declared.client.Client.{Client}
use Rattle.spr_client.specs.Serving.{CallMade}
use Rattle.spr_client.proofs.BackLaws.{done-back, done-ended, made-err, made-held, made-ok}
use Rattle.spr_client.proofs.LineLaws.{done-lacks}
use Rattle.spr_client.proofs.Targets.{on_machine-carrying}
use Rattle.spr_client.proofs.files.access_object.Goals as goal

pub returns-in_default-clause-done : goal.returns-in_default-clause-done
returns-in_default-clause-done g c = done-lacks c.args.common.now.mount.now c.args.client.now.caller c.args.client.now.state _ c.args.pass.now

pub returns-in-Ok-call_object-clause-done : goal.returns-in-Ok-call_object-clause-done
returns-in-Ok-call_object-clause-done g c =
    let mount = c.args.common.now.mount.now in
    let caller = c.args.client.now.caller in
    let state = c.args.client.now.state in
    let target = c.args.found.target in
    let left = c.call_object.new.client.state in
    let old = c.args.pass.now in
    let new = c.call_object.new.pass in
    let out : List ℕ = c.call_object.new.out in
    let answer = c.in-Ok-call_object.answer in
    let moved : left ≡ carrying state left.carrier = ap (λ (k : Client). k.state) c.call_object.ensures.same in
    let items = with_items_is c.in-Ok.out out (c.call_object.auto.out ∙ c.deref_mut.ensures.len) in
    let made = made-held mount caller (asking_at mount state c.args.found.node target.file (access c.args.found.node target.life c.args.op)) old new state left out c.call_object.result moved c.call_object.ensures.made in
    let at_node = subst (λ (n : ℕ). CallMade mount caller (asking_at mount state n target.file (access n target.life c.args.op)) old new state left out c.call_object.result) c.requires.node made in
    done-back mount caller state (trial_of mount state target c.args.op) old new state left out answer c.reply_to.result
    (made-ok mount caller (trial_of mount state target c.args.op) old new state left out c.call_object.result answer c.in-Ok-call_object.is at_node)
    (λ told answered bytes. c.reply_to.ensures told answered (λ read. bytes read ∙ sym items))

pub returns-in-Ok-call_object-clause-on : goal.returns-in-Ok-call_object-clause-on
returns-in-Ok-call_object-clause-on g c =
    on_machine-carrying c.args.common.now.mount.now c.args.client.now.state c.call_object.new.client.state (ap (λ (k : Client). k.state) c.call_object.ensures.same) c.requires.on

pub returns-in-Err-clause-done : goal.returns-in-Err-clause-done
returns-in-Err-clause-done g c =
    let mount = c.args.common.now.mount.now in
    let caller = c.args.client.now.caller in
    let state = c.args.client.now.state in
    let target = c.args.found.target in
    let left = c.call_object.new.client.state in
    let old = c.args.pass.now in
    let new = c.call_object.new.pass in
    let out : List ℕ = c.call_object.new.out in
    let reply = c.in-Err.reply in
    let moved : left ≡ carrying state left.carrier = ap (λ (k : Client). k.state) c.call_object.ensures.same in
    let made = made-held mount caller (asking_at mount state c.args.found.node target.file (access c.args.found.node target.life c.args.op)) old new state left out c.call_object.result moved c.call_object.ensures.made in
    let at_node = subst (λ (n : ℕ). CallMade mount caller (asking_at mount state n target.file (access n target.life c.args.op)) old new state left out c.call_object.result) c.requires.node made in
    done-ended mount caller state (trial_of mount state target c.args.op) old new state left reply
    (made-err mount caller (trial_of mount state target c.args.op) old new state left out c.call_object.result reply c.in-Err.is at_node)

pub returns-in-Err-clause-on : goal.returns-in-Err-clause-on
returns-in-Err-clause-on g c =
    on_machine-carrying c.args.common.now.mount.now c.args.client.now.state c.call_object.new.client.state (ap (λ (k : Client). k.state) c.call_object.ensures.same) c.requires.on
