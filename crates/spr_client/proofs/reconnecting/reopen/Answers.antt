use Rattle.std.proofs.Common.{◌≡◌, ◌<◌, ℕ, List, length, Some, sym, ap, subst, ◌∙◌}
use Rattle.marshal_buf.specs.declared.door.Door.{Door}
use Rattle.name_context.specs.Names.{kept_object}
use Rattle.client_objects.specs.Found.{door_to}
use Rattle.client_objects.specs.Objects.{OpenObject, object_of, with_target}
use Rattle.client_objects.specs.Reconnected.{IsReconnectable, reconnected}
use Rattle.spr_client.proofs.DoorLaws.{reached_leads}
use Rattle.script_meaning.specs.Plan.{carrying, holding, reopening, rerouting}
use Rattle.spr_client.specs.declared.client.Client.{Client}
use Rattle.spr_client.proofs.BackLaws.{made-err, made-held, made-ok}
use Rattle.spr_client.proofs.ReconnectLaws.{led-on, led-there, reopened-bad, reopened-ends, reopened-leads, reopened-route}
use Rattle.spr_client.proofs.Targets.{on_machine-carrying}
use Rattle.spr_client.proofs.reconnecting.reopen.Goals as goal

pub returns-in_default-clause-err : goal.returns-in_default-clause-err
returns-in_default-clause-err g c = λ op go_on.
    reopened-bad c.args.common.now.mount.now c.args.client.now.caller c.args.client.now.state c.args.name.now (Some (kept_object c.args.stored.now)) op go_on c.args.pass.now (sym c.reached.ensures.is ∙ c.in_default.is)

pub returns-in-Ok-clause-ok : goal.returns-in-Ok-clause-ok
returns-in-Ok-clause-ok g c = λ op go_on.
    let mount = c.args.common.now.mount.now in
    let caller = c.args.client.now.caller in
    let state = c.args.client.now.state in
    let name = c.args.name.now in
    let target = c.in-Some.target in
    let back = c.call_object.new.client.state in
    let old = c.args.pass.now in
    let mid = c.call_object.new.pass in
    let out : List ℕ = c.call_object.new.out in
    let answer = c.in-Ok.answer in
    let moved : back ≡ carrying state back.carrier = ap (λ (k : Client). k.state) c.call_object.ensures.same in
    let came = made-ok mount caller (reopening mount state target) old mid state back out c.call_object.result answer c.in-Ok.is
    (made-held mount caller (reopening mount state target) old mid state back out c.call_object.result moved c.call_object.ensures.made) in
    let left : holding back c.reroute.new.self ≡ rerouting back name (reconnected (door_to target) c.life_in-life.result) =
    ap (λ (os : List OpenObject). holding back os) (c.reroute.ensures ∙ ap (λ (d : Door). with_target name (reconnected d c.life_in-life.result) back.objects) c.door.ensures) in
    reopened-leads mount caller state name (Some (kept_object c.args.stored.now)) op go_on target old mid out answer back (holding back c.reroute.new.self) c.led_to.result.target
    (sym c.reached.ensures.is ∙ c.in-Some.is) came
    (left ∙ ap (λ (n : ℕ). rerouting back name (reconnected (door_to target) n)) c.life_in-life.ensures)
    (c.led_to.ensures.target ∙ ap (λ (n : ℕ). reconnected (door_to target) n) c.life_in-life.ensures)

pub returns-in-Ok-clause-led : goal.returns-in-Ok-clause-led
returns-in-Ok-clause-led g c =
    let mount = c.args.common.now.mount.now in
    let state = c.args.client.now.state in
    let name = c.args.name.now in
    let target = c.in-Some.target in
    let back = c.call_object.new.client.state in
    let moved : back ≡ carrying state back.carrier = ap (λ (k : Client). k.state) c.call_object.ensures.same in
    let held : IsReconnectable (object_of name back.objects) = subst (λ (os : List OpenObject). IsReconnectable (object_of name os)) (sym (ap (λ (k : Client). k.state.objects) c.call_object.ensures.same)) c.requires.held in
    let left : holding back c.reroute.new.self ≡ rerouting back name (reconnected (door_to target) c.life_in-life.result) =
    ap (λ (os : List OpenObject). holding back os) (c.reroute.ensures ∙ ap (λ (d : Door). with_target name (reconnected d c.life_in-life.result) back.objects) c.door.ensures) in
    led-there mount back name (Some (kept_object c.args.stored.now)) target c.life_in-life.result (holding back c.reroute.new.self) c.led_to.result c.nodes-nodes.ensures.sound held (sym c.reached.ensures.is ∙ c.in-Some.is) left
    c.led_to.ensures.target c.led_to.ensures.node

pub returns-in-Ok-clause-on : goal.returns-in-Ok-clause-on
returns-in-Ok-clause-on g c =
    let mount = c.args.common.now.mount.now in
    let state = c.args.client.now.state in
    let name = c.args.name.now in
    let target = c.in-Some.target in
    let back = c.call_object.new.client.state in
    let left : holding back c.reroute.new.self ≡ rerouting back name (reconnected (door_to target) c.life_in-life.result) =
    ap (λ (os : List OpenObject). holding back os) (c.reroute.ensures ∙ ap (λ (d : Door). with_target name (reconnected d c.life_in-life.result) back.objects) c.door.ensures) in
    led-on mount back name (Some (kept_object c.args.stored.now)) target c.life_in-life.result (holding back c.reroute.new.self)
    (on_machine-carrying mount state back (ap (λ (k : Client). k.state) c.call_object.ensures.same) c.requires.on) (sym c.reached.ensures.is ∙ c.in-Some.is) left

pub returns-clause-err : goal.returns-clause-err
returns-clause-err g c = λ op go_on.
    let mount = c.args.common.now.mount.now in
    let caller = c.args.client.now.caller in
    let state = c.args.client.now.state in
    let name = c.args.name.now in
    let target = c.in-Some.target in
    let back = c.call_object.new.client.state in
    let old = c.args.pass.now in
    let mid = c.call_object.new.pass in
    let out : List ℕ = c.call_object.new.out in
    let reply = c.in-Err.reply in
    let moved : back ≡ carrying state back.carrier = ap (λ (k : Client). k.state) c.call_object.ensures.same in
    reopened-ends mount caller state name (Some (kept_object c.args.stored.now)) op go_on target old mid reply back (sym c.reached.ensures.is ∙ c.in-Some.is)
    (made-err mount caller (reopening mount state target) old mid state back out c.call_object.result reply c.in-Err.is
    (made-held mount caller (reopening mount state target) old mid state back out c.call_object.result moved c.call_object.ensures.made))

pub call_object-requires-clause-route : goal.call_object-requires-clause-route
call_object-requires-clause-route g c κs within =
    let mount = c.args.common.now.mount.now in
    let kept = Some (kept_object c.args.stored.now) in
    let is = sym c.reached.ensures.is ∙ c.in-Some.is in
    let route = reopened-route mount kept c.in-Some.target c.nodes-nodes.ensures.sound is in
    let leads = reached_leads mount kept c.in-Some.target is in
    record { chosen = leads.chosen; file = route.0; above = route.1; inside = route.2 }
