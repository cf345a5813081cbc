use Rattle.std.proofs.Common.{◌≡◌, true, cond, Bool, Option, Some, None, Result, refl, sym, ap, subst, ◌∙◌}
use Rattle.hist_plain.specs.declared.event.Answer.{Answer}
use Rattle.script_text.specs.declared.script.Reply.{Reply}
use Rattle.link_lossy.specs.Carriers.{CarrierSeen}
use Rattle.client_objects.specs.declared.state.ClientState.{ClientState}
use Rattle.script_meaning.specs.Plan.{Request, asking_at, carrying, over}
use Rattle.spr_client.specs.Serving.{CallMade, ask_by, having}
use Rattle.spr_client.proofs.CarryLaws.{as_far, made-here, made-there}
use Rattle.spr_client.proofs.carried.call_way.Goals as goal

none_of : (far : Bool) (o : Option CarrierSeen) → o ≡ None → cond far o None ≡ None
none_of true o e = e
none_of _ o e = refl

pub returns-in_default-clause-made : goal.returns-in_default-clause-made
returns-in_default-clause-made g c = λ objects replicas.
    let mount = c.args.common.now.mount.now in
    let state : ClientState = having objects replicas c.args.client.now.state in
    let request : Request = asking_at mount state c.args.node c.args.way.file (ask_by c.args.node c.args.life c.args.call.now) in
    let here : over request state ≡ None = ap (λ (b : Bool). cond b state.carrier None) (c.far_machine.ensures.here c.in_default.is) in
    subst (λ (x : Result Answer Reply). CallMade mount c.args.client.now.caller request c.args.pass.now c.call_here.new.pass state state c.call_here.new.out x) (sym c.answered_here.ensures)
    (made-here mount c.args.common.now.volume.now c.args.client.now.caller request c.args.pass.now c.call_here.new.pass state c.requires.may c.call_here.new.out c.call_here.result here c.call_here.ensures.made c.call_here.ensures.none)

pub returns-in-Some-carrier-clause-made : goal.returns-in-Some-carrier-clause-made
returns-in-Some-carrier-clause-made g c = λ objects replicas.
    let mount = c.args.common.now.mount.now in
    let state : ClientState = having objects replicas c.args.client.now.state in
    let request : Request = asking_at mount state c.args.node c.args.way.file (ask_by c.args.node c.args.life c.args.call.now) in
    let carrier = c.in-Some-carrier.carrier in
    let is : over request state ≡ Some carrier = ap (λ (b : Bool). cond b state.carrier None) c.in-Some.ensures.far.1 ∙ c.in-Some-carrier.is in
    subst (λ (x : Result Answer Reply). CallMade mount c.args.client.now.caller request c.args.pass.now c.carry.new.pass state (carrying state (Some c.carry.new.carrier)) c.carry.new.out x) (sym c.answered_there.ensures)
    (made-there mount c.args.common.now.volume.now c.args.client.now.caller request c.args.pass.now c.carry.new.pass state c.requires.may carrier is c.carry.new.carrier c.carry.new.out c.carry.result
    (as_far c.args.client.now.caller c.args.way.file (ask_by c.args.node c.args.life c.args.call.now) request.far c.args.pass.now c.carry.new.pass carrier c.carry.new.carrier c.carry.new.out c.carry.result c.carry.ensures))

pub returns-in-None-clause-made : goal.returns-in-None-clause-made
returns-in-None-clause-made g c = λ objects replicas.
    let mount = c.args.common.now.mount.now in
    let state : ClientState = having objects replicas c.args.client.now.state in
    let request : Request = asking_at mount state c.args.node c.args.way.file (ask_by c.args.node c.args.life c.args.call.now) in
    let here : over request state ≡ None = none_of request.far state.carrier c.in-None.is in
    subst (λ (x : Result Answer Reply). CallMade mount c.args.client.now.caller request c.args.pass.now c.call_here-in-None.new.pass state state c.call_here-in-None.new.out x) (sym c.answered_here-in-None.ensures)
    (made-here mount c.args.common.now.volume.now c.args.client.now.caller request c.args.pass.now c.call_here-in-None.new.pass state c.requires.may c.call_here-in-None.new.out c.call_here-in-None.result here c.call_here-in-None.ensures.made c.call_here-in-None.ensures.none)
