use Rattle.std.proofs.Common.{sym, subst}
use Rattle.client_objects.specs.declared.state.ClientState.{ClientState}
use Rattle.client_objects.specs.declared.target.Way.{Way}
use Rattle.script_meaning.specs.Plan.{asking_at}
use Rattle.spr_client.specs.Serving.{CallMade, FitsFile, IsWayTo, ask_by, having}
use Rattle.spr_client.proofs.CarriedLaws.{way_to}
use Rattle.spr_client.proofs.carried.call_object.Goals as goal

pub call_way-requires-clause-route : goal.call_way-requires-clause-route
call_way-requires-clause-route g c κs within =
    subst (λ (w : Way). IsWayTo c.args.common.now.mount.now w c.args.node) (sym c.way-way.ensures) (way_to c.args.common.now.mount.now c.args.target c.args.node c.requires.route)

pub call_way-requires-clause-fits : goal.call_way-requires-clause-fits
call_way-requires-clause-fits g c κs within =
    subst (λ (w : Way). FitsFile c.args.common.now.mount.now w.file c.args.call.now) (sym c.way-way.ensures) c.requires.fits

pub returns-clause-made : goal.returns-clause-made
returns-clause-made g c = λ objects replicas.
    let mount = c.args.common.now.mount.now in
    let before : ClientState = having objects replicas c.args.client.now.state in
    let after : ClientState = having objects replicas c.call_way.new.client.state in
    subst (λ (w : Way). CallMade mount c.args.client.now.caller (asking_at mount c.args.client.now.state c.args.node w.file (ask_by c.args.node c.args.life c.args.call.now)) c.args.pass.now c.call_way.new.pass before after c.call_way.new.out c.call_way.result) c.way-way.ensures
    (c.call_way.ensures.made objects replicas)
