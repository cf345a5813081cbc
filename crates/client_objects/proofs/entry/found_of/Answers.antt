use Rattle.client_objects.proofs.FoundLaws.{found-routed}
use Rattle.client_objects.proofs.entry.found_of.Goals as goal

pub returns : goal.returns
returns c =
    found-routed c.args.mount.now c.args.machine c.args.domain.now c.args.kind c.args.object.now c.in-Ok.door c.in-Ok-route_of.route c.in-Ok.ensures c.in-Ok-route_of.ensures.ok
