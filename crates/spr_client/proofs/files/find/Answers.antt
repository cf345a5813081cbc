use Rattle.spr_client.proofs.Targets.{found_target}
use Rattle.spr_client.proofs.files.find.Goals as goal

pub returns-clause-target : goal.returns-clause-target
returns-clause-target g c =
    found_target c.args.common.now.mount.now c.args.client.now.state.machine c.args.client.now.state.objects c.args.name.now c.find.result c.nodes-nodes.ensures.sound c.requires.on.objects c.find.ensures.is
