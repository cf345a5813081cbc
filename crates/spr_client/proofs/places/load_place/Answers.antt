use Rattle.spr_client.proofs.LineLaws.{done-lacks}
use Rattle.spr_client.proofs.places.load_place.Goals as goal

pub returns-in_default : goal.returns-in_default
returns-in_default g c = done-lacks c.args.common.now.mount.now c.args.client.now.caller c.args.client.now.state _ c.args.pass.now
