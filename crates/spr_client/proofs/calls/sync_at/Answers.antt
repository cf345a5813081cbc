use Rattle.spr_client.proofs.Frames.{file_has_tower, upper_of}
use Rattle.spr_client.proofs.calls.sync_at.Goals as goal

pub sync-requires-clause-file : goal.sync-requires-clause-file
sync-requires-clause-file g c κs within = file_has_tower c.args.common.now.mount.now c.args.common.now.volume.now.towers c.args.file c.requires.may.stack.towers c.requires.route.0

pub sync-requires-clause-upper : goal.sync-requires-clause-upper
sync-requires-clause-upper g c κs within = upper_of c.args.common.now.mount.now c.args.common.now.volume.now.towers c.args.file c.args.node c.requires.may.stack.towers c.requires.route.1 c.requires.route.2
