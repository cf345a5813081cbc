use Rattle.spr_client.proofs.Frames.{file_has_tower, upper_of}
use Rattle.spr_client.proofs.calls.end_at.Goals as goal

pub end-requires-clause-file : goal.end-requires-clause-file
end-requires-clause-file g c κs within = file_has_tower c.args.common.now.mount.now c.args.common.now.volume.now.towers c.args.file c.requires.may.stack.towers c.requires.route.0

pub end-requires-clause-upper : goal.end-requires-clause-upper
end-requires-clause-upper g c κs within = upper_of c.args.common.now.mount.now c.args.common.now.volume.now.towers c.args.file c.args.node c.requires.may.stack.towers c.requires.route.1 c.requires.route.2
