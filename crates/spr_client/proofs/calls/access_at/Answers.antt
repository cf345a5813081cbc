use Rattle.spr_client.proofs.Frames.{file_has_tower, may_access}
use Rattle.spr_client.proofs.calls.access_at.Goals as goal

pub access-requires-clause-file : goal.access-requires-clause-file
access-requires-clause-file g c κs within = file_has_tower c.args.common.now.mount.now c.args.common.now.volume.now.towers c.args.file c.requires.may.stack.towers c.requires.route.0

pub access-requires-clause-call : goal.access-requires-clause-call
access-requires-clause-call g c κs within =
    may_access c.args.common.now.mount.now c.args.common.now.volume.now.towers c.args.file c.args.node c.args.op.now c.requires.may.stack.towers c.requires.route.1 c.requires.route.2 c.requires.fits
