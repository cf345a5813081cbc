use Rattle.spr_volume.proofs.Both.{quiet_of}
use Rattle.spr_volume.proofs.mounted.Volume.meet.Goals as goal

pub returns-clause-this : goal.returns-clause-this
returns-clause-this g c =
    quiet_of c.args.pass.now c.pass.inside.files c.meet.new.pass c.pass.inside.names c.meet-2.new.seat c.pass.view_is c.pass.invariant c.meet.ensures.this c.meet-2.ensures.this

pub returns-clause-that : goal.returns-clause-that
returns-clause-that g c =
    quiet_of c.args.other c.other.inside.files c.meet.new.pass c.other.inside.names c.meet-2.new.seat c.other.view_is c.other.invariant c.meet.ensures.that c.meet-2.ensures.that
