use Rattle.std.proofs.Common.{ap}
use Rattle.stack_engine.specs.declared.refusal.StepErr.TheVariants as errors
use Rattle.stack_engine.specs.Engine.{EngineSeen}
use Rattle.stack_engine.proofs.Rooms as rooms
use Rattle.stack_engine.proofs.Sparing as sparing
use Rattle.stack_engine.proofs.engine.Engine.step_access.Goals as goal

pub returns-in_err-make_room-clause-refused : goal.returns-in_err-make_room-clause-refused
returns-in_err-make_room-clause-refused g c = rooms.if_err c.from_residual.result c.in_err-make_room.field-0.0 _ c.from_residual.ensures.1
    (rooms.full_refused c.args.at.caller c.args.self.now c.make_room.new.self c.make_room.new.self.trail.room c.in_err-make_room.field-0.0 c.make_room.ensures.same c.in_err-make_room.ensures.err)

pub returns-in_err-out-clause-refused : goal.returns-in_err-out-clause-refused
returns-in_err-out-clause-refused g c = rooms.if_err c.from_residual-in_err-out.result errors.Memory _ c.from_residual-in_err-out.ensures.1
    (rooms.full_refused c.args.at.caller c.args.self.now c.make_room.new.self c.make_room.new.self.trail.room errors.Memory c.make_room.ensures.same c.in_ok-make_room.ensures.few)

pub returns-in_err-access-clause-refused : goal.returns-in_err-access-clause-refused
returns-in_err-access-clause-refused g c = rooms.if_err c.from_residual-in_err-access.result c.in_err-access.field-0.0 _ c.from_residual-in_err-access.ensures.1
    (rooms.refused_room c.args.self.now _ _ c.make_room.new.self.trail.room c.make_room.ensures.same c.args.at.caller _ c.in_err-access.ensures.refused)

pub returns-clause-makes : goal.returns-clause-makes
returns-clause-makes g c = (c.in_ok-access.field-0, rooms.makes_room c.args.self.now _ _ c.make_room.new.self.trail.room c.make_room.ensures.same c.args.at.caller c.args.at.number c.args.at.node c.args.at.life c.args.op.now c.in_ok-access.field-0 c.in_ok-access.ensures.makes)

pub returns-in_err-make_room-clause-spare : goal.returns-in_err-make_room-clause-spare
returns-in_err-make_room-clause-spare g c = sparing.lowers_none c.args.at.node c.args.at.life c.args.op.now c.args.self.now c.make_room.new.self c.in_err-make_room.field-0.0 c.from_residual.result c.from_residual.ensures.1 (ap (λ (e : EngineSeen). e.trail.spare) c.make_room.ensures.same)

pub returns-in_err-out-clause-spare : goal.returns-in_err-out-clause-spare
returns-in_err-out-clause-spare g c = sparing.lowers_none c.args.at.node c.args.at.life c.args.op.now c.args.self.now c.make_room.new.self errors.Memory c.from_residual-in_err-out.result c.from_residual-in_err-out.ensures.1 (ap (λ (e : EngineSeen). e.trail.spare) c.make_room.ensures.same)

pub returns-in_err-access-clause-spare : goal.returns-in_err-access-clause-spare
returns-in_err-access-clause-spare g c = sparing.lowers_err c.args.at.node c.args.at.life c.args.op.now c.args.self.now c.access.new.self c.in_err-access.field-0.0 c.from_residual-in_err-access.result c.from_residual-in_err-access.ensures.1
    (sparing.lowers_room c.args.at.node c.args.at.life c.args.op.now c.args.self.now c.make_room.new.self c.access.new.self c.make_room.new.self.trail.room _ c.make_room.ensures.same c.in_err-access.ensures.spare.lowers)

pub returns-clause-spare : goal.returns-clause-spare
returns-clause-spare g c = sparing.lowers_ok c.args.at.node c.args.at.life c.args.op.now c.args.self.now c.access.new.self c.in_ok-access.field-0 _
    (sparing.lowers_room c.args.at.node c.args.at.life c.args.op.now c.args.self.now c.make_room.new.self c.access.new.self c.make_room.new.self.trail.room _ c.make_room.ensures.same c.in_ok-access.ensures.spare.lowers)
