use Rattle.std.proofs.Common.{IfErr, ap, subst, ◌∙◌}
use Rattle.stack_engine.specs.declared.refusal.StepErr.TheVariants as errors
use Rattle.stack_engine.specs.Engine.{EngineSeen}
use Rattle.stack_engine.specs.Messages.{NeedsDisks}
use Rattle.stack_engine.specs.Moves.{IsRefused, Sends}
use Rattle.stack_engine.specs.Tower.{TowerSeen}
use Rattle.stack_engine.specs.Turns.{turns_stepping, without_turns}
use Rattle.stack_engine.proofs.Driving as driving
use Rattle.stack_engine.proofs.Rooms as rooms
use Rattle.stack_engine.proofs.tower.Tower.move_on.Goals as goal

pub returns-in_err-make_room-clause-refused : goal.returns-in_err-make_room-clause-refused
returns-in_err-make_room-clause-refused g c = subst (λ (e : EngineSeen). IfErr c.from_residual.result (IsRefused c.args.at.caller e c.make_room.new.self)) (ap (λ (t : TowerSeen). t.engine) c.self.view_is)
    (rooms.if_err c.from_residual.result c.in_err-make_room.field-0.0 _ c.from_residual.ensures.1 (rooms.full_refused c.args.at.caller c.self.inside.engine c.make_room.new.self c.make_room.new.self.trail.room c.in_err-make_room.field-0.0 c.make_room.ensures.same c.in_err-make_room.ensures.err))

pub returns-in_err-take_turns-clause-refused : goal.returns-in_err-take_turns-clause-refused
returns-in_err-take_turns-clause-refused g c = subst (λ (e : EngineSeen). IfErr c.from_residual-in_err-take_turns.result (IsRefused c.args.at.caller e c.make_room.new.self)) (ap (λ (t : TowerSeen). t.engine) c.self.view_is)
    (rooms.if_err c.from_residual-in_err-take_turns.result errors.Memory _ c.from_residual-in_err-take_turns.ensures.1 (rooms.full_refused c.args.at.caller c.self.inside.engine c.make_room.new.self c.make_room.new.self.trail.room errors.Memory c.make_room.ensures.same c.in_ok-make_room.ensures.few))

pub returns-in_err-event-clause-refused : goal.returns-in_err-event-clause-refused
returns-in_err-event-clause-refused g c = subst (λ (e : EngineSeen). IfErr c.from_residual-in_err-event.result (IsRefused c.args.at.caller e c.message.new.self)) (ap (λ (t : TowerSeen). t.engine) c.self.view_is)
    (rooms.if_err c.from_residual-in_err-event.result c.in_err-event.field-0.0 _ c.from_residual-in_err-event.ensures.1 (rooms.refused_room c.self.inside.engine c.make_room.new.self c.message.new.self c.make_room.new.self.trail.room c.make_room.ensures.same c.args.at.caller c.in_err-event.field-0.0 c.in_err-event.ensures.refused))

pub returns-in_err-take_turns-clause-turns : goal.returns-in_err-take_turns-clause-turns
returns-in_err-take_turns-clause-turns g c = driving.on_err c.from_residual-in_err-take_turns.result _
    (c.in_err-take_turns.ensures.err ∙ ap (λ (t : TowerSeen). without_turns c.args.at.caller t.turns) c.self.view_is)

pub returns-in_err-event-clause-turns : goal.returns-in_err-event-clause-turns
returns-in_err-event-clause-turns g c = driving.on_err c.from_residual-in_err-event.result _
    (ap (without_turns c.args.at.caller) (c.in_ok-take_turns.ensures.ok ∙ ap (λ (t : TowerSeen). turns_stepping c.args.at.caller c.args.missed.page c.args.missed.event t.turns) c.self.view_is) ∙ driving.stepping_undone c.args.at.caller c.args.missed.page c.args.missed.event c.args.self.now.turns)

pub returns-clause-advances : goal.returns-clause-advances
returns-clause-advances g c = record {
  page = c.args.missed.page;
  want = c.requires.missed.want;
  asked = c.args.missed.event;
  wants = c.requires.missed.wants;
  steps = c.requires.missed.steps;
  sends = subst (λ (e : EngineSeen). Sends c.args.missed.event e c.message.new.self c.in_ok-event.event) (ap (λ (t : TowerSeen). t.engine) c.self.view_is)
      (rooms.sends_room c.self.inside.engine c.make_room.new.self c.message.new.self c.make_room.new.self.trail.room c.make_room.ensures.same c.args.missed.event c.in_ok-event.event c.in_ok-event.ensures.sends);
  free = c.requires.free;
  turns = c.in_ok-take_turns.ensures.ok ∙ ap (λ (t : TowerSeen). turns_stepping c.args.at.caller c.args.missed.page c.args.missed.event t.turns) c.self.view_is;
}

pub returns-in_err-make_room-clause-idle : goal.returns-in_err-make_room-clause-idle
returns-in_err-make_room-clause-idle g c = λ needless. ap (λ (e : EngineSeen). e.ground) c.make_room.ensures.same ∙ ap (λ (t : TowerSeen). t.engine.ground) c.self.view_is

pub returns-in_err-make_room-clause-spare : goal.returns-in_err-make_room-clause-spare
returns-in_err-make_room-clause-spare g c = ap (λ (e : EngineSeen). e.trail.spare) c.make_room.ensures.same ∙ ap (λ (t : TowerSeen). t.engine.trail.spare) c.self.view_is

pub returns-in_err-take_turns-clause-idle : goal.returns-in_err-take_turns-clause-idle
returns-in_err-take_turns-clause-idle g c = λ needless. ap (λ (e : EngineSeen). e.ground) c.make_room.ensures.same ∙ ap (λ (t : TowerSeen). t.engine.ground) c.self.view_is

pub returns-in_err-take_turns-clause-spare : goal.returns-in_err-take_turns-clause-spare
returns-in_err-take_turns-clause-spare g c = ap (λ (e : EngineSeen). e.trail.spare) c.make_room.ensures.same ∙ ap (λ (t : TowerSeen). t.engine.trail.spare) c.self.view_is

pub returns-in_err-event-clause-idle : goal.returns-in_err-event-clause-idle
returns-in_err-event-clause-idle g c = λ needless.
    rooms.idle_room c.self.inside.engine c.make_room.new.self c.make_room.new.self c.make_room.new.self.trail.room c.make_room.ensures.same c.args.missed.event c.message.new.self.ground c.in_err-event.ensures.idle
    (λ needs. needless (subst (λ (t : TowerSeen). NeedsDisks t.engine c.args.missed.event) c.self.view_is needs)) ∙ ap (λ (t : TowerSeen). t.engine.ground) c.self.view_is

pub returns-in_err-event-clause-spare : goal.returns-in_err-event-clause-spare
returns-in_err-event-clause-spare g c = c.in_err-event.ensures.refused.spare ∙ ap (λ (e : EngineSeen). e.trail.spare) c.make_room.ensures.same ∙ ap (λ (t : TowerSeen). t.engine.trail.spare) c.self.view_is

pub returns-clause-idle : goal.returns-clause-idle
returns-clause-idle g c = λ needless.
    rooms.idle_room c.self.inside.engine c.make_room.new.self c.make_room.new.self c.make_room.new.self.trail.room c.make_room.ensures.same c.args.missed.event c.message.new.self.ground c.in_ok-event.ensures.idle
    (λ needs. needless (subst (λ (t : TowerSeen). NeedsDisks t.engine c.args.missed.event) c.self.view_is needs)) ∙ ap (λ (t : TowerSeen). t.engine.ground) c.self.view_is

pub returns-clause-spare : goal.returns-clause-spare
returns-clause-spare g c = c.in_ok-event.ensures.sends.spare ∙ ap (λ (e : EngineSeen). e.trail.spare) c.make_room.ensures.same ∙ ap (λ (t : TowerSeen). t.engine.trail.spare) c.self.view_is
