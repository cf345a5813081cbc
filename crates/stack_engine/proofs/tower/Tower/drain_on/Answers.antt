use Rattle.std.proofs.Common.{◌≡◌, IfErr, ap, sym, subst, ◌∙◌}
use Rattle.hist_plain.specs.declared.event.Event.{Event}
use Rattle.stack_engine.specs.declared.refusal.StepErr.TheVariants as errors
use Rattle.stack_engine.specs.declared.turns.TurnOf.TheVariants.{File}
use Rattle.stack_engine.specs.Ended.{DrainsBy}
use Rattle.stack_engine.specs.Engine.{EngineSeen}
use Rattle.stack_engine.specs.Messages.{NeedsDisks}
use Rattle.stack_engine.specs.Moves.{IsRefused, Sends}
use Rattle.stack_engine.specs.Tower.{TowerSeen}
use Rattle.stack_engine.specs.Turns.{with_turn, without_turns}
use Rattle.stack_engine.proofs.Draining as draining
use Rattle.stack_engine.proofs.Driving as driving
use Rattle.stack_engine.proofs.Rooms as rooms
use Rattle.stack_engine.proofs.tower.Tower.drain_on.Goals as goal

pub returns-in_err-make_room-clause-refused : goal.returns-in_err-make_room-clause-refused
returns-in_err-make_room-clause-refused g c = subst (λ (e : EngineSeen). IfErr c.from_residual.result (IsRefused c.args.caller e c.make_room.new.self)) (ap (λ (t : TowerSeen). t.engine) c.self.view_is)
    (rooms.if_err c.from_residual.result c.in_err-make_room.field-0.0 _ c.from_residual.ensures.1 (rooms.full_refused c.args.caller c.self.inside.engine c.make_room.new.self c.make_room.new.self.trail.room c.in_err-make_room.field-0.0 c.make_room.ensures.same c.in_err-make_room.ensures.err))

pub returns-in_err-take_turn-clause-refused : goal.returns-in_err-take_turn-clause-refused
returns-in_err-take_turn-clause-refused g c = subst (λ (e : EngineSeen). IfErr c.from_residual-in_err-take_turn.result (IsRefused c.args.caller e c.make_room.new.self)) (ap (λ (t : TowerSeen). t.engine) c.self.view_is)
    (rooms.if_err c.from_residual-in_err-take_turn.result errors.Memory _ c.from_residual-in_err-take_turn.ensures.1 (rooms.full_refused c.args.caller c.self.inside.engine c.make_room.new.self c.make_room.new.self.trail.room errors.Memory c.make_room.ensures.same c.in_ok-make_room.ensures.few))

pub returns-in_err-event-clause-refused : goal.returns-in_err-event-clause-refused
returns-in_err-event-clause-refused g c = subst (λ (e : EngineSeen). IfErr c.from_residual-in_err-event.result (IsRefused c.args.caller e c.message.new.self)) (ap (λ (t : TowerSeen). t.engine) c.self.view_is)
    (rooms.if_err c.from_residual-in_err-event.result c.in_err-event.field-0.0 _ c.from_residual-in_err-event.ensures.1 (rooms.refused_room c.self.inside.engine c.make_room.new.self c.message.new.self c.make_room.new.self.trail.room c.make_room.ensures.same c.args.caller c.in_err-event.field-0.0 c.in_err-event.ensures.refused))

pub returns-in_err-event-clause-turns : goal.returns-in_err-event-clause-turns
returns-in_err-event-clause-turns g c = driving.on_err c.from_residual-in_err-event.result _
    (ap (without_turns c.args.caller) (c.in_ok-take_turn.ensures.ok ∙ ap (λ (t : TowerSeen). with_turn c.args.caller File t.turns) c.self.view_is) ∙ driving.turns_undone c.args.caller File c.args.self.now.turns)

pub returns-clause-advances : goal.returns-clause-advances
returns-clause-advances g c = λ number end.
    let sends : Sends c.args.event c.args.self.now.engine c.message.new.self c.in_ok-event.event = subst (λ (e : EngineSeen). Sends c.args.event e c.message.new.self c.in_ok-event.event) (ap (λ (t : TowerSeen). t.engine) c.self.view_is)
    (rooms.sends_room c.self.inside.engine c.make_room.new.self c.message.new.self c.make_room.new.self.trail.room c.make_room.ensures.same c.args.event c.in_ok-event.event c.in_ok-event.ensures.sends) in
    let same : c.in_ok-event.event ≡ c.args.event = draining.drain_sends c.args.self.now.engine c.message.new.self c.args.node c.args.event c.in_ok-event.event c.requires.drains sends in
    record {
      free = c.requires.free;
      drains = subst (DrainsBy c.args.self.now.engine c.args.node) (sym same) c.requires.drains;
      sends = subst (λ (a : Event). Sends a c.args.self.now.engine c.message.new.self c.in_ok-event.event) (sym same) sends;
      turns = c.in_ok-take_turn.ensures.ok ∙ ap (λ (t : TowerSeen). with_turn c.args.caller File t.turns) c.self.view_is;
    }

pub returns-in_err-make_room-clause-idle : goal.returns-in_err-make_room-clause-idle
returns-in_err-make_room-clause-idle g c = λ needless. ap (λ (e : EngineSeen). e.ground) c.make_room.ensures.same ∙ ap (λ (t : TowerSeen). t.engine.ground) c.self.view_is

pub returns-in_err-make_room-clause-spare : goal.returns-in_err-make_room-clause-spare
returns-in_err-make_room-clause-spare g c = ap (λ (e : EngineSeen). e.trail.spare) c.make_room.ensures.same ∙ ap (λ (t : TowerSeen). t.engine.trail.spare) c.self.view_is

pub returns-in_err-take_turn-clause-idle : goal.returns-in_err-take_turn-clause-idle
returns-in_err-take_turn-clause-idle g c = λ needless. ap (λ (e : EngineSeen). e.ground) c.make_room.ensures.same ∙ ap (λ (t : TowerSeen). t.engine.ground) c.self.view_is

pub returns-in_err-take_turn-clause-spare : goal.returns-in_err-take_turn-clause-spare
returns-in_err-take_turn-clause-spare g c = ap (λ (e : EngineSeen). e.trail.spare) c.make_room.ensures.same ∙ ap (λ (t : TowerSeen). t.engine.trail.spare) c.self.view_is

pub returns-in_err-event-clause-idle : goal.returns-in_err-event-clause-idle
returns-in_err-event-clause-idle g c = λ needless.
    rooms.idle_room c.self.inside.engine c.make_room.new.self c.make_room.new.self c.make_room.new.self.trail.room c.make_room.ensures.same c.args.event c.message.new.self.ground c.in_err-event.ensures.idle
    (λ needs. needless (subst (λ (t : TowerSeen). NeedsDisks t.engine c.args.event) c.self.view_is needs)) ∙ ap (λ (t : TowerSeen). t.engine.ground) c.self.view_is

pub returns-in_err-event-clause-spare : goal.returns-in_err-event-clause-spare
returns-in_err-event-clause-spare g c = c.in_err-event.ensures.refused.spare ∙ ap (λ (e : EngineSeen). e.trail.spare) c.make_room.ensures.same ∙ ap (λ (t : TowerSeen). t.engine.trail.spare) c.self.view_is

pub returns-clause-idle : goal.returns-clause-idle
returns-clause-idle g c = λ needless.
    rooms.idle_room c.self.inside.engine c.make_room.new.self c.make_room.new.self c.make_room.new.self.trail.room c.make_room.ensures.same c.args.event c.message.new.self.ground c.in_ok-event.ensures.idle
    (λ needs. needless (subst (λ (t : TowerSeen). NeedsDisks t.engine c.args.event) c.self.view_is needs)) ∙ ap (λ (t : TowerSeen). t.engine.ground) c.self.view_is

pub returns-clause-spare : goal.returns-clause-spare
returns-clause-spare g c = c.in_ok-event.ensures.sends.spare ∙ ap (λ (e : EngineSeen). e.trail.spare) c.make_room.ensures.same ∙ ap (λ (t : TowerSeen). t.engine.trail.spare) c.self.view_is
