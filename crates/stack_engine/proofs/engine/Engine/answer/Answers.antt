use Rattle.std.proofs.Common.{[], Some, None, inl, ap, refl, subst, sym, ◌∙◌}
use Rattle.hist_plain.specs.declared.event.Event.TheVariants as events
use Rattle.hist_plain.specs.declared.event.Op.{Op}
use Rattle.tower_core.specs.declared.step.Step.TheVariants.{Untouched}
use Rattle.tower_log.specs.Trail.{TrailSeen}
use Rattle.stack_engine.specs.declared.refusal.StepErr.TheVariants as errors
use Rattle.stack_engine.specs.Engine.{EngineSeen, IsNext, events_in, tree_in}
use Rattle.stack_engine.proofs.Making as making
use Rattle.stack_engine.proofs.Rooms as rooms
use Rattle.stack_engine.proofs.engine.Engine.answer.Goals as goal

pub returns-in_err-make_room-clause-refused : goal.returns-in_err-make_room-clause-refused
returns-in_err-make_room-clause-refused g c = rooms.if_err c.from_residual.result c.in_err-make_room.field-0.0 _ c.from_residual.ensures.1
    (rooms.full_refused c.args.at.caller c.args.self.now c.make_room.new.self c.make_room.new.self.trail.room c.in_err-make_room.field-0.0 c.make_room.ensures.same c.in_err-make_room.ensures.err)

pub returns-in_err-copy-clause-refused : goal.returns-in_err-copy-clause-refused
returns-in_err-copy-clause-refused g c = rooms.if_err c.from_residual-in_err-copy.result errors.Memory _ c.from_residual-in_err-copy.ensures.1
    (rooms.full_refused c.args.at.caller c.args.self.now c.make_room.new.self c.make_room.new.self.trail.room errors.Memory c.make_room.ensures.same c.in_ok-make_room.ensures.few)

pub enter-requires-clause-count : goal.enter-requires-clause-count
enter-requires-clause-count g c = rooms.counted _ c.self.inside.book.sheet c.self.invariant.sheet_is

pub invariant_of-self : goal.invariant_of-self
invariant_of-self g c = making.made_engine _ _ (making.entry_of (events.Access c.args.at.caller c.args.at.number c.args.at.node c.args.at.life c.args.op.now) (Some c.args.answer) []) c.args.at.caller 0 Untouched None c.self.invariant.sound
    (making.made_of c.args.self.now _ _ c.make_room.new.self.trail.room (c.self.view_is ∙ c.make_room.ensures.same) (making.entry_of c.event.result (Some c.args.answer) c.from_vec.result) (making.entry_of (events.Access c.args.at.caller c.args.at.number c.args.at.node c.args.at.life c.args.op.now) (Some c.args.answer) []) (making.entry_is _ _ _ _ _ (c.event.ensures ∙ ap (λ (op : Op). events.Access c.args.at.caller c.args.at.number c.args.at.node c.args.at.life op) c.in_ok-copy.ensures) (c.from_vec.ensures ∙ c.new.ensures.items)) c.args.at.caller 0 Untouched None
    (record { tree = refl; file = refl; machines = refl; ops = refl }) (inl refl) (making.still_sent _ _ _ _ _ (λ p m. refl)) (λ leaf some. refl) c.enter.ensures.log (ap (λ (t : TrailSeen). t.page_size) c.enter.ensures.trail) c.in_ok-make_room.ensures.few c.requires.next refl c.requires.number (making.still_on (tree_in c.args.self.now) (events_in c.args.self.now) c.args.at.caller c.args.at.number c.args.at.node c.args.at.life c.args.op.now (making.still_kind c.args.self.now c.args.at.node c.args.at.life c.args.op.now c.args.answer c.requires.still)))
    (making.still_tells _ c.args.at.caller c.args.at.number c.args.at.node c.args.at.life c.args.op.now c.args.answer (making.still_room c.args.self.now _ c.make_room.new.self.trail.room (c.self.view_is ∙ c.make_room.ensures.same) c.args.at.node c.args.at.life c.args.op.now c.args.answer c.requires.still) (subst (λ (e : EngineSeen). IsNext e (events.Access c.args.at.caller c.args.at.number c.args.at.node c.args.at.life c.args.op.now)) (sym (c.self.view_is ∙ c.make_room.ensures.same)) c.requires.next))
    c.self.inside.book.sheet c.enter.new.self.sheet c.self.invariant
    (making.booked _ c.tree.result.now c.self.inside.book.sheet c.enter.new.self.sheet
    (making.entry_of c.event.result (Some c.args.answer) c.from_vec.result) (making.entry_of (events.Access c.args.at.caller c.args.at.number c.args.at.node c.args.at.life c.args.op.now) (Some c.args.answer) []) (making.entry_is _ _ _ _ _ (c.event.ensures ∙ ap (λ (op : Op). events.Access c.args.at.caller c.args.at.number c.args.at.node c.args.at.life op) c.in_ok-copy.ensures) (c.from_vec.ensures ∙ c.new.ensures.items)) c.tree.ensures.value c.enter.ensures.nodes c.enter.ensures.pages c.enter.ensures.state)

pub returns-clause-makes : goal.returns-clause-makes
returns-clause-makes g c = rooms.makes_room c.args.self.now _ _ c.make_room.new.self.trail.room (c.self.view_is ∙ c.make_room.ensures.same) c.args.at.caller c.args.at.number c.args.at.node c.args.at.life c.args.op.now c.args.answer
    (making.still_makes _ _ c.self.invariant.sound c.args.at.caller c.args.at.number c.args.at.node c.args.at.life refl c.args.op.now c.args.answer (making.still_room c.args.self.now _ c.make_room.new.self.trail.room (c.self.view_is ∙ c.make_room.ensures.same) c.args.at.node c.args.at.life c.args.op.now c.args.answer c.requires.still)
    (making.made_of c.args.self.now _ _ c.make_room.new.self.trail.room (c.self.view_is ∙ c.make_room.ensures.same) (making.entry_of c.event.result (Some c.args.answer) c.from_vec.result) (making.entry_of (events.Access c.args.at.caller c.args.at.number c.args.at.node c.args.at.life c.args.op.now) (Some c.args.answer) []) (making.entry_is _ _ _ _ _ (c.event.ensures ∙ ap (λ (op : Op). events.Access c.args.at.caller c.args.at.number c.args.at.node c.args.at.life op) c.in_ok-copy.ensures) (c.from_vec.ensures ∙ c.new.ensures.items)) c.args.at.caller 0 Untouched None
    (record { tree = refl; file = refl; machines = refl; ops = refl }) (inl refl) (making.still_sent _ _ _ _ _ (λ p m. refl)) (λ leaf some. refl) c.enter.ensures.log (ap (λ (t : TrailSeen). t.page_size) c.enter.ensures.trail) c.in_ok-make_room.ensures.few c.requires.next refl c.requires.number (making.still_on (tree_in c.args.self.now) (events_in c.args.self.now) c.args.at.caller c.args.at.number c.args.at.node c.args.at.life c.args.op.now (making.still_kind c.args.self.now c.args.at.node c.args.at.life c.args.op.now c.args.answer c.requires.still))))
