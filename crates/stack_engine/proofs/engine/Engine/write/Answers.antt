use Rattle.std.proofs.Common.{◌≡◌, [], ℕ, List, Some, inl, ap, refl, subst, sym, ◌∙◌}
use Rattle.hist_plain.specs.declared.event.Answer.TheVariants as answers
use Rattle.hist_plain.specs.declared.event.Event.TheVariants as events
use Rattle.hist_plain.specs.Plain.{overwritten}
use Rattle.hist_plain.specs.declared.event.Op.TheVariants as ops
use Rattle.tower_core.specs.declared.step.Step.TheVariants.{Writes}
use Rattle.tower_log.specs.Trail.{TrailSeen}
use Rattle.stack_engine.specs.declared.refusal.StepErr.TheVariants as errors
use Rattle.stack_engine.specs.Engine.{EngineSeen, IsNext, events_in, state_in, tree_in}
use Rattle.stack_engine.proofs.Making as making
use Rattle.stack_engine.proofs.Rooms as rooms
use Rattle.stack_engine.proofs.engine.Engine.write.Goals as goal

pub returns-in_err-make_room-clause-refused : goal.returns-in_err-make_room-clause-refused
returns-in_err-make_room-clause-refused g c = rooms.if_err c.from_residual.result c.in_err-make_room.field-0.0 _ c.from_residual.ensures.1
    (rooms.full_refused c.args.at.caller c.args.self.now c.make_room.new.self c.make_room.new.self.trail.room c.in_err-make_room.field-0.0 c.make_room.ensures.same c.in_err-make_room.ensures.err)

pub returns-in_err-copy-clause-refused : goal.returns-in_err-copy-clause-refused
returns-in_err-copy-clause-refused g c = rooms.if_err c.from_residual-in_err-copy.result errors.Memory _ c.from_residual-in_err-copy.ensures.1
    (rooms.full_refused c.args.at.caller c.args.self.now c.make_room.new.self c.make_room.new.self.trail.room errors.Memory c.make_room.ensures.same c.in_ok-make_room.ensures.few)

pub enter-requires-clause-count : goal.enter-requires-clause-count
enter-requires-clause-count g c = rooms.counted _ c.self.inside.book.sheet c.self.invariant.sheet_is

pub invariant_of-self : goal.invariant_of-self
invariant_of-self g c = making.made_engine _ _ (making.entry_of (events.Access c.args.at.caller c.args.at.number c.args.at.node c.args.at.life (ops.Write c.args.page c.args.off c.args.bytes.now)) (Some answers.Done) []) c.args.at.caller c.args.page (Writes c.args.at.node) _ c.self.invariant.sound
    (making.made_of c.args.self.now _ _ c.make_room.new.self.trail.room (c.self.view_is ∙ c.make_room.ensures.same) (making.entry_of c.event.result (Some answers.Done) c.from_vec.result) (making.entry_of (events.Access c.args.at.caller c.args.at.number c.args.at.node c.args.at.life (ops.Write c.args.page c.args.off c.args.bytes.now)) (Some answers.Done) []) (making.entry_is _ _ _ _ _ (c.event.ensures ∙ ap (λ (b : List ℕ). events.Access c.args.at.caller c.args.at.number c.args.at.node c.args.at.life (ops.Write c.args.page c.args.off b)) (c.in_ok-copy.ensures ∙ c.as_slice.ensures)) (c.from_vec.ensures ∙ c.new.ensures.items)) c.args.at.caller c.args.page (Writes c.args.at.node) _
    c.change.ensures.same (inl refl) (making.written_as _ _ _ _ _ (ap (overwritten _ c.args.off) c.as_slice-2.ensures) c.change.ensures.written) c.change.ensures.follows c.enter.ensures.log (ap (λ (t : TrailSeen). t.page_size) c.enter.ensures.trail) c.in_ok-make_room.ensures.few c.requires.next refl c.requires.number (making.write_on (tree_in c.args.self.now) (events_in c.args.self.now) c.args.at.caller c.args.at.number c.args.at.node c.args.at.life c.args.page c.args.off c.args.bytes.now c.requires.life))
    (making.write_tells _ c.self.invariant.sound c.args.at.caller c.args.at.number c.args.at.node c.args.at.life c.args.page (subst (λ (e : EngineSeen). c.args.at.life ≡ (state_in e).life c.args.at.node) (sym (c.self.view_is ∙ c.make_room.ensures.same)) c.requires.life) c.args.off c.args.bytes.now (subst (λ (e : EngineSeen). IsNext e (events.Access c.args.at.caller c.args.at.number c.args.at.node c.args.at.life (ops.Write c.args.page c.args.off c.args.bytes.now))) (sym (c.self.view_is ∙ c.make_room.ensures.same)) c.requires.next))
    c.self.inside.book.sheet c.enter.new.self.sheet c.self.invariant
    (making.booked _ c.tree.result.now c.self.inside.book.sheet c.enter.new.self.sheet
    (making.entry_of c.event.result (Some answers.Done) c.from_vec.result) (making.entry_of (events.Access c.args.at.caller c.args.at.number c.args.at.node c.args.at.life (ops.Write c.args.page c.args.off c.args.bytes.now)) (Some answers.Done) []) (making.entry_is _ _ _ _ _ (c.event.ensures ∙ ap (λ (b : List ℕ). events.Access c.args.at.caller c.args.at.number c.args.at.node c.args.at.life (ops.Write c.args.page c.args.off b)) (c.in_ok-copy.ensures ∙ c.as_slice.ensures)) (c.from_vec.ensures ∙ c.new.ensures.items)) c.tree.ensures.value c.enter.ensures.nodes c.enter.ensures.pages c.enter.ensures.state)

pub returns-clause-makes : goal.returns-clause-makes
returns-clause-makes g c = rooms.makes_room c.args.self.now _ _ c.make_room.new.self.trail.room (c.self.view_is ∙ c.make_room.ensures.same) c.args.at.caller c.args.at.number c.args.at.node c.args.at.life (ops.Write c.args.page c.args.off c.args.bytes.now) answers.Done
    (making.write_makes _ _ c.self.invariant.sound c.args.at.caller c.args.at.number c.args.at.node c.args.at.life c.args.page (subst (λ (e : EngineSeen). c.args.at.life ≡ (state_in e).life c.args.at.node) (sym (c.self.view_is ∙ c.make_room.ensures.same)) c.requires.life) refl c.args.off c.args.bytes.now
    (making.made_of c.args.self.now _ _ c.make_room.new.self.trail.room (c.self.view_is ∙ c.make_room.ensures.same) (making.entry_of c.event.result (Some answers.Done) c.from_vec.result) (making.entry_of (events.Access c.args.at.caller c.args.at.number c.args.at.node c.args.at.life (ops.Write c.args.page c.args.off c.args.bytes.now)) (Some answers.Done) []) (making.entry_is _ _ _ _ _ (c.event.ensures ∙ ap (λ (b : List ℕ). events.Access c.args.at.caller c.args.at.number c.args.at.node c.args.at.life (ops.Write c.args.page c.args.off b)) (c.in_ok-copy.ensures ∙ c.as_slice.ensures)) (c.from_vec.ensures ∙ c.new.ensures.items)) c.args.at.caller c.args.page (Writes c.args.at.node) _
    c.change.ensures.same (inl refl) (making.written_as _ _ _ _ _ (ap (overwritten _ c.args.off) c.as_slice-2.ensures) c.change.ensures.written) c.change.ensures.follows c.enter.ensures.log (ap (λ (t : TrailSeen). t.page_size) c.enter.ensures.trail) c.in_ok-make_room.ensures.few c.requires.next refl c.requires.number (making.write_on (tree_in c.args.self.now) (events_in c.args.self.now) c.args.at.caller c.args.at.number c.args.at.node c.args.at.life c.args.page c.args.off c.args.bytes.now c.requires.life)))
