use Rattle.std.proofs.Common.{[], Some, None, inr, ap, refl, subst, sym, ◌∙◌}
use Rattle.hist_plain.specs.declared.event.Answer.TheVariants as answers
use Rattle.hist_plain.specs.declared.event.Event.TheVariants as events
use Rattle.tower_core.specs.declared.step.Step.TheVariants.{Untouched}
use Rattle.tower_log.specs.Trail.{TrailSeen}
use Rattle.stack_engine.specs.Engine.{events_in, tree_in}
use Rattle.stack_engine.specs.Moves.{IsRefused}
use Rattle.stack_engine.proofs.Making as making
use Rattle.stack_engine.proofs.Refusing as refusing
use Rattle.stack_engine.proofs.Rooms as rooms
use Rattle.stack_engine.proofs.engine.Engine.synced.Goals as goal

pub returns-in_err-make_room-clause-refused : goal.returns-in_err-make_room-clause-refused
returns-in_err-make_room-clause-refused g c = rooms.if_err c.from_residual.result c.in_err-make_room.field-0.0 _ c.from_residual.ensures.1
    (rooms.full_refused c.args.caller c.args.self.now c.make_room.new.self c.make_room.new.self.trail.room c.in_err-make_room.field-0.0 c.make_room.ensures.same c.in_err-make_room.ensures.err)

pub invariant_of-self : goal.invariant_of-self
invariant_of-self g c = refusing.noted_engine c.args.caller c.in-Err.fault.disk c.in-Err.fault.count _ _ (record { file = record { tree = refl; file = refl; machines = refl; ops = refl }; left = record { sides = λ p n. refl; uses = λ n. refl }; call = inr c.flush.ensures.keeps; pages = c.flush.ensures.same }) c.noted.ensures.noted (ap (λ (t : TrailSeen). t.page_size) c.noted.ensures.same) c.in-Err.ensures.fault c.self.inside.book.sheet c.self.invariant

pub returns-in-Err-clause-refused : goal.returns-in-Err-clause-refused
returns-in-Err-clause-refused g c = subst (IsRefused c.args.caller c.args.self.now _) (sym c.noted.ensures.fault)
    (rooms.refused_room c.args.self.now _ _ c.make_room.new.self.trail.room (c.self.view_is ∙ c.make_room.ensures.same) c.args.caller _ (refusing.noted_refused c.args.caller c.in-Err.fault.disk c.in-Err.fault.count _ _ (record { file = record { tree = refl; file = refl; machines = refl; ops = refl }; left = record { sides = λ p n. refl; uses = λ n. refl }; call = inr c.flush.ensures.keeps; pages = c.flush.ensures.same }) c.noted.ensures.noted (ap (λ (t : TrailSeen). t.page_size) c.noted.ensures.same) c.in-Err.ensures.fault c.self.invariant.sound (ap (λ (t : TrailSeen). t.spare) c.noted.ensures.same)))

pub enter-requires-clause-count : goal.enter-requires-clause-count
enter-requires-clause-count g c = rooms.counted _ c.self.inside.book.sheet c.self.invariant.sheet_is

pub invariant_of-self-2 : goal.invariant_of-self-2
invariant_of-self-2 g c = making.made_engine _ _ (making.entry_of (events.Synced c.args.caller c.args.number c.args.node c.args.from c.args.keep) (Some answers.Done) []) c.args.caller 0 Untouched None c.self.invariant.sound
    (making.made_of c.args.self.now _ _ c.make_room.new.self.trail.room (c.self.view_is ∙ c.make_room.ensures.same) (making.entry_of (events.Synced c.args.caller c.args.number c.args.node c.args.from c.args.keep) (Some answers.Done) c.from_vec.result) (making.entry_of (events.Synced c.args.caller c.args.number c.args.node c.args.from c.args.keep) (Some answers.Done) []) (making.entry_is _ _ _ _ _ refl (c.from_vec.ensures ∙ c.new.ensures.items)) c.args.caller 0 Untouched None
    (record { tree = refl; file = refl; machines = refl; ops = refl }) (inr c.flush.ensures.keeps) (making.still_sent _ _ _ _ _ (λ p m. refl)) (λ leaf some. refl) c.enter.ensures.log (ap (λ (t : TrailSeen). t.page_size) c.enter.ensures.trail) c.in_ok-make_room.ensures.few c.requires.next refl c.requires.number (making.synced_on (tree_in c.args.self.now) (events_in c.args.self.now) c.args.caller c.args.number c.args.node c.args.from c.args.keep))
    (making.synced_tells _ c.args.caller c.args.number c.args.node c.args.from c.args.keep)
    c.self.inside.book.sheet c.enter.new.self.sheet c.self.invariant
    (making.booked _ c.tree.result.now c.self.inside.book.sheet c.enter.new.self.sheet
    (making.entry_of (events.Synced c.args.caller c.args.number c.args.node c.args.from c.args.keep) (Some answers.Done) c.from_vec.result) (making.entry_of (events.Synced c.args.caller c.args.number c.args.node c.args.from c.args.keep) (Some answers.Done) []) (making.entry_is _ _ _ _ _ refl (c.from_vec.ensures ∙ c.new.ensures.items)) c.tree.ensures.value c.enter.ensures.nodes c.enter.ensures.pages c.enter.ensures.state)

pub returns-clause-enters : goal.returns-clause-enters
returns-clause-enters g c = rooms.enters_room c.args.self.now _ _ c.make_room.new.self.trail.room (c.self.view_is ∙ c.make_room.ensures.same) (making.entry_of (events.Synced c.args.caller c.args.number c.args.node c.args.from c.args.keep) (Some answers.Done) [])
    (making.synced_enters _ _ c.args.caller c.args.number c.args.node c.args.from c.args.keep c.self.invariant.sound
    (making.made_of c.args.self.now _ _ c.make_room.new.self.trail.room (c.self.view_is ∙ c.make_room.ensures.same) (making.entry_of (events.Synced c.args.caller c.args.number c.args.node c.args.from c.args.keep) (Some answers.Done) c.from_vec.result) (making.entry_of (events.Synced c.args.caller c.args.number c.args.node c.args.from c.args.keep) (Some answers.Done) []) (making.entry_is _ _ _ _ _ refl (c.from_vec.ensures ∙ c.new.ensures.items)) c.args.caller 0 Untouched None
    (record { tree = refl; file = refl; machines = refl; ops = refl }) (inr c.flush.ensures.keeps) (making.still_sent _ _ _ _ _ (λ p m. refl)) (λ leaf some. refl) c.enter.ensures.log (ap (λ (t : TrailSeen). t.page_size) c.enter.ensures.trail) c.in_ok-make_room.ensures.few c.requires.next refl c.requires.number (making.synced_on (tree_in c.args.self.now) (events_in c.args.self.now) c.args.caller c.args.number c.args.node c.args.from c.args.keep)) (inr c.in-Ok.ensures.calm) c.flush.ensures.same c.in-Ok.ensures.ok)
