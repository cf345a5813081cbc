use Rattle.std.proofs.Common.{◌<◌, [], None, ap, subst, sym, ◌∙◌}
use Rattle.hist_plain.specs.declared.TheConstants.{MAX_EVENTS}
use Rattle.hist_plain.specs.declared.event.Event.{Event}
use Rattle.page_exchange.specs.Steps.{step_asked}
use Rattle.tower_log.specs.Log.{place_of}
use Rattle.tower_log.specs.Trail.{TrailSeen}
use Rattle.stack_engine.specs.Engine.{EngineSeen, IsNext, events_in, log_in, tree_in}
use Rattle.stack_engine.specs.Messages.{event_asked}
use Rattle.stack_engine.proofs.Asking as asking
use Rattle.stack_engine.proofs.Making as making
use Rattle.stack_engine.proofs.Needs as needs
use Rattle.stack_engine.proofs.Overs as overs
use Rattle.stack_engine.proofs.Pages as pages
use Rattle.stack_engine.proofs.Refusing as refusing
use Rattle.stack_engine.proofs.Rooms as rooms
use Rattle.stack_engine.proofs.Sending as sending
use Rattle.stack_engine.proofs.engine.Engine.push.Goals as goal

pub returns-in_err-make_room-clause-refused : goal.returns-in_err-make_room-clause-refused
returns-in_err-make_room-clause-refused g c = rooms.if_err c.from_residual.result c.in_err-make_room.field-0.0 _ c.from_residual.ensures.1
    (rooms.full_refused c.args.caller c.args.self.now c.make_room.new.self c.make_room.new.self.trail.room c.in_err-make_room.field-0.0 c.make_room.ensures.same c.in_err-make_room.ensures.err)

pub ask-requires-clause-page : goal.ask-requires-clause-page
ask-requires-clause-page g c κs within = (asking.push_asks _ c.self.invariant.sound c.args.node c.args.page c.args.what c.requires.push (subst (λ (e : EngineSeen). IsNext e (event_asked c.args.what c.args.node c.args.page)) (sym (c.self.view_is ∙ c.make_room.ensures.same)) c.requires.next)).inside

pub ask-requires-clause-may : goal.ask-requires-clause-may
ask-requires-clause-may g c κs within = (asking.push_asks _ c.self.invariant.sound c.args.node c.args.page c.args.what c.requires.push (subst (λ (e : EngineSeen). IsNext e (event_asked c.args.what c.args.node c.args.page)) (sym (c.self.view_is ∙ c.make_room.ensures.same)) c.requires.next)).may

pub ask-requires-clause-frames : goal.ask-requires-clause-frames
ask-requires-clause-frames g c κs within = (asking.push_asks _ c.self.invariant.sound c.args.node c.args.page c.args.what c.requires.push (subst (λ (e : EngineSeen). IsNext e (event_asked c.args.what c.args.node c.args.page)) (sym (c.self.view_is ∙ c.make_room.ensures.same)) c.requires.next)).frames

pub invariant_of-self : goal.invariant_of-self
invariant_of-self g c = refusing.ground_engine c.args.caller _ _ (record { file = c.ask.ensures.same; left = c.in-Err.ensures.left; call = c.ask.ensures.call; pages = c.in-Err.ensures.pages }) _ c.in-Err.err c.refused.result c.refused.ensures c.in-Err.ensures.cause c.self.inside.book.sheet c.self.invariant

pub returns-in-Err-clause-refused : goal.returns-in-Err-clause-refused
returns-in-Err-clause-refused g c = rooms.refused_room c.args.self.now _ _ c.make_room.new.self.trail.room (c.self.view_is ∙ c.make_room.ensures.same) c.args.caller c.refused.result
    (refusing.ground_refused c.args.caller _ _ (record { file = c.ask.ensures.same; left = c.in-Err.ensures.left; call = c.ask.ensures.call; pages = c.in-Err.ensures.pages }) _ c.in-Err.err c.refused.result c.refused.ensures c.in-Err.ensures.cause c.self.invariant.sound (subst (λ (e : EngineSeen). place_of (log_in e) < MAX_EVENTS) (sym (c.self.view_is ∙ c.make_room.ensures.same)) c.in_ok-make_room.ensures.few) c.in-Err.ensures.calm)

pub enter-requires-clause-count : goal.enter-requires-clause-count
enter-requires-clause-count g c = rooms.counted _ c.self.inside.book.sheet c.self.invariant.sheet_is

pub enter-requires-clause-page_in : goal.enter-requires-clause-page_in
enter-requires-clause-page_in g c = pages.push_page (record { ground = g.G.Ground.seen c.self.inside.ground; tables = c.self.inside.tables; trail = c.self.inside.book.trail }) c.self.inside.book.sheet c.args.what c.args.node c.args.page c.requires.push c.self.invariant.sheet_is
    (asking.push_asks _ c.self.invariant.sound c.args.node c.args.page c.args.what c.requires.push (subst (λ (e : EngineSeen). IsNext e (event_asked c.args.what c.args.node c.args.page)) (sym (c.self.view_is ∙ c.make_room.ensures.same)) c.requires.next)).inside
    c.plain_entry-entry.result (c.plain_entry-entry.ensures ∙ ap (λ (x : Event). making.entry_of x None []) c.event_asked.ensures)

pub invariant_of-self-2 : goal.invariant_of-self-2
invariant_of-self-2 g c = sending.plain_engine _ _ (event_asked c.args.what c.args.node c.args.page) c.args.page (step_asked c.args.what c.args.node) c.self.invariant.sound (sending.push_plain c.args.what c.args.node c.args.page c.requires.push)
    (sending.message_of c.args.self.now _ _ c.make_room.new.self.trail.room (c.self.view_is ∙ c.make_room.ensures.same) _ c.plain_entry-entry.result (c.plain_entry-entry.ensures ∙ ap (λ (x : Event). making.entry_of x None []) c.event_asked.ensures) c.args.page _ c.ask.ensures.same c.ask.ensures.call c.in-Ok.ensures.calm c.in-Ok.ensures.sent c.in-Ok.ensures.follows c.in-Ok.ensures.ground c.enter.ensures.log (ap (λ (t : TrailSeen). t.page_size) c.enter.ensures.trail) c.in_ok-make_room.ensures.few c.requires.next (sending.push_plain c.args.what c.args.node c.args.page c.requires.push) (asking.push_step (tree_in c.args.self.now) (events_in c.args.self.now) c.args.what c.args.node c.args.page c.requires.push) (sending.push_brings c.args.what c.args.node c.requires.push))
    (sending.push_finds c.args.what c.args.node c.requires.push)
    c.self.inside.book.sheet c.enter.new.self.sheet c.self.invariant
    (making.booked _ c.tree.result.now c.self.inside.book.sheet c.enter.new.self.sheet
    c.plain_entry-entry.result (making.entry_of (event_asked c.args.what c.args.node c.args.page) None []) (c.plain_entry-entry.ensures ∙ ap (λ (x : Event). making.entry_of x None []) c.event_asked.ensures) c.tree.ensures.value c.enter.ensures.nodes c.enter.ensures.pages c.enter.ensures.state)

pub returns-clause-sends : goal.returns-clause-sends
returns-clause-sends g c = rooms.sends_room c.args.self.now _ _ c.make_room.new.self.trail.room (c.self.view_is ∙ c.make_room.ensures.same) (event_asked c.args.what c.args.node c.args.page) c.event_asked-2.result
    (sending.plain_sends _ _ (event_asked c.args.what c.args.node c.args.page) c.args.page (step_asked c.args.what c.args.node) c.self.invariant.sound (sending.push_plain c.args.what c.args.node c.args.page c.requires.push)
    (sending.message_of c.args.self.now _ _ c.make_room.new.self.trail.room (c.self.view_is ∙ c.make_room.ensures.same) _ c.plain_entry-entry.result (c.plain_entry-entry.ensures ∙ ap (λ (x : Event). making.entry_of x None []) c.event_asked.ensures) c.args.page _ c.ask.ensures.same c.ask.ensures.call c.in-Ok.ensures.calm c.in-Ok.ensures.sent c.in-Ok.ensures.follows c.in-Ok.ensures.ground c.enter.ensures.log (ap (λ (t : TrailSeen). t.page_size) c.enter.ensures.trail) c.in_ok-make_room.ensures.few c.requires.next (sending.push_plain c.args.what c.args.node c.args.page c.requires.push) (asking.push_step (tree_in c.args.self.now) (events_in c.args.self.now) c.args.what c.args.node c.args.page c.requires.push) (sending.push_brings c.args.what c.args.node c.requires.push)) c.event_asked-2.result c.event_asked-2.ensures (ap (λ (t : TrailSeen). t.spare) c.enter.ensures.trail)
    (λ needless. c.ask.ensures.idle (λ n. needless (needs.push_needs (record { ground = g.G.Ground.seen c.self.inside.ground; tables = c.self.inside.tables; trail = c.self.inside.book.trail }) c.args.node c.args.page c.args.what c.requires.push n)))
    (overs.push_over (record { ground = g.G.Ground.seen c.self.inside.ground; tables = c.self.inside.tables; trail = c.self.inside.book.trail }) (record { ground = g.G.Ground.seen c.ask.new.ground; tables = c.ask.new.self; trail = c.enter.new.self.trail }) c.self.invariant.sound c.args.node c.args.page c.args.what c.requires.push (subst (λ (e : EngineSeen). IsNext e (event_asked c.args.what c.args.node c.args.page)) (sym (c.self.view_is ∙ c.make_room.ensures.same)) c.requires.next) c.in-Ok.ensures.went c.in-Ok.ensures.carried))

pub returns-in-Err-clause-idle : goal.returns-in-Err-clause-idle
returns-in-Err-clause-idle g c = rooms.idle_room c.args.self.now _ c.args.self.now c.make_room.new.self.trail.room (c.self.view_is ∙ c.make_room.ensures.same) (event_asked c.args.what c.args.node c.args.page) (g.G.Ground.seen c.ask.new.ground)
    (λ needless. c.ask.ensures.idle (λ n. needless (needs.push_needs (record { ground = g.G.Ground.seen c.self.inside.ground; tables = c.self.inside.tables; trail = c.self.inside.book.trail }) c.args.node c.args.page c.args.what c.requires.push n)))

pub returns-clause-idle : goal.returns-clause-idle
returns-clause-idle g c = rooms.idle_room c.args.self.now _ c.args.self.now c.make_room.new.self.trail.room (c.self.view_is ∙ c.make_room.ensures.same) (event_asked c.args.what c.args.node c.args.page) (g.G.Ground.seen c.ask.new.ground)
    (λ needless. c.ask.ensures.idle (λ n. needless (needs.push_needs (record { ground = g.G.Ground.seen c.self.inside.ground; tables = c.self.inside.tables; trail = c.self.inside.book.trail }) c.args.node c.args.page c.args.what c.requires.push n)))
