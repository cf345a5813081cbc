use Rattle.std.proofs.Common.{[], None, ap, subst, sym, ◌∙◌}
use Rattle.hist_plain.specs.declared.event.Event.{Event}
use Rattle.page_exchange.specs.Steps.{step_called}
use Rattle.tower_log.specs.Trail.{TrailSeen}
use Rattle.stack_engine.specs.Engine.{EngineSeen, IsNext, events_in, tree_in}
use Rattle.stack_engine.specs.Messages.{event_called}
use Rattle.stack_engine.specs.Moves.{IsRefused}
use Rattle.stack_engine.proofs.Asking as asking
use Rattle.stack_engine.proofs.Making as making
use Rattle.stack_engine.proofs.Needs as needs
use Rattle.stack_engine.proofs.Overs as overs
use Rattle.stack_engine.proofs.Refusing as refusing
use Rattle.stack_engine.proofs.Rooms as rooms
use Rattle.stack_engine.proofs.Sending as sending
use Rattle.stack_engine.proofs.engine.Engine.order.Goals as goal

pub returns-in_err-make_room-clause-refused : goal.returns-in_err-make_room-clause-refused
returns-in_err-make_room-clause-refused g c = rooms.if_err c.from_residual.result c.in_err-make_room.field-0.0 _ c.from_residual.ensures.1
    (rooms.full_refused c.args.caller c.args.self.now c.make_room.new.self c.make_room.new.self.trail.room c.in_err-make_room.field-0.0 c.make_room.ensures.same c.in_err-make_room.ensures.err)

pub order-requires-clause-page : goal.order-requires-clause-page
order-requires-clause-page g c κs within = (asking.order_calls _ c.self.invariant.sound c.args.node c.args.page c.args.what c.requires.about_page (subst (λ (e : EngineSeen). IsNext e (event_called c.args.what c.args.node c.args.page)) (sym (c.self.view_is ∙ c.make_room.ensures.same)) c.requires.next)).inside

pub invariant_of-self : goal.invariant_of-self
invariant_of-self g c = refusing.noted_engine c.args.caller c.in-Err.fault.disk c.in-Err.fault.count _ _ (record { file = c.order.ensures.same; left = c.in-Err.ensures.left; call = c.order.ensures.call; pages = c.in-Err.ensures.pages }) c.noted.ensures.noted (ap (λ (t : TrailSeen). t.page_size) c.noted.ensures.same) c.in-Err.ensures.fault c.self.inside.book.sheet c.self.invariant

pub returns-in-Err-clause-refused : goal.returns-in-Err-clause-refused
returns-in-Err-clause-refused g c = subst (IsRefused c.args.caller c.args.self.now _) (sym c.noted.ensures.fault)
    (rooms.refused_room c.args.self.now _ _ c.make_room.new.self.trail.room (c.self.view_is ∙ c.make_room.ensures.same) c.args.caller _ (refusing.noted_refused c.args.caller c.in-Err.fault.disk c.in-Err.fault.count _ _ (record { file = c.order.ensures.same; left = c.in-Err.ensures.left; call = c.order.ensures.call; pages = c.in-Err.ensures.pages }) c.noted.ensures.noted (ap (λ (t : TrailSeen). t.page_size) c.noted.ensures.same) c.in-Err.ensures.fault c.self.invariant.sound (ap (λ (t : TrailSeen). t.spare) c.noted.ensures.same)))

pub enter-requires-clause-count : goal.enter-requires-clause-count
enter-requires-clause-count g c = rooms.counted _ c.self.inside.book.sheet c.self.invariant.sheet_is

pub invariant_of-self-2 : goal.invariant_of-self-2
invariant_of-self-2 g c = sending.plain_engine _ _ (event_called c.args.what c.args.node c.args.page) c.args.page (step_called c.args.what c.args.node) c.self.invariant.sound (sending.order_plain c.args.what c.args.node c.args.page c.requires.about_page)
    (sending.message_of c.args.self.now _ _ c.make_room.new.self.trail.room (c.self.view_is ∙ c.make_room.ensures.same) _ c.plain_entry-entry.result (c.plain_entry-entry.ensures ∙ ap (λ (x : Event). making.entry_of x None []) c.event_called.ensures) c.args.page _ c.order.ensures.same c.order.ensures.call c.in-Ok.ensures.calm c.in-Ok.ensures.sent c.in-Ok.ensures.follows c.in-Ok.ensures.ground c.enter.ensures.log (ap (λ (t : TrailSeen). t.page_size) c.enter.ensures.trail) c.in_ok-make_room.ensures.few c.requires.next (sending.order_plain c.args.what c.args.node c.args.page c.requires.about_page) (asking.order_step (tree_in c.args.self.now) (events_in c.args.self.now) c.args.what c.args.node c.args.page c.requires.about_page) (sending.order_brings c.args.what c.args.node))
    (sending.order_finds c.args.what c.args.node)
    c.self.inside.book.sheet c.enter.new.self.sheet c.self.invariant
    (making.booked _ c.tree.result.now c.self.inside.book.sheet c.enter.new.self.sheet
    c.plain_entry-entry.result (making.entry_of (event_called c.args.what c.args.node c.args.page) None []) (c.plain_entry-entry.ensures ∙ ap (λ (x : Event). making.entry_of x None []) c.event_called.ensures) c.tree.ensures.value c.enter.ensures.nodes c.enter.ensures.pages c.enter.ensures.state)

pub returns-clause-sends : goal.returns-clause-sends
returns-clause-sends g c = rooms.sends_room c.args.self.now _ _ c.make_room.new.self.trail.room (c.self.view_is ∙ c.make_room.ensures.same) (event_called c.args.what c.args.node c.args.page) c.event_called-2.result
    (sending.plain_sends _ _ (event_called c.args.what c.args.node c.args.page) c.args.page (step_called c.args.what c.args.node) c.self.invariant.sound (sending.order_plain c.args.what c.args.node c.args.page c.requires.about_page)
    (sending.message_of c.args.self.now _ _ c.make_room.new.self.trail.room (c.self.view_is ∙ c.make_room.ensures.same) _ c.plain_entry-entry.result (c.plain_entry-entry.ensures ∙ ap (λ (x : Event). making.entry_of x None []) c.event_called.ensures) c.args.page _ c.order.ensures.same c.order.ensures.call c.in-Ok.ensures.calm c.in-Ok.ensures.sent c.in-Ok.ensures.follows c.in-Ok.ensures.ground c.enter.ensures.log (ap (λ (t : TrailSeen). t.page_size) c.enter.ensures.trail) c.in_ok-make_room.ensures.few c.requires.next (sending.order_plain c.args.what c.args.node c.args.page c.requires.about_page) (asking.order_step (tree_in c.args.self.now) (events_in c.args.self.now) c.args.what c.args.node c.args.page c.requires.about_page) (sending.order_brings c.args.what c.args.node)) c.event_called-2.result c.event_called-2.ensures (ap (λ (t : TrailSeen). t.spare) c.enter.ensures.trail)
    (λ needless. c.order.ensures.idle (λ n. needless (needs.order_needs (record { ground = g.G.Ground.seen c.self.inside.ground; tables = c.self.inside.tables; trail = c.self.inside.book.trail }) c.args.node c.args.page c.args.what c.requires.about_page n)))
    (overs.order_over (record { ground = g.G.Ground.seen c.self.inside.ground; tables = c.self.inside.tables; trail = c.self.inside.book.trail }) (record { ground = g.G.Ground.seen c.order.new.ground; tables = c.order.new.self; trail = c.enter.new.self.trail }) c.self.invariant.sound c.args.node c.args.page c.args.what c.requires.about_page (subst (λ (e : EngineSeen). IsNext e (event_called c.args.what c.args.node c.args.page)) (sym (c.self.view_is ∙ c.make_room.ensures.same)) c.requires.next) c.in-Ok.ensures.went c.in-Ok.ensures.carried))

pub returns-in-Err-clause-idle : goal.returns-in-Err-clause-idle
returns-in-Err-clause-idle g c = rooms.idle_room c.args.self.now _ c.args.self.now c.make_room.new.self.trail.room (c.self.view_is ∙ c.make_room.ensures.same) (event_called c.args.what c.args.node c.args.page) (g.G.Ground.seen c.order.new.ground)
    (λ needless. c.order.ensures.idle (λ n. needless (needs.order_needs (record { ground = g.G.Ground.seen c.self.inside.ground; tables = c.self.inside.tables; trail = c.self.inside.book.trail }) c.args.node c.args.page c.args.what c.requires.about_page n)))

pub returns-clause-idle : goal.returns-clause-idle
returns-clause-idle g c = rooms.idle_room c.args.self.now _ c.args.self.now c.make_room.new.self.trail.room (c.self.view_is ∙ c.make_room.ensures.same) (event_called c.args.what c.args.node c.args.page) (g.G.Ground.seen c.order.new.ground)
    (λ needless. c.order.ensures.idle (λ n. needless (needs.order_needs (record { ground = g.G.Ground.seen c.self.inside.ground; tables = c.self.inside.tables; trail = c.self.inside.book.trail }) c.args.node c.args.page c.args.what c.requires.about_page n)))
