use Rattle.std.proofs.Common.{◌<◌, ℕ, None, ap, subst, sym, ◌∙◌}
use Rattle.hist_plain.specs.declared.TheConstants.{MAX_EVENTS}
use Rattle.hist_plain.specs.declared.event.Event.{Event}
use Rattle.hist_plain.specs.declared.event.Event.TheVariants as events
use Rattle.tower_core.specs.Sheet.{pages_of, seen}
use Rattle.tower_core.specs.Trail.{IsAllowed, State}
use Rattle.tower_core.specs.TreeShape.{TreeShape}
use Rattle.tower_log.specs.Log.{place_of}
use Rattle.tower_log.specs.Trail.{TrailSeen}
use Rattle.stack_engine.specs.declared.refusal.StepErr.TheVariants as errors
use Rattle.stack_engine.specs.Engine.{EngineSeen, IsNext, log_in}
use Rattle.stack_engine.specs.Messages.{event_granted, kept_size}
use Rattle.stack_engine.proofs.Asking as asking
use Rattle.stack_engine.proofs.Making as making
use Rattle.stack_engine.proofs.Needs as needs
use Rattle.stack_engine.proofs.Overs as overs
use Rattle.page_exchange.proofs.Copies as copies
use Rattle.stack_engine.proofs.Planning as planning
use Rattle.stack_engine.proofs.Refusing as refusing
use Rattle.stack_engine.proofs.Rooms as rooms
use Rattle.stack_engine.proofs.Sending as sending
use Rattle.page_messages.specs.declared.paged.PagedFile.{PagedFile}
use Rattle.stack_engine.proofs.Granting as granting
use Rattle.stack_engine.proofs.engine.Engine.grant.Goals as goal

pub returns-in_err-make_room-clause-refused : goal.returns-in_err-make_room-clause-refused
returns-in_err-make_room-clause-refused g c = rooms.if_err c.from_residual.result c.in_err-make_room.field-0.0 _ c.from_residual.ensures.1
    (rooms.full_refused c.args.caller c.args.self.now c.make_room.new.self c.make_room.new.self.trail.room c.in_err-make_room.field-0.0 c.make_room.ensures.same c.in_err-make_room.ensures.err)

pub returns-in_err-room-clause-refused : goal.returns-in_err-room-clause-refused
returns-in_err-room-clause-refused g c = rooms.if_err c.from_residual-in_err-room.result errors.Memory _ c.from_residual-in_err-room.ensures.1
    (rooms.full_refused c.args.caller c.args.self.now c.make_room.new.self c.make_room.new.self.trail.room errors.Memory c.make_room.ensures.same c.in_ok-make_room.ensures.few)

pub ask-requires-clause-may : goal.ask-requires-clause-may
ask-requires-clause-may g c κs within = asking.asks_may _ c.args.node c.args.page c.args.write c.grant_asked.result c.grant_asked.ensures (asking.grant_asks _ c.self.invariant.sound c.args.node c.args.page c.args.write (subst (λ (e : EngineSeen). IsNext e (events.PageIn c.args.node c.args.page c.args.write)) (sym (c.self.view_is ∙ c.make_room.ensures.same)) c.requires.next))

pub ask-requires-clause-frames : goal.ask-requires-clause-frames
ask-requires-clause-frames g c κs within = asking.asks_frames _ c.args.node c.args.page c.args.write c.grant_asked.result c.grant_asked.ensures (asking.grant_asks _ c.self.invariant.sound c.args.node c.args.page c.args.write (subst (λ (e : EngineSeen). IsNext e (events.PageIn c.args.node c.args.page c.args.write)) (sym (c.self.view_is ∙ c.make_room.ensures.same)) c.requires.next))

pub invariant_of-self : goal.invariant_of-self
invariant_of-self g c = refusing.ground_engine c.args.caller _ _ (record { file = c.ask.ensures.same; left = c.in-Err.ensures.left; call = c.ask.ensures.call; pages = c.in-Err.ensures.pages }) _ c.in-Err.err c.refused.result c.refused.ensures c.in-Err.ensures.cause c.self.inside.book.sheet c.self.invariant

pub returns-in-Err-clause-refused : goal.returns-in-Err-clause-refused
returns-in-Err-clause-refused g c = rooms.refused_room c.args.self.now _ _ c.make_room.new.self.trail.room (c.self.view_is ∙ c.make_room.ensures.same) c.args.caller c.refused.result
    (refusing.ground_refused c.args.caller _ _ (record { file = c.ask.ensures.same; left = c.in-Err.ensures.left; call = c.ask.ensures.call; pages = c.in-Err.ensures.pages }) _ c.in-Err.err c.refused.result c.refused.ensures c.in-Err.ensures.cause c.self.invariant.sound (subst (λ (e : EngineSeen). place_of (log_in e) < MAX_EVENTS) (sym (c.self.view_is ∙ c.make_room.ensures.same)) c.in_ok-make_room.ensures.few) c.in-Err.ensures.calm)

pub finds_zeros-zeros-requires-clause-page : goal.finds_zeros-zeros-requires-clause-page
finds_zeros-zeros-requires-clause-page g c = subst (λ (f : PagedFile). c.args.page < f.pages) (sym c.ask.ensures.same.file) (asking.grant_asks _ c.self.invariant.sound c.args.node c.args.page c.args.write (subst (λ (e : EngineSeen). IsNext e (events.PageIn c.args.node c.args.page c.args.write)) (sym (c.self.view_is ∙ c.make_room.ensures.same)) c.requires.next)).inside

pub finds_zeros-zeros-requires-clause-may : goal.finds_zeros-zeros-requires-clause-may
finds_zeros-zeros-requires-clause-may g c = granting.grant_reads _ c.self.invariant.sound c.args.node c.args.page c.args.write (subst (λ (e : EngineSeen). IsNext e (events.PageIn c.args.node c.args.page c.args.write)) (sym (c.self.view_is ∙ c.make_room.ensures.same)) c.requires.next) _ _ _ c.grant_asked.ensures c.in-Ok.ensures.sent

pub keep_page-bytes-requires-clause-may : goal.keep_page-bytes-requires-clause-may
keep_page-bytes-requires-clause-may g c = granting.grant_reads _ c.self.invariant.sound c.args.node c.args.page c.args.write (subst (λ (e : EngineSeen). IsNext e (events.PageIn c.args.node c.args.page c.args.write)) (sym (c.self.view_is ∙ c.make_room.ensures.same)) c.requires.next) _ _ _ c.grant_asked.ensures c.in-Ok.ensures.sent

pub enter-requires-clause-count : goal.enter-requires-clause-count
enter-requires-clause-count g c = rooms.counted _ c.self.inside.book.sheet c.self.invariant.sheet_is

pub enter-requires-clause-allowed : goal.enter-requires-clause-allowed
enter-requires-clause-allowed g c =
    let mid : EngineSeen = record { ground = g.G.Ground.seen c.self.inside.ground; tables = c.self.inside.tables; trail = c.self.inside.book.trail } in
    subst (λ (x : Event). IsAllowed c.tree.result.now (pages_of c.self.inside.book.sheet) (seen c.self.inside.book.sheet) x) (sym c.event_granted.ensures)
    (planning.sheet_told mid c.self.inside.book.sheet c.tree.result.now (λ (t : TreeShape) (n : ℕ) (s : State). IsAllowed t n s (event_granted c.finds_zeros-zeros.result c.args.node c.args.page c.args.write)) (c.tree.ensures.value ∙ c.ask.ensures.same.tree) c.self.invariant.sheet_is
    (sending.grant_next mid c.finds_zeros-zeros.result c.args.node c.args.page c.args.write (subst (λ (e : EngineSeen). IsNext e (events.PageIn c.args.node c.args.page c.args.write)) (sym (c.self.view_is ∙ c.make_room.ensures.same)) c.requires.next)
    (λ z. ((granting.found_zeros mid c.self.invariant.sound c.args.node c.args.page c.args.write (subst (λ (e : EngineSeen). IsNext e (events.PageIn c.args.node c.args.page c.args.write)) (sym (c.self.view_is ∙ c.make_room.ensures.same)) c.requires.next) (record { ground = g.G.Ground.seen c.ask.new.ground; tables = c.ask.new.self; trail = c.self.inside.book.trail }) _ c.ask.ensures.same.file c.right-had.result c.right-had.ensures c.finds_zeros-zeros.result c.finds_zeros-zeros.ensures) z).nothing)).allowed)

pub invariant_of-self-2 : goal.invariant_of-self-2
invariant_of-self-2 g c = sending.grant_engine _ _ c.self.invariant.sound c.args.node c.args.page c.args.write c.finds_zeros-zeros.result (subst (λ (e : EngineSeen). IsNext e (events.PageIn c.args.node c.args.page c.args.write)) (sym (c.self.view_is ∙ c.make_room.ensures.same)) c.requires.next) c.keep_page-bytes.result
    (granting.granted_message c.args.self.now _ _ c.make_room.new.self.trail.room (c.self.view_is ∙ c.make_room.ensures.same) c.args.node c.args.page c.args.write c.finds_zeros-zeros.result c.grant_asked.result c.grant_asked.ensures c.event_granted.result c.event_granted.ensures c.keep_page-bytes.result
    c.ask.ensures.same c.ask.ensures.call c.in-Ok.ensures.calm c.in-Ok.ensures.sent c.in-Ok.ensures.follows c.in-Ok.ensures.ground c.enter.ensures.log (ap (λ (t : TrailSeen). t.page_size) c.enter.ensures.trail) c.in_ok-make_room.ensures.few (subst (λ (e : EngineSeen). IsNext e (events.PageIn c.args.node c.args.page c.args.write)) (sym (c.self.view_is ∙ c.make_room.ensures.same)) c.requires.next)
    (λ z. ((granting.found_zeros _ c.self.invariant.sound c.args.node c.args.page c.args.write (subst (λ (e : EngineSeen). IsNext e (events.PageIn c.args.node c.args.page c.args.write)) (sym (c.self.view_is ∙ c.make_room.ensures.same)) c.requires.next) (record { ground = g.G.Ground.seen c.ask.new.ground; tables = c.ask.new.self; trail = c.enter.new.self.trail }) _ c.ask.ensures.same.file c.right-had.result c.right-had.ensures c.finds_zeros-zeros.result c.finds_zeros-zeros.ensures) z).nothing))
    (granting.found_zeros _ c.self.invariant.sound c.args.node c.args.page c.args.write (subst (λ (e : EngineSeen). IsNext e (events.PageIn c.args.node c.args.page c.args.write)) (sym (c.self.view_is ∙ c.make_room.ensures.same)) c.requires.next) (record { ground = g.G.Ground.seen c.ask.new.ground; tables = c.ask.new.self; trail = c.enter.new.self.trail }) _ c.ask.ensures.same.file c.right-had.result c.right-had.ensures c.finds_zeros-zeros.result c.finds_zeros-zeros.ensures) (granting.found_others _ c.self.invariant.sound c.args.node c.args.page c.args.write (subst (λ (e : EngineSeen). IsNext e (events.PageIn c.args.node c.args.page c.args.write)) (sym (c.self.view_is ∙ c.make_room.ensures.same)) c.requires.next) (record { ground = g.G.Ground.seen c.ask.new.ground; tables = c.ask.new.self; trail = c.enter.new.self.trail }) _ c.ask.ensures.same.file c.right-had.result c.right-had.ensures c.finds_zeros-zeros.result c.finds_zeros-zeros.ensures) (granting.kept_are _ c.self.invariant.sound c.args.node c.args.page c.args.write (subst (λ (e : EngineSeen). IsNext e (events.PageIn c.args.node c.args.page c.args.write)) (sym (c.self.view_is ∙ c.make_room.ensures.same)) c.requires.next) (record { ground = g.G.Ground.seen c.ask.new.ground; tables = c.ask.new.self; trail = c.enter.new.self.trail }) _ c.in_ok-room.room.items c.keep_page-bytes.result (ap (λ (f : PagedFile). f.page_size) c.ask.ensures.same.file) (c.in_ok-room.ensures ∙ ap (λ (e : EngineSeen). kept_size e c.args.node c.args.page) (sym c.self.view_is)) c.keep_page-bytes.ensures.none c.keep_page-bytes.ensures.kept)
    (granting.kept_whole _ c.self.invariant.sound c.args.node c.args.page c.args.write (subst (λ (e : EngineSeen). IsNext e (events.PageIn c.args.node c.args.page c.args.write)) (sym (c.self.view_is ∙ c.make_room.ensures.same)) c.requires.next) _ c.in_ok-room.room.items c.keep_page-bytes.result (ap (λ (f : PagedFile). f.page_size) c.ask.ensures.same.file) (c.in_ok-room.ensures ∙ ap (λ (e : EngineSeen). kept_size e c.args.node c.args.page) (sym c.self.view_is)) c.keep_page-bytes.ensures.whole)
    c.self.inside.book.sheet c.enter.new.self.sheet c.self.invariant
    (making.booked _ c.tree.result.now c.self.inside.book.sheet c.enter.new.self.sheet
    (making.entry_of c.event_granted.result None c.keep_page-bytes.result) (making.entry_of (event_granted c.finds_zeros-zeros.result c.args.node c.args.page c.args.write) None c.keep_page-bytes.result) (ap (λ (x : Event). making.entry_of x None c.keep_page-bytes.result) c.event_granted.ensures) c.tree.ensures.value c.enter.ensures.nodes c.enter.ensures.pages c.enter.ensures.state)

pub returns-clause-sends : goal.returns-clause-sends
returns-clause-sends g c = rooms.sends_room c.args.self.now _ _ c.make_room.new.self.trail.room (c.self.view_is ∙ c.make_room.ensures.same) (events.PageIn c.args.node c.args.page c.args.write) c.event_granted-2.result
    (sending.grant_sends _ _ c.self.invariant.sound c.args.node c.args.page c.args.write c.finds_zeros-zeros.result (subst (λ (e : EngineSeen). IsNext e (events.PageIn c.args.node c.args.page c.args.write)) (sym (c.self.view_is ∙ c.make_room.ensures.same)) c.requires.next) c.keep_page-bytes.result
    (granting.granted_message c.args.self.now _ _ c.make_room.new.self.trail.room (c.self.view_is ∙ c.make_room.ensures.same) c.args.node c.args.page c.args.write c.finds_zeros-zeros.result c.grant_asked.result c.grant_asked.ensures c.event_granted.result c.event_granted.ensures c.keep_page-bytes.result
    c.ask.ensures.same c.ask.ensures.call c.in-Ok.ensures.calm c.in-Ok.ensures.sent c.in-Ok.ensures.follows c.in-Ok.ensures.ground c.enter.ensures.log (ap (λ (t : TrailSeen). t.page_size) c.enter.ensures.trail) c.in_ok-make_room.ensures.few (subst (λ (e : EngineSeen). IsNext e (events.PageIn c.args.node c.args.page c.args.write)) (sym (c.self.view_is ∙ c.make_room.ensures.same)) c.requires.next)
    (λ z. ((granting.found_zeros _ c.self.invariant.sound c.args.node c.args.page c.args.write (subst (λ (e : EngineSeen). IsNext e (events.PageIn c.args.node c.args.page c.args.write)) (sym (c.self.view_is ∙ c.make_room.ensures.same)) c.requires.next) (record { ground = g.G.Ground.seen c.ask.new.ground; tables = c.ask.new.self; trail = c.enter.new.self.trail }) _ c.ask.ensures.same.file c.right-had.result c.right-had.ensures c.finds_zeros-zeros.result c.finds_zeros-zeros.ensures) z).nothing))
    (granting.found_zeros _ c.self.invariant.sound c.args.node c.args.page c.args.write (subst (λ (e : EngineSeen). IsNext e (events.PageIn c.args.node c.args.page c.args.write)) (sym (c.self.view_is ∙ c.make_room.ensures.same)) c.requires.next) (record { ground = g.G.Ground.seen c.ask.new.ground; tables = c.ask.new.self; trail = c.enter.new.self.trail }) _ c.ask.ensures.same.file c.right-had.result c.right-had.ensures c.finds_zeros-zeros.result c.finds_zeros-zeros.ensures) (granting.found_others _ c.self.invariant.sound c.args.node c.args.page c.args.write (subst (λ (e : EngineSeen). IsNext e (events.PageIn c.args.node c.args.page c.args.write)) (sym (c.self.view_is ∙ c.make_room.ensures.same)) c.requires.next) (record { ground = g.G.Ground.seen c.ask.new.ground; tables = c.ask.new.self; trail = c.enter.new.self.trail }) _ c.ask.ensures.same.file c.right-had.result c.right-had.ensures c.finds_zeros-zeros.result c.finds_zeros-zeros.ensures) (granting.kept_are _ c.self.invariant.sound c.args.node c.args.page c.args.write (subst (λ (e : EngineSeen). IsNext e (events.PageIn c.args.node c.args.page c.args.write)) (sym (c.self.view_is ∙ c.make_room.ensures.same)) c.requires.next) (record { ground = g.G.Ground.seen c.ask.new.ground; tables = c.ask.new.self; trail = c.enter.new.self.trail }) _ c.in_ok-room.room.items c.keep_page-bytes.result (ap (λ (f : PagedFile). f.page_size) c.ask.ensures.same.file) (c.in_ok-room.ensures ∙ ap (λ (e : EngineSeen). kept_size e c.args.node c.args.page) (sym c.self.view_is)) c.keep_page-bytes.ensures.none c.keep_page-bytes.ensures.kept) c.event_granted-2.result c.event_granted-2.ensures (ap (λ (t : TrailSeen). t.spare) c.enter.ensures.trail)
    (λ needless. c.ask.ensures.idle (λ n. needless (needs.grant_needs (record { ground = g.G.Ground.seen c.self.inside.ground; tables = c.self.inside.tables; trail = c.self.inside.book.trail }) c.args.node c.args.page c.args.write c.grant_asked.result c.grant_asked.ensures n)))
    (overs.grant_over (record { ground = g.G.Ground.seen c.self.inside.ground; tables = c.self.inside.tables; trail = c.self.inside.book.trail }) (record { ground = g.G.Ground.seen c.ask.new.ground; tables = c.ask.new.self; trail = c.enter.new.self.trail }) c.self.invariant.sound c.args.node c.args.page c.args.write (subst (λ (e : EngineSeen). IsNext e (events.PageIn c.args.node c.args.page c.args.write)) (sym (c.self.view_is ∙ c.make_room.ensures.same)) c.requires.next) c.grant_asked.result c.grant_asked.ensures c.in-Ok.ensures.went c.in-Ok.ensures.carried
    (copies.copy_long c.ask.new.self.tree c.ask.new.self.file c.ask.new.self.nodes.items c.ask.new.self.tables c.args.page c.args.node (granting.grant_reads _ c.self.invariant.sound c.args.node c.args.page c.args.write (subst (λ (e : EngineSeen). IsNext e (events.PageIn c.args.node c.args.page c.args.write)) (sym (c.self.view_is ∙ c.make_room.ensures.same)) c.requires.next) _ _ _ c.grant_asked.ensures c.in-Ok.ensures.sent).right ∙ ap (λ (f : PagedFile). f.page_size) c.ask.ensures.same.file)
    c.finds_zeros-zeros.result (granting.found_zeros _ c.self.invariant.sound c.args.node c.args.page c.args.write (subst (λ (e : EngineSeen). IsNext e (events.PageIn c.args.node c.args.page c.args.write)) (sym (c.self.view_is ∙ c.make_room.ensures.same)) c.requires.next) (record { ground = g.G.Ground.seen c.ask.new.ground; tables = c.ask.new.self; trail = c.enter.new.self.trail }) _ c.ask.ensures.same.file c.right-had.result c.right-had.ensures c.finds_zeros-zeros.result c.finds_zeros-zeros.ensures) (granting.found_others _ c.self.invariant.sound c.args.node c.args.page c.args.write (subst (λ (e : EngineSeen). IsNext e (events.PageIn c.args.node c.args.page c.args.write)) (sym (c.self.view_is ∙ c.make_room.ensures.same)) c.requires.next) (record { ground = g.G.Ground.seen c.ask.new.ground; tables = c.ask.new.self; trail = c.enter.new.self.trail }) _ c.ask.ensures.same.file c.right-had.result c.right-had.ensures c.finds_zeros-zeros.result c.finds_zeros-zeros.ensures)))

pub returns-in-Err-clause-idle : goal.returns-in-Err-clause-idle
returns-in-Err-clause-idle g c = rooms.idle_room c.args.self.now _ c.args.self.now c.make_room.new.self.trail.room (c.self.view_is ∙ c.make_room.ensures.same) (events.PageIn c.args.node c.args.page c.args.write) (g.G.Ground.seen c.ask.new.ground)
    (λ needless. c.ask.ensures.idle (λ n. needless (needs.grant_needs (record { ground = g.G.Ground.seen c.self.inside.ground; tables = c.self.inside.tables; trail = c.self.inside.book.trail }) c.args.node c.args.page c.args.write c.grant_asked.result c.grant_asked.ensures n)))

pub returns-clause-idle : goal.returns-clause-idle
returns-clause-idle g c = rooms.idle_room c.args.self.now _ c.args.self.now c.make_room.new.self.trail.room (c.self.view_is ∙ c.make_room.ensures.same) (events.PageIn c.args.node c.args.page c.args.write) (g.G.Ground.seen c.ask.new.ground)
    (λ needless. c.ask.ensures.idle (λ n. needless (needs.grant_needs (record { ground = g.G.Ground.seen c.self.inside.ground; tables = c.self.inside.tables; trail = c.self.inside.book.trail }) c.args.node c.args.page c.args.write c.grant_asked.result c.grant_asked.ensures n)))
