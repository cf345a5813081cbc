use Rattle.std.proofs.Common.{◌<◌, Some, None, inl, ap, refl, subst, sym, ◌∙◌}
use Rattle.hist_plain.specs.declared.TheConstants.{MAX_EVENTS}
use Rattle.hist_plain.specs.declared.event.Answer.TheVariants as answers
use Rattle.page_ground.specs.Seen.{Seen}
use Rattle.tower_core.specs.declared.step.Step.TheVariants.{Untouched}
use Rattle.tower_log.specs.Log.{place_of}
use Rattle.tower_log.specs.Trail.{TrailSeen}
use Rattle.stack_engine.specs.Ended.{event_ended}
use Rattle.stack_engine.specs.Engine.{EngineSeen, IsNext, log_in}
use Rattle.stack_engine.proofs.Endings as ending
use Rattle.stack_engine.proofs.Making as making
use Rattle.stack_engine.proofs.Refusing as refusing
use Rattle.stack_engine.proofs.Rooms as rooms
use Rattle.stack_engine.proofs.engine.Engine.end.Goals as goal

pub returns-in_err-make_room-clause-refused : goal.returns-in_err-make_room-clause-refused
returns-in_err-make_room-clause-refused g c = rooms.if_err c.from_residual.result c.in_err-make_room.field-0.0 _ c.from_residual.ensures.1
    (rooms.full_refused c.args.caller c.args.self.now c.make_room.new.self c.make_room.new.self.trail.room c.in_err-make_room.field-0.0 c.make_room.ensures.same c.in_err-make_room.ensures.err)

pub enter-requires-clause-count : goal.enter-requires-clause-count
enter-requires-clause-count g c = rooms.counted _ c.self.inside.book.sheet c.self.invariant.sheet_is

pub send_end-requires-clause-may : goal.send_end-requires-clause-may
send_end-requires-clause-may g c κs within = let n = (ending.next_drained (record { ground = g.G.Ground.seen c.self.inside.ground; tables = c.self.inside.tables; trail = c.self.inside.book.trail }) c.args.end c.args.caller c.args.number c.args.node (subst (λ (e : EngineSeen). IsNext e (event_ended c.args.end c.args.caller c.args.number c.args.node)) (sym (c.self.view_is ∙ c.make_room.ensures.same)) c.requires.next)) in ending.end_allowed _ c.self.invariant.sound c.args.node n.0 n.1

pub send_end-requires-clause-unused : goal.send_end-requires-clause-unused
send_end-requires-clause-unused g c κs within = let n = (ending.next_drained (record { ground = g.G.Ground.seen c.self.inside.ground; tables = c.self.inside.tables; trail = c.self.inside.book.trail }) c.args.end c.args.caller c.args.number c.args.node (subst (λ (e : EngineSeen). IsNext e (event_ended c.args.end c.args.caller c.args.number c.args.node)) (sym (c.self.view_is ∙ c.make_room.ensures.same)) c.requires.next)) in ending.end_unused _ c.self.invariant.sound c.args.node n.0 n.1

pub send_end-requires-clause-upper : goal.send_end-requires-clause-upper
send_end-requires-clause-upper g c κs within = let n = (ending.next_drained (record { ground = g.G.Ground.seen c.self.inside.ground; tables = c.self.inside.tables; trail = c.self.inside.book.trail }) c.args.end c.args.caller c.args.number c.args.node (subst (λ (e : EngineSeen). IsNext e (event_ended c.args.end c.args.caller c.args.number c.args.node)) (sym (c.self.view_is ∙ c.make_room.ensures.same)) c.requires.next)) in n.0

pub invariant_of-self : goal.invariant_of-self
invariant_of-self g c = refusing.lacking_engine c.args.caller _ _ (record { file = c.send_end.ensures.same; left = c.send_end.ensures.left; call = inl c.send_end.ensures.ground; pages = ap (λ (s : Seen). s.pages) c.send_end.ensures.ground }) refl c.self.inside.book.sheet c.self.invariant

pub returns-in_err-send_end-clause-refused : goal.returns-in_err-send_end-clause-refused
returns-in_err-send_end-clause-refused g c = rooms.if_err c.from_residual-in_err-send_end.result _ _ c.from_residual-in_err-send_end.ensures.1
    (rooms.refused_room c.args.self.now _ _ c.make_room.new.self.trail.room (c.self.view_is ∙ c.make_room.ensures.same) c.args.caller _
    (refusing.lacking_refused c.args.caller _ _ (record { file = c.send_end.ensures.same; left = c.send_end.ensures.left; call = inl c.send_end.ensures.ground; pages = ap (λ (s : Seen). s.pages) c.send_end.ensures.ground }) refl c.self.invariant.sound (subst (λ (e : EngineSeen). place_of (log_in e) < MAX_EVENTS) (sym (c.self.view_is ∙ c.make_room.ensures.same)) c.in_ok-make_room.ensures.few) (inl c.send_end.ensures.ground)))

pub invariant_of-self-2 : goal.invariant_of-self-2
invariant_of-self-2 g c = making.made_engine _ _ (ending.entry_ended c.args.end c.args.caller c.args.number c.args.node) c.args.caller 0 Untouched None c.self.invariant.sound
    (ending.ended_made c.args.self.now _ _ c.make_room.new.self.trail.room (c.self.view_is ∙ c.make_room.ensures.same) c.args.end c.args.caller c.args.number c.args.node (making.entry_of c.event.result (Some answers.Done) c.from_vec.result) (making.entry_is _ _ _ _ _ c.event.ensures (c.from_vec.ensures ∙ c.new.ensures.items))
    c.send_end.ensures.same c.send_end.ensures.left c.send_end.ensures.ground c.enter.ensures.log (ap (λ (t : TrailSeen). t.page_size) c.enter.ensures.trail) c.in_ok-make_room.ensures.few c.requires.next c.requires.number)
    (ending.ended_tells _ c.args.end c.args.caller c.args.number c.args.node)
    c.self.inside.book.sheet c.enter.new.self.sheet c.self.invariant
    (making.booked _ c.tree.result.now c.self.inside.book.sheet c.enter.new.self.sheet
    (making.entry_of c.event.result (Some answers.Done) c.from_vec.result) (ending.entry_ended c.args.end c.args.caller c.args.number c.args.node) (making.entry_is _ _ _ _ _ c.event.ensures (c.from_vec.ensures ∙ c.new.ensures.items)) c.tree.ensures.value c.enter.ensures.nodes c.enter.ensures.pages c.enter.ensures.state)

pub returns-clause-ended : goal.returns-clause-ended
returns-clause-ended g c = ending.ended_is c.args.self.now _ _ c.make_room.new.self.trail.room (c.self.view_is ∙ c.make_room.ensures.same) c.args.end c.args.caller c.args.number c.args.node c.self.invariant.sound
    (ending.ended_made c.args.self.now _ _ c.make_room.new.self.trail.room (c.self.view_is ∙ c.make_room.ensures.same) c.args.end c.args.caller c.args.number c.args.node (making.entry_of c.event.result (Some answers.Done) c.from_vec.result) (making.entry_is _ _ _ _ _ c.event.ensures (c.from_vec.ensures ∙ c.new.ensures.items))
    c.send_end.ensures.same c.send_end.ensures.left c.send_end.ensures.ground c.enter.ensures.log (ap (λ (t : TrailSeen). t.page_size) c.enter.ensures.trail) c.in_ok-make_room.ensures.few c.requires.next c.requires.number) c.send_end.ensures.ground c.in_ok-send_end.ensures.went c.in_ok-send_end.ensures.carried
