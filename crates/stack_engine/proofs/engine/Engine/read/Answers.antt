use Rattle.std.proofs.Common.{arith, true, false, ◌≡◌, ◌<◌, ◌++◌, ◌∷◌, [], Some, None, inl, ap, refl, subst, sym, ◌∙◌}
use Rattle.hist_plain.specs.declared.TheConstants.{MAX_EVENTS}
use Rattle.hist_plain.specs.declared.event.Answer.TheVariants as answers
use Rattle.hist_plain.specs.declared.event.Event.TheVariants as events
use Rattle.hist_plain.specs.declared.event.Op.TheVariants as ops
use Rattle.tower_core.specs.declared.step.Step.TheVariants.{Reads}
use Rattle.tower_log.specs.declared.logged.Logged.TheVariants.{Entered}
use Rattle.tower_log.specs.Log.{place_of}
use Rattle.tower_log.specs.Trail.{TrailSeen}
use Rattle.stack_engine.specs.declared.refusal.StepErr.TheVariants as errors
use Rattle.stack_engine.specs.Engine.{EngineSeen, IsNext, events_in, log_in, state_in, tree_in}
use Rattle.stack_engine.proofs.Making as making
use Rattle.stack_engine.proofs.Rooms as rooms
use Rattle.stack_engine.proofs.engine.Engine.read.Goals as goal

pub returns-in_err-bytes-clause-refused : goal.returns-in_err-bytes-clause-refused
returns-in_err-bytes-clause-refused g c = rooms.if_err c.from_residual.result errors.Memory _ c.from_residual.ensures.1
    (rooms.lacking_read c.args.at.caller c.args.self.now _ _ c.self.view_is refl refl c.make_read_room.ensures.same
    (λ lt. let h = c.in_err-bytes.ensures.spare lt in let both : false ≡ true = h.0 in cc) c.make_read_room.ensures.none (omega (arith, c.len.ensures, c.if-len-ge-MAX_EVENTS.false)))

pub invariant_of-self : goal.invariant_of-self
invariant_of-self g c =
    let old : EngineSeen = record { ground = g.G.Ground.seen c.self.inside.ground; tables = c.self.inside.tables; trail = c.self.inside.book.trail } in
    let new : EngineSeen = record { ground = g.G.Ground.seen c.self.inside.ground; tables = c.self.inside.tables; trail = c.make_read_room.new.self } in
    rooms.engine_spare old new c.self.inside.book.sheet c.make_read_room.new.self.spare c.make_read_room.new.self.room (ap (λ (t : TrailSeen). record old { trail = t }) c.make_read_room.ensures.same) c.self.invariant

pub enter-requires-clause-count : goal.enter-requires-clause-count
enter-requires-clause-count g c = rooms.counted _ c.self.inside.book.sheet c.self.invariant.sheet_is ∙ ap (λ (t : TrailSeen). place_of t.log) (sym c.make_read_room.ensures.same)

pub invariant_of-self-2 : goal.invariant_of-self-2
invariant_of-self-2 g c = making.made_engine _ _ (making.entry_of (events.Access c.args.at.caller c.args.at.number c.args.at.node c.args.at.life (ops.Read c.args.page c.args.off c.args.len)) (Some answers.Bytes) c.copy_from_slice.new.self.items) c.args.at.caller c.args.page (Reads c.args.at.node) None c.self.invariant.sound
    (making.made_of c.args.self.now _ _ c.args.self.now.trail.room c.self.view_is (making.entry_of c.event.result (Some answers.Bytes) c.from_vec.result) (making.entry_of (events.Access c.args.at.caller c.args.at.number c.args.at.node c.args.at.life (ops.Read c.args.page c.args.off c.args.len)) (Some answers.Bytes) c.copy_from_slice.new.self.items) (making.entry_is _ _ _ _ _ c.event.ensures c.from_vec.ensures) c.args.at.caller c.args.page (Reads c.args.at.node) None
    c.touch.ensures.same (inl refl) (making.read_sent _ _ _ _ _ _ c.touch.ensures.sides) c.touch.ensures.follows (c.enter.ensures.log ∙ ap (λ (t : TrailSeen). t.log ++ Entered (making.entry_of c.event.result (Some answers.Bytes) c.from_vec.result) ∷ []) c.make_read_room.ensures.same) (ap (λ (t : TrailSeen). t.page_size) c.enter.ensures.trail ∙ ap (λ (t : TrailSeen). t.page_size) c.make_read_room.ensures.same) (subst (λ (e : EngineSeen). place_of (log_in e) < MAX_EVENTS) c.self.view_is (omega (arith, c.len.ensures, c.if-len-ge-MAX_EVENTS.false))) c.requires.next refl c.requires.number (making.read_on (tree_in c.args.self.now) (events_in c.args.self.now) c.args.at.caller c.args.at.number c.args.at.node c.args.at.life c.args.page c.args.off c.args.len c.requires.life))
    (making.read_tells _ c.self.invariant.sound c.args.at.caller c.args.at.number c.args.at.node c.args.at.life c.args.page (subst (λ (e : EngineSeen). c.args.at.life ≡ (state_in e).life c.args.at.node) (sym c.self.view_is) c.requires.life) c.args.off c.args.len c.copy_from_slice.new.self.items (c.copy_from_slice.ensures.items ∙ c.lend-lent.ensures.bytes) (subst (λ (e : EngineSeen). IsNext e (events.Access c.args.at.caller c.args.at.number c.args.at.node c.args.at.life (ops.Read c.args.page c.args.off c.args.len))) (sym c.self.view_is) c.requires.next))
    c.self.inside.book.sheet c.enter.new.self.sheet c.self.invariant
    (making.booked _ c.tree.result.now c.self.inside.book.sheet c.enter.new.self.sheet
    (making.entry_of c.event.result (Some answers.Bytes) c.from_vec.result) (making.entry_of (events.Access c.args.at.caller c.args.at.number c.args.at.node c.args.at.life (ops.Read c.args.page c.args.off c.args.len)) (Some answers.Bytes) c.copy_from_slice.new.self.items) (making.entry_is _ _ _ _ _ c.event.ensures c.from_vec.ensures) c.tree.ensures.value c.enter.ensures.nodes c.enter.ensures.pages c.enter.ensures.state)

pub returns-clause-makes : goal.returns-clause-makes
returns-clause-makes g c = rooms.makes_room c.args.self.now _ _ c.args.self.now.trail.room c.self.view_is c.args.at.caller c.args.at.number c.args.at.node c.args.at.life (ops.Read c.args.page c.args.off c.args.len) answers.Bytes
    (making.read_makes _ _ c.self.invariant.sound c.args.at.caller c.args.at.number c.args.at.node c.args.at.life c.args.page (subst (λ (e : EngineSeen). c.args.at.life ≡ (state_in e).life c.args.at.node) (sym c.self.view_is) c.requires.life) refl c.args.off c.args.len c.copy_from_slice.new.self.items (c.copy_from_slice.ensures.items ∙ c.lend-lent.ensures.bytes)
    (making.made_of c.args.self.now _ _ c.args.self.now.trail.room c.self.view_is (making.entry_of c.event.result (Some answers.Bytes) c.from_vec.result) (making.entry_of (events.Access c.args.at.caller c.args.at.number c.args.at.node c.args.at.life (ops.Read c.args.page c.args.off c.args.len)) (Some answers.Bytes) c.copy_from_slice.new.self.items) (making.entry_is _ _ _ _ _ c.event.ensures c.from_vec.ensures) c.args.at.caller c.args.page (Reads c.args.at.node) None
    c.touch.ensures.same (inl refl) (making.read_sent _ _ _ _ _ _ c.touch.ensures.sides) c.touch.ensures.follows (c.enter.ensures.log ∙ ap (λ (t : TrailSeen). t.log ++ Entered (making.entry_of c.event.result (Some answers.Bytes) c.from_vec.result) ∷ []) c.make_read_room.ensures.same) (ap (λ (t : TrailSeen). t.page_size) c.enter.ensures.trail ∙ ap (λ (t : TrailSeen). t.page_size) c.make_read_room.ensures.same) (subst (λ (e : EngineSeen). place_of (log_in e) < MAX_EVENTS) c.self.view_is (omega (arith, c.len.ensures, c.if-len-ge-MAX_EVENTS.false))) c.requires.next refl c.requires.number (making.read_on (tree_in c.args.self.now) (events_in c.args.self.now) c.args.at.caller c.args.at.number c.args.at.node c.args.at.life c.args.page c.args.off c.args.len c.requires.life)))
