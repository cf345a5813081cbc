use Rattle.std.proofs.Common.{inr, ap, refl, subst, sym, ◌∙◌}
use Rattle.tower_log.specs.Trail.{TrailSeen}
use Rattle.stack_engine.specs.Moves.{IsRefused}
use Rattle.stack_engine.proofs.Refusing as refusing
use Rattle.stack_engine.proofs.Rooms as rooms
use Rattle.stack_engine.proofs.engine.Engine.read_ground.Goals as goal

pub returns-in_err-make_room-clause-refused : goal.returns-in_err-make_room-clause-refused
returns-in_err-make_room-clause-refused g c = rooms.if_err c.from_residual.result c.in_err-make_room.field-0.0 _ c.from_residual.ensures.1
    (rooms.full_refused c.args.caller c.args.self.now c.make_room.new.self c.make_room.new.self.trail.room c.in_err-make_room.field-0.0 c.make_room.ensures.same c.in_err-make_room.ensures.err)

pub invariant_of-self : goal.invariant_of-self
invariant_of-self g c = refusing.lacking_engine c.args.caller _ _ (record { file = record { tree = refl; file = refl; machines = refl; ops = refl }; left = record { sides = λ p n. refl; uses = λ n. refl }; call = inr c.read.ensures.keeps; pages = c.read.ensures.same }) refl c.self.inside.book.sheet c.self.invariant

pub invariant_of-self-in-Err : goal.invariant_of-self-in-Err
invariant_of-self-in-Err g c = refusing.noted_engine c.args.caller c.in-Err.fault.disk c.in-Err.fault.count _ _ (record { file = record { tree = refl; file = refl; machines = refl; ops = refl }; left = record { sides = λ p n. refl; uses = λ n. refl }; call = inr c.read.ensures.keeps; pages = c.read.ensures.same }) c.noted.ensures.noted (ap (λ (t : TrailSeen). t.page_size) c.noted.ensures.same) c.in-Err.ensures.fault c.self.inside.book.sheet c.self.invariant

pub returns-in-Ok-clause-reads : goal.returns-in-Ok-clause-reads
returns-in-Ok-clause-reads g c = refusing.looked c.args.caller c.args.page c.read.new.out c.args.self.now _ _ c.make_room.new.self.trail.room (c.self.view_is ∙ c.make_room.ensures.same) c.self.invariant.sound c.in_ok-make_room.ensures.few
    c.read.ensures.keeps refl refl c.read.ensures.same c.in-Ok.ensures.bytes c.in-Ok.ensures.calm

pub returns-in-Err-clause-refused : goal.returns-in-Err-clause-refused
returns-in-Err-clause-refused g c = subst (IsRefused c.args.caller c.args.self.now _) (sym c.noted.ensures.fault)
    (rooms.refused_room c.args.self.now _ _ c.make_room.new.self.trail.room (c.self.view_is ∙ c.make_room.ensures.same) c.args.caller _ (refusing.noted_refused c.args.caller c.in-Err.fault.disk c.in-Err.fault.count _ _ (record { file = record { tree = refl; file = refl; machines = refl; ops = refl }; left = record { sides = λ p n. refl; uses = λ n. refl }; call = inr c.read.ensures.keeps; pages = c.read.ensures.same }) c.noted.ensures.noted (ap (λ (t : TrailSeen). t.page_size) c.noted.ensures.same) c.in-Err.ensures.fault c.self.invariant.sound (ap (λ (t : TrailSeen). t.spare) c.noted.ensures.same)))
