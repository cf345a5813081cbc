use Rattle.std.proofs.Common.{ap, subst}
use Rattle.tower_log.specs.Trail.{TrailSeen}
use Rattle.stack_engine.specs.Engine.{EngineSeen}
use Rattle.stack_engine.specs.Opened.{IsOf}
use Rattle.stack_engine.proofs.Rooms.{engine_spare, of_spare}
use Rattle.stack_engine.proofs.engine.Engine.reserve.Goals as goal

pub returns-clause-of : goal.returns-clause-of
returns-clause-of g c = λ opening of.
    let old : EngineSeen = record { ground = g.G.Ground.seen c.self.inside.ground; tables = c.self.inside.tables; trail = c.self.inside.book.trail } in
    let new : EngineSeen = record { ground = g.G.Ground.seen c.self.inside.ground; tables = c.self.inside.tables; trail = c.reserve.new.self } in
    subst (λ (v : EngineSeen). IsOf opening v → IsOf opening new) c.self.view_is
    (λ was. of_spare opening old new c.reserve.new.self.spare c.reserve.new.self.room (ap (λ (t : TrailSeen). record old { trail = t }) c.reserve.ensures.same) was) of

pub invariant_of-self : goal.invariant_of-self
invariant_of-self g c =
    let old : EngineSeen = record { ground = g.G.Ground.seen c.self.inside.ground; tables = c.self.inside.tables; trail = c.self.inside.book.trail } in
    let new : EngineSeen = record { ground = g.G.Ground.seen c.self.inside.ground; tables = c.self.inside.tables; trail = c.reserve.new.self } in
    engine_spare old new c.self.inside.book.sheet c.reserve.new.self.spare c.reserve.new.self.room (ap (λ (t : TrailSeen). record old { trail = t }) c.reserve.ensures.same) c.self.invariant
