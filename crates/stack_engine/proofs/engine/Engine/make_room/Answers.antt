use Rattle.std.proofs.Common.{ap}
use Rattle.tower_log.specs.Trail.{TrailSeen}
use Rattle.stack_engine.specs.Engine.{EngineSeen}
use Rattle.stack_engine.proofs.Rooms.{engine_room}
use Rattle.stack_engine.proofs.engine.Engine.make_room.Goals as goal

pub invariant_of-self : goal.invariant_of-self
invariant_of-self g c =
    let old : EngineSeen = record { ground = g.G.Ground.seen c.self.inside.ground; tables = c.self.inside.tables; trail = c.self.inside.book.trail } in
    let new : EngineSeen = record { ground = g.G.Ground.seen c.self.inside.ground; tables = c.self.inside.tables; trail = c.make_room.new.self } in
    engine_room old new c.self.inside.book.sheet c.make_room.new.self.room (ap (λ (t : TrailSeen). record old { trail = t }) c.make_room.ensures.same) c.self.invariant

pub invariant_of-self-2 : goal.invariant_of-self-2
invariant_of-self-2 g c =
    let old : EngineSeen = record { ground = g.G.Ground.seen c.self.inside.ground; tables = c.self.inside.tables; trail = c.self.inside.book.trail } in
    let new : EngineSeen = record { ground = g.G.Ground.seen c.self.inside.ground; tables = c.self.inside.tables; trail = c.make_room.new.self } in
    engine_room old new c.self.inside.book.sheet c.make_room.new.self.room (ap (λ (t : TrailSeen). record old { trail = t }) c.make_room.ensures.same) c.self.invariant
