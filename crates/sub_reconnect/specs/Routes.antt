-- Where a call on a reconnectable object goes.
use Rattle.std.specs.Prelude.{ℕ}
use Rattle.marshal_buf.specs.declared.door.Door.{Door}
use Rattle.stack_accept.specs.Mount.{Mount}
use Rattle.sub_core.specs.declared.values.Route.{Route}

-- A call goes where the object's door leads.
abbrev pub reconnectable_route : Mount → ℕ → Door → ℕ → Route
reconnectable_route mount machine door tag = record { node = door.node; file = door.file }
