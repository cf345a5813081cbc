-- Where calls go.
use Rattle.std.specs.Prelude.{ℕ}
use Rattle.marshal_buf.specs.declared.door.Door.{Door}
use Rattle.stack_accept.specs.Mount.{Mount}
use Rattle.sub_core.specs.declared.values.Route.{Route}

-- A call on a singleton goes where its door leads.
abbrev pub singleton_route : Mount → ℕ → Door → ℕ → Route
singleton_route mount machine door tag = record { node = door.node; file = door.file }

-- A call on an object of a cluster goes to the node where its door leads, and there to the file of its tag.
abbrev pub cluster_route : Mount → ℕ → Door → ℕ → Route
cluster_route mount machine door tag = record { node = door.node; file = tag }
