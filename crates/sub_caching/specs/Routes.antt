-- Where a call on a caching object goes.
use Rattle.std.specs.Prelude.{ℕ, Option, Some, None}
use Rattle.marshal_buf.specs.declared.door.Door.{Door}
use Rattle.stack_accept.specs.Mount.{Mount}
use Rattle.sub_core.specs.declared.values.Route.{Route}
use Rattle.memory_object.specs.declared.binding.CacheRights.{CacheRights}
use Rattle.memory_object.specs.Managers.{rights_of}

-- to the manager's cache, if there is one, and else where the door leads
abbrev pub local_or : Door → Option CacheRights → Route
local_or door (Some rights) = record { node = rights.leaf; file = door.file }
local_or door None = record { node = door.node; file = door.file }

-- A call goes to what the door's file at its view binds to on the machine, and if there is nothing, to the view.
abbrev pub caching_route : Mount → ℕ → Door → ℕ → Route
caching_route mount machine door tag = local_or door (rights_of mount (record { view = door.node; file = door.file }) machine)
