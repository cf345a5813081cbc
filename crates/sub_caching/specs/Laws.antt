-- Where the calls on a caching object go, by the tree.
use Rattle.std.specs.Prelude.{◌≡◌, ℕ, ◌⊎◌}
use Rattle.marshal_buf.specs.declared.door.Door.{Door}
use Rattle.stack_accept.specs.Mount.{Mount}
use Rattle.stack_accept.specs.Sound.{IsMount}
use Rattle.sub_core.specs.declared.values.Route.{Route}
use Rattle.memory_object.specs.Managers.{IsFirstManager, HasNoManager}
use Rattle.sub_caching.specs.Routes.{caching_route}

-- the route leads to the first manager of the machine whose parent serves the view's pages there; where there is none, to the view;
-- at either, to the door's file
pub record GoesLocal (mount : Mount) (machine : ℕ) (door : Door) (route : Route) : Type 0 where
  pub node : IsFirstManager mount door.node machine route.node ⊎ (HasNoManager mount door.node machine × (route.node ≡ door.node))
  pub file : route.file ≡ door.file

-- the calls on every caching object of a mounted stack go so
abbrev pub CallsGoLocal : Type 0
CallsGoLocal = (mount : Mount) (machine : ℕ) (door : Door) (tag : ℕ) → IsMount mount → GoesLocal mount machine door (caching_route mount machine door tag)
