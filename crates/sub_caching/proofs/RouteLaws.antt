-- Where a caching object's route leads, by the tree.
use Rattle.std.proofs.Common.{◌≡◌, ℕ, inl, inr, Option, Some, None, refl}
use Rattle.std.specs.Option.{option_map}
use Rattle.marshal_buf.specs.declared.door.Door.{Door}
use Rattle.stack_accept.specs.Mount.{Mount, via}
use Rattle.stack_accept.specs.Sound.{IsMount}
use Rattle.memory_object.specs.declared.binding.CacheRights.{CacheRights}
use Rattle.memory_object.specs.Managers.{manager_of}
use Rattle.memory_object.proofs.ManagerLaws.{first_manager, no_manager}
use Rattle.sub_caching.specs.Routes.{local_or}
use Rattle.sub_caching.specs.Laws.{GoesLocal, CallsGoLocal}

goes_local : (mount : Mount) (machine : ℕ) (door : Door) (manager : Option ℕ) → IsMount mount → manager_of mount.nodes (via mount.nodes door.node machine) machine ≡ manager
    → GoesLocal mount machine door (local_or door (option_map (λ leaf. let rights : CacheRights = record { leaf = leaf; file = door.file } in rights) manager))
goes_local mount machine door (Some leaf) sound is = record { node = inl (first_manager mount door.node machine leaf sound is); file = refl }
goes_local mount machine door None sound is = record { node = inr (no_manager mount door.node machine sound is, refl); file = refl }

pub calls_go_local : CallsGoLocal
calls_go_local mount machine door tag sound = goes_local mount machine door (manager_of mount.nodes (via mount.nodes door.node machine) machine) sound refl
