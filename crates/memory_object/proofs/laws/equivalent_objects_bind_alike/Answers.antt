use Rattle.std.proofs.Common.{ℕ, ◌∙◌, ap, Option}
use Rattle.std.specs.Option.{option_map}
use Rattle.stack_accept.specs.Mount.{via}
use Rattle.memory_object.specs.declared.binding.CacheRights.{CacheRights}
use Rattle.memory_object.specs.Managers.{manager_of}
use Rattle.memory_object.proofs.laws.equivalent_objects_bind_alike.Goals as goal

-- the rights to a file by the manager that a server has
abbrev rights_by : ℕ → Option ℕ → Option CacheRights
rights_by file leaf = option_map (λ (l : ℕ). record { leaf = l; file = file }) leaf

pub returns : goal.returns
returns c = λ mount machine a b alike.
    ap (λ (server : ℕ). rights_by a.file (manager_of mount.nodes server machine)) alike.server
    ∙ ap (λ (file : ℕ). rights_by file (manager_of mount.nodes (via mount.nodes b.view machine) machine)) alike.file
