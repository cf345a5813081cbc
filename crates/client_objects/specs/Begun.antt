-- What stands in the names that a mounted stack starts with.
use Rattle.std.specs.Prelude.{◌≡◌, ◌<◌, ℕ, [], ◌∷◌, length, slice_get, Some, true}
use Rattle.stack_accept.specs.declared.entries.FileEntry.{FileEntry}
use Rattle.stack_accept.specs.declared.entries.NodeEntry.{NodeEntry}
use Rattle.stack_accept.specs.Mount.{Mount, is_view, is_view_in}
use Rattle.name_context.specs.Names.{Kept, context, object, kept_at}
use Rattle.name_context.specs.Start.{file_object}
use Rattle.client_objects.specs.Views.{names_at_start}

-- the object of a file of the stack at a view of the stack
pub record IsOfStack (mount : Mount) (kept : Kept) : Type 0 where
  pub node : ℕ
  pub file : ℕ
  pub is : kept ≡ file_object node file
  pub view : is_view_in mount.nodes node ≡ true
  -- it is not the ground
  pub layer : 0 < node
  pub few_nodes : node < length mount.nodes
  pub few_files : file < length mount.files

-- what stands at a path is a context, or such an object
abbrev pub StandsAtStart : Mount → Kept → Type 0
StandsAtStart mount context = Unit {0}
StandsAtStart mount (object bytes doors) = IsOfStack mount (object bytes doors)

-- each view has a context
abbrev pub HasContexts : Mount → Type 0
HasContexts mount = (number : ℕ) (node : NodeEntry) → slice_get mount.nodes number ≡ Some node → is_view node.kind ≡ true
    → kept_at (names_at_start mount) (node.name ∷ []) ≡ Some context

-- and in it each file has an object, whose door leads to the view and to the file
abbrev pub HasObjects : Mount → Type 0
HasObjects mount = (number place : ℕ) (node : NodeEntry) (file : FileEntry) → slice_get mount.nodes number ≡ Some node → is_view node.kind ≡ true
    → slice_get mount.files place ≡ Some file → kept_at (names_at_start mount) (node.name ∷ file.name ∷ []) ≡ Some (file_object number place)
