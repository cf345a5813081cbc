-- The objects that a client holds, each under a name.
use Rattle.std.specs.Prelude.{◌≡◌, ℕ, ◌<◌, List, [], ◌∷◌, ◌++◌, find, length, if◌then◌else◌, true, unwrap_or, Option}
use Rattle.std.specs.Option.{option_map}
use Rattle.std.specs.Str.{bytes_eq}
use Rattle.stack_accept.specs.Mount.{Mount, is_view_in}
use Rattle.client_objects.specs.declared.target.Target.{Target}
use Rattle.client_objects.specs.Found.{IsChosen}

-- an open object: its name, where its calls go, and the word that its subcontract keeps beside the door: the path that a reconnectable
-- object was bound under, the name of a caching object's manager, and nothing of any other
pub record OpenObject : Type 0 where
  pub name : List ℕ
  pub target : Target
  pub word : List ℕ

-- where the calls of the open object of a name go
abbrev pub object_of : List ℕ → List OpenObject → Option Target
object_of name objects = option_map (λ o. o.target) (find (λ o. bytes_eq o.name name) objects)

-- the word of the open object of a name
abbrev pub word_of : List ℕ → List OpenObject → List ℕ
word_of name objects = unwrap_or (option_map (λ o. o.word) (find (λ o. bytes_eq o.name name) objects)) []

-- the objects, and this one behind them
abbrev pub with_object : List OpenObject → List ℕ → Target → List ℕ → List OpenObject
with_object objects name target word = objects ++ record { name = name; target = target; word = word } ∷ []

-- the objects, of which the first of this name leads elsewhere
abbrev pub with_target : List ℕ → Target → List OpenObject → List OpenObject
with_target name target [] = []
with_target name target (o ∷ os) = if bytes_eq o.name name then record o { target = target } ∷ os else o ∷ with_target name target os

-- the objects without the first of this name
abbrev pub without : List ℕ → List OpenObject → List OpenObject
without name [] = []
without name (o ∷ os) = if bytes_eq o.name name then os else o ∷ without name os

-- the calls of the object go to a view and a file of the stack, which its subcontract chooses
pub record IsOnStack (mount : Mount) (object : OpenObject) : Type 0 where
  pub view : is_view_in mount.nodes object.target.view ≡ true
  pub file : object.target.file < length mount.files
  pub chosen : IsChosen object.target
