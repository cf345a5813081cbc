-- The names of a stack, in the order in which they were made.
use Rattle.std.specs.Prelude.{ℕ, List, find, Option, ◌<◌, ◌≤◌, length}
use Rattle.std.specs.Option.{option_map}
use Rattle.std.specs.Str.{bytes_eq}
use Rattle.std.specs.Cmp.Lexicographic.{pointwise}
use Rattle.marshal_buf.specs.declared.door.Door.{Door}
use Rattle.marshal_buf.specs.Held.{Held}
use Rattle.name_context.specs.declared.entry.TheConstants.{MAX_PARTS}

-- what stands at a path: a context, or an object of these bytes and doors
pub data Kept : Type 0 where
  context : Kept
  object : (bytes : List ℕ) (doors : List Door) → Kept

-- a path, and what stands there
pub record Name : Type 0 where
  pub path : List (List ℕ)
  pub kept : Kept

-- an object as it is kept
abbrev pub kept_object : Held → Kept
kept_object stored = object stored.bytes stored.doors

-- it is an object
abbrev pub IsObject : Kept → Type 0
IsObject context = ⊥
IsObject (object bytes doors) = Unit {0}

-- what stands at a path
abbrev pub kept_at : List Name → List (List ℕ) → Option Kept
kept_at names path = option_map (λ name. name.kept) (find (λ name. pointwise bytes_eq name.path path) names)

-- how many parts the path of a call may have
pub record HasParts (path : List (List ℕ)) : Type 0 where
  pub some : 0 < length path
  pub few : length path ≤ MAX_PARTS
