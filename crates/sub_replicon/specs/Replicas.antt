-- What contracts see of a replicon object.
use Rattle.std.specs.Prelude.{◌≡◌, ◌≢◌, ◌≤◌, ℕ, List, [], ◌∷◌, map, length, slice_set}
use Rattle.std.specs.List.{AllByRecursion}
use Rattle.marshal_buf.specs.declared.door.Door.{Door}
use Rattle.sub_replicon.specs.declared.TheConstants.{MAX_DOORS}

-- the identifiers of the object's doors, in order, and the life of each door
pub record Replicas : Type 0 where
  pub doors : List ℕ
  pub lives : List ℕ

-- the identifier is none of these
abbrev pub IsApart : ℕ → List ℕ → Type 0
IsApart id ids = AllByRecursion (λ other. other ≢ id) ids

-- no identifier stands twice
abbrev pub AreApart : List ℕ → Type 0
AreApart [] = Unit {0}
AreApart (id ∷ ids) = IsApart id ids × AreApart ids

-- what holds of every object: it has one to eight doors, each under an identifier of its own, and a life for each
pub record IsReplicon (object : Replicas) : Type 0 where
  pub some : 1 ≤ length object.doors
  pub few : length object.doors ≤ MAX_DOORS
  pub apart : AreApart object.doors
  pub lives : length object.lives ≡ length object.doors

-- each door is of the first one's file
abbrev pub AreOfOneFile : List Door → Type 0
AreOfOneFile [] = Unit {0}
AreOfOneFile (first ∷ doors) = AllByRecursion (λ door. door.file ≡ first.file) doors

-- doors that an object may have: one to eight, of one file
pub record AreReplicas (doors : List Door) : Type 0 where
  pub some : 1 ≤ length doors
  pub few : length doors ≤ MAX_DOORS
  pub one_file : AreOfOneFile doors

-- a life 0 for each of the doors
abbrev pub new_lives : List ℕ → List ℕ
new_lives doors = map (λ id. 0) doors

-- the life of the first door
abbrev pub first_life : List ℕ → ℕ
first_life [] = 0
first_life (life ∷ lives) = life

-- the object, whose door k has this life
abbrev pub with_life : ℕ → ℕ → Replicas → Replicas
with_life k life object = record object { lives = slice_set object.lives k life }
