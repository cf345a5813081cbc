-- The stores of files while they are out of the bay.
use Rattle.std.specs.Prelude.{◌≡◌, ℕ, suc, ◌<◌, ◌≤◌, List, [], ◌∷◌, length, map, slice_get, Some, IfSome, IsSome}
use Rattle.std.specs.List.{flat_map}
use Rattle.stack_accept.specs.Mount.{Mount}
use Rattle.stack_accept.specs.Sound.{IsMount}
use Rattle.script_meaning.specs.declared.store.StoreKey.{StoreKey}
use Rattle.file_stores.specs.Keys.{EachAt, stores_of_file}
use Rattle.file_stores.specs.State.{StoreState}
use Rattle.file_stores.specs.Held.{StoreSeen, IsFit, keys_of}

-- a store that is out, without its key
pub record Bare : Type 0 where
  pub size : ℕ
  pub number : ℕ
  pub state : StoreState

-- these stores as those of a file on its disks, from this disk on
abbrev pub keyed : ℕ → ℕ → List Bare → List StoreSeen
keyed file disk [] = []
keyed file disk (b ∷ bs) = record { key = record { file = file; disk = disk }; size = b.size; number = b.number; state = b.state } ∷ keyed file (suc disk) bs

-- the stores of a file while they are out, in the order of the disks
pub record FileSeen : Type 0 where
  pub file : ℕ
  pub stores : List StoreSeen

-- the stores of a file of the stack: one for each disk, in order, each of the shape of the file's image
pub record IsFile (mount : Mount) (f : FileSeen) : Type 0 where
  pub sound : IsMount mount
  pub file : f.file < length mount.files
  pub keys : keys_of f.stores ≡ stores_of_file (length mount.disks) f.file
  pub fits : EachAt (λ at store. IsFit mount store) f.stores

-- all stores of some files, in order
abbrev pub stores_in : List FileSeen → List StoreSeen
stores_in files = flat_map (λ f. f.stores) files

-- the states of some stores
abbrev pub states : List StoreSeen → List StoreState
states stores = map (λ store. store.state) stores

-- the states that stand at this place of the stores before and after
abbrev pub StandsAt : List StoreSeen → List StoreSeen → ℕ → StoreKey → StoreState → StoreState → Type 0
StandsAt olds news at key old new = (slice_get (states olds) at ≡ Some old) × (slice_get (states news) at ≡ Some new)

-- a store before and after, with one key, of which this holds
abbrev pub IsPair : (StoreSeen → StoreSeen → Type 0) → StoreSeen → StoreSeen → Type 0
IsPair P old new = (new.key ≡ old.key) × P old new

-- as many stores as before, of which this holds in pairs
pub record ArePairs (P : StoreSeen → StoreSeen → Type 0) (olds news : List StoreSeen) : Type 0 where
  pub number : length news ≡ length olds
  pub each : (at : ℕ) (old new : StoreSeen) → slice_get olds at ≡ Some old → slice_get news at ≡ Some new → IsPair P old new

-- files before and after, in pairs
abbrev pub AreFilePairs : (StoreSeen → StoreSeen → Type 0) → List FileSeen → List FileSeen → Type 0
AreFilePairs P olds news = (file : ℕ) (old new : FileSeen) → slice_get olds file ≡ Some old → slice_get news file ≡ Some new → ArePairs P old.stores new.stores

-- its count did not fall, and what was told goes on being told
abbrev pub Lasts : StoreSeen → StoreSeen → Type 0
Lasts old new = (old.state.faults ≤ new.state.faults) × IfSome old.state.content (λ _. IsSome new.state.content)
