-- The stores of a stack: which there are, their shapes, and what a bay has under their names.
use Rattle.std.specs.Prelude.{◌≡◌, ℕ, ◌<◌, List, length, map, slice_get, Some, Bool, ◌==◌, ◌&&◌}
use Rattle.std.specs.List.{flat_map, list_any, range_with_len}
use Rattle.stack_accept.specs.Mount.{Mount}
use Rattle.stack_accept.specs.Sound.{IsMount}
use Rattle.script_meaning.specs.declared.store.StoreKey.{StoreKey}
use Rattle.script_meaning.specs.Stack.{disk_name, file_name, pages_of}
use Rattle.spr_io.specs.Berth.{Berth, Berths}
use Rattle.disk_format.specs.declared.shape.ImageShape.{ImageShape}

-- what holds of each place of a list, and of what stands there
abbrev pub EachAt : {A : Type 0} → (ℕ → A → Type 0) → List A → Type 0
EachAt {A = A} P items = (at : ℕ) (item : A) → slice_get items at ≡ Some item → P at item

-- a store of a file on each of this number of disks
abbrev pub stores_of_file : ℕ → ℕ → List StoreKey
stores_of_file disks file = map (λ disk. record { file = file; disk = disk }) (range_with_len 0 disks)

-- the stores of a stack, by file and then by disk
abbrev pub stores_of : Mount → List StoreKey
stores_of mount = flat_map (stores_of_file (length mount.disks)) (range_with_len 0 (length mount.files))

-- the stack has this store
pub record IsStore (mount : Mount) (key : StoreKey) : Type 0 where
  pub file : key.file < length mount.files
  pub disk : key.disk < length mount.disks

-- stores of a mounted stack, none of them twice
pub record AreStores (mount : Mount) (keys : List StoreKey) : Type 0 where
  pub sound : IsMount mount
  pub each : EachAt (λ at key. IsStore mount key) keys
  pub once : (a b : ℕ) (key : StoreKey) → slice_get keys a ≡ Some key → slice_get keys b ≡ Some key → a ≡ b

abbrev pub is_key : StoreKey → StoreKey → Bool
is_key key other = (key.file == other.file) && (key.disk == other.disk)

-- whether a store is among those that were lost
abbrev pub is_lost : List StoreKey → StoreKey → Bool
is_lost lost key = list_any (is_key key) lost

-- the shape of the image on a store
abbrev pub image_shape : Mount → StoreKey → ImageShape
image_shape mount key = record { page_size = mount.page_size; pages = pages_of mount key.file }

-- what a bay has under the names of a store
abbrev pub berth_of : Mount → StoreKey → Berths → Berth
berth_of mount key berths = berths (disk_name mount key.disk) (file_name mount key.file)

-- these are the names of none of the stores
abbrev pub IsOther : Mount → List StoreKey → List ℕ → List ℕ → Type 0
IsOther mount keys disk file = EachAt (λ at key. disk ≡ disk_name mount key.disk → file ≡ file_name mount key.file → ⊥) keys

-- no berth but those of these stores changes
abbrev pub SameOthers : Mount → List StoreKey → Berths → Berths → Type 0
SameOthers mount keys before after = (disk file : List ℕ) → IsOther mount keys disk file → after disk file ≡ before disk file
