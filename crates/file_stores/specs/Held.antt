-- Stores while they are out of the bay.
use Rattle.std.specs.Prelude.{◌≡◌, ℕ, ◌≤◌, List, [], ◌∷◌, ◌++◌, length, map, filter, slice_get, Some, IfSome, IsSome, if◌then◌else◌, Bool, vec_capacity}
use Rattle.std.specs.Global.{Vec}
use Rattle.stack_accept.specs.Mount.{Mount}
use Rattle.script_meaning.specs.declared.store.StoreKey.{StoreKey}
use Rattle.script_meaning.specs.Stack.{disk_name, file_name}
use Rattle.spr_io.specs.Content.{KeepsShape}
use Rattle.spr_io.specs.Berth.{BaySeen, taken, SameElsewhere}
use Rattle.disk_format.specs.Shape.{blocks_of}
use Rattle.file_stores.specs.Keys.{EachAt, image_shape, berth_of, is_lost, SameOthers}
use Rattle.file_stores.specs.State.{StoreState, Lay, BackFrom, RoseBy}
use Rattle.file_stores.specs.declared.stop.Stop.{Stop}
use Rattle.file_stores.specs.declared.stop.Stop.TheVariants as stops

-- a store that is out: which one, the bytes of a block, how many blocks, and its state
pub record StoreSeen : Type 0 where
  pub key : StoreKey
  pub size : ℕ
  pub number : ℕ
  pub state : StoreState

-- an empty list with room for this number
abbrev pub IsRoom : {A : Type 0} → ℕ → Vec A → Type 0
IsRoom {A = A} number list = (list.items ≡ []) × (number ≤ vec_capacity list)

-- which stores these are
abbrev pub keys_of : List StoreSeen → List StoreKey
keys_of stores = map (λ store. store.key) stores

-- the store has the shape of its image
abbrev pub IsFit : Mount → StoreSeen → Type 0
IsFit mount store = KeepsShape mount.page_size (blocks_of (image_shape mount store.key)) store.size store.number store.state.content

-- a store was taken
pub record Took (mount : Mount) (before after : BaySeen) (store : StoreSeen) : Type 0 where
  pub lay : Lay mount before store.key store.state
  pub berth : berth_of mount store.key after.berths ≡ taken (berth_of mount store.key before.berths)
  pub fits : IsFit mount store
  pub others : SameElsewhere (disk_name mount store.key.disk) (file_name mount store.key.file) before.berths after.berths
  pub calm : after.faults ≡ before.faults

-- a store lay in the bay, and is out now
pub record IsOut (mount : Mount) (before now : BaySeen) (store : StoreSeen) : Type 0 where
  pub lay : Lay mount before store.key store.state
  pub berth : berth_of mount store.key now.berths ≡ taken (berth_of mount store.key before.berths)
  pub fits : IsFit mount store

-- these stores are out, and no other berth changed
pub record AreOut (mount : Mount) (before now : BaySeen) (stores : List StoreSeen) : Type 0 where
  pub each : EachAt (λ at store. IsOut mount before now store) stores
  pub others : SameOthers mount (keys_of stores) before.berths now.berths

-- why the next of these stores was not taken: the bay had a fault, or memory ran out and it had none
abbrev pub IsUntaken : List StoreKey → ℕ → BaySeen → BaySeen → Stop → Type 0
IsUntaken keys number before after (stops.Bay key) = (slice_get keys number ≡ Some key) × RoseBy 1 before.faults after.faults
IsUntaken keys number before after stops.Memory = after.faults ≡ before.faults
IsUntaken keys number before after stop = ⊥

-- a store came back, or is lost behind those lost before, by a fault of the bay; no other berth changed
pub record Gave (mount : Mount) (before after : BaySeen) (lost lost_after : List StoreKey) (store : StoreSeen) : Type 0 where
  pub gone : Bool
  pub back : BackFrom (berth_of mount store.key before.berths) (berth_of mount store.key after.berths) gone store.state
  pub list : lost_after ≡ (if gone then lost ++ store.key ∷ [] else lost)
  pub paid : RoseBy (if gone then 1 else 0) before.faults after.faults
  pub others : SameElsewhere (disk_name mount store.key.disk) (file_name mount store.key.file) before.berths after.berths

-- stores that were out came back, but for those that are lost, in the same order
pub record AreGiven (mount : Mount) (before after : BaySeen) (stores : List StoreSeen) (lost : List StoreKey) : Type 0 where
  pub each : EachAt (λ at store. BackFrom (berth_of mount store.key before.berths) (berth_of mount store.key after.berths) (is_lost lost store.key) store.state) stores
  pub some : lost ≡ filter (is_lost lost) (keys_of stores)
  pub paid : RoseBy (length lost) before.faults after.faults
  pub others : SameOthers mount (keys_of stores) before.berths after.berths

-- what became of a store while it was out
pub record BecameOne (old new : StoreState) (Becomes : StoreState → StoreState → Type 0) : Type 0 where
  pub becomes : Becomes old new
  pub later : old.faults ≤ new.faults
  pub told : IfSome old.content (λ _. IsSome new.content)

-- what became of stores while they were out
pub record Became (olds news : List StoreSeen) (Becomes : ℕ → StoreKey → StoreState → StoreState → Type 0) : Type 0 where
  pub keys : keys_of news ≡ keys_of olds
  pub each : (at : ℕ) (old new : StoreSeen) → slice_get olds at ≡ Some old → slice_get news at ≡ Some new → BecameOne old.state new.state (Becomes at old.key)
