-- Why a command over the stores ends before its work, and what became of the stores.
use Rattle.std.specs.Prelude.{◌≡◌, ◌≢◌, ℕ, ◌+◌, ◌<◌, ◌≤◌, List, length, take, slice_get, Option, Some, IfSome, IsSome, Err}
use Rattle.stack_accept.specs.Mount.{Mount}
use Rattle.script_meaning.specs.declared.store.StoreKey.{StoreKey}
use Rattle.spr_io.specs.Content.{Content}
use Rattle.spr_io.specs.Berth.{BaySeen}
use Rattle.disk_format.specs.declared.shape.ImageShape.{ImageShape}
use Rattle.disk_format.specs.declared.why.ImageWhy.{ImageWhy}
use Rattle.disk_format.specs.declared.why.ImageWhy.TheVariants as whys
use Rattle.disk_format.specs.VersionOne.{image_in}
use Rattle.disk_format.specs.Image.{front_of, image}
use Rattle.file_stores.specs.State.{StoreState, Returned, AsTaken, RoseBy}
use Rattle.file_stores.specs.declared.stop.Stop.{Stop}
use Rattle.file_stores.specs.declared.stop.Stop.TheVariants as stops

-- the blocks, if they are told, are an image
abbrev pub HoldsImage : ImageShape → Option Content → Type 0
HoldsImage shape content = IfSome content (λ c. IsSome (image shape c.blocks))

-- the blocks, if they are told, are no image, for this reason at this place, which is the first; memory did not run out
pub record IsNoImage (shape : ImageShape) (content : Option Content) (place : ℕ) (why : ImageWhy) : Type 0 where
  pub reason : why ≢ whys.Memory
  pub told : IfSome content (λ c. image_in shape (front_of shape c.blocks) ≡ Err (record { place = place; why = why }))

-- a store failed with this count
pub record Failed (count : ℕ) (old new : StoreState) : Type 0 where
  pub above : old.faults < count
  pub within : count ≤ new.faults

-- The bay did not give this store, by a fault of its own. Those before it came back as they were taken.
pub record NotTaken (mount : Mount) (before after : BaySeen) (keys lost : List StoreKey) (key : StoreKey) : Type 0 where
  pub number : ℕ
  pub is : slice_get keys number ≡ Some key
  pub back : Returned mount before after (take number keys) lost AsTaken
  pub fault : RoseBy (length lost + 1) before.faults after.faults

-- Memory ran out. The first stores had been taken, and came back as they were; the bay had no fault but for those that are lost.
pub record OutOfMemory (mount : Mount) (before after : BaySeen) (keys lost : List StoreKey) : Type 0 where
  pub number : ℕ
  pub back : Returned mount before after (take number keys) lost AsTaken

-- why not all of these stores were taken, and which of them are lost
abbrev pub Untaken : Mount → BaySeen → BaySeen → List StoreKey → List StoreKey → Stop → Type 0
Untaken mount before after keys lost (stops.Bay key) = NotTaken mount before after keys lost key
Untaken mount before after keys lost stops.Memory = OutOfMemory mount before after keys lost
Untaken mount before after keys lost stop = ⊥
