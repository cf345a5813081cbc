-- Stores on which a fresh image is written.
use Rattle.std.specs.Prelude.{◌≡◌, ℕ, ◌<◌, ◌≤◌, List, replicate, slice_get, Option, Some, None, IfSome}
use Rattle.stack_accept.specs.Mount.{Mount}
use Rattle.script_meaning.specs.declared.store.StoreKey.{StoreKey}
use Rattle.spr_io.specs.Content.{flushed}
use Rattle.disk_format.specs.declared.shape.ImageShape.{ImageShape}
use Rattle.disk_format.specs.Shape.{first_data}
use Rattle.page_ground.specs.Seen.{Imaged}
use Rattle.disk_format.specs.Image.{image}
use Rattle.disk_layer.specs.Disk.{formatted}
use Rattle.file_stores.specs.declared.stop.Stop.{Stop}
use Rattle.file_stores.specs.declared.stop.Stop.TheVariants as stops
use Rattle.file_stores.specs.Keys.{image_shape}
use Rattle.file_stores.specs.State.{StoreState}
use Rattle.file_stores.specs.Held.{StoreSeen, keys_of, BecameOne, Became}

-- the first image of a file: generation 1, and pages of zeros
abbrev pub fresh_image : ImageShape → Imaged
fresh_image shape = record { generation = 1; pages = replicate shape.pages (replicate shape.page_size 0) }

-- a fresh image was written on a store, and flushed: what the store keeps is that image. The store had no fault.
pub record IsFresh (shape : ImageShape) (old new : StoreState) : Type 0 where
  pub written : new.content ≡ flushed (formatted shape (first_data shape) old.content)
  pub kept : IfSome new.content (λ c. image shape c.kept ≡ Some (fresh_image shape))
  pub calm : new.faults ≡ old.faults

-- the first blocks of a fresh image, this many, were written on a store, and nothing was flushed
pub record IsBegun (shape : ImageShape) (old new : StoreState) : Type 0 where
  pub many : ℕ
  pub within : many ≤ first_data shape
  pub written : new.content ≡ formatted shape many old.content

-- a store failed while it was formatted, and this is its count then
pub record FailedAt (count : ℕ) (shape : ImageShape) (old new : StoreState) : Type 0 where
  pub begun : IsBegun shape old new
  pub above : old.faults < count
  pub is : new.faults ≡ count

-- memory ran out before a store was formatted: it is as it was
pub record IsUntouched (shape : ImageShape) (old new : StoreState) : Type 0 where
  pub content : new.content ≡ old.content
  pub calm : new.faults ≡ old.faults

-- why a store was not formatted: it failed, or memory ran out
abbrev pub IsBreak : ImageShape → StoreSeen → StoreSeen → Stop → Type 0
IsBreak shape old new (stops.Store key count) = (key ≡ old.key) × BecameOne old.state new.state (FailedAt count shape)
IsBreak shape old new stops.Memory = BecameOne old.state new.state (IsUntouched shape)
IsBreak shape old new stop = ⊥

-- what becomes of stores of which the one of this number could not be formatted: those before it were, and those after it come
-- back as they were taken
pub record Part (mount : Mount) (number : ℕ) (Cause : ImageShape → StoreState → StoreState → Type 0) (at : ℕ) (key : StoreKey) (old new : StoreState) : Type 0 where
  pub before : at < number → IsFresh (image_shape mount key) old new
  pub here : at ≡ number → Cause (image_shape mount key) old new
  pub after : number < at → new ≡ old

-- one of the stores could not be formatted
pub record Breaks (mount : Mount) (olds news : List StoreSeen) (key : StoreKey) (Cause : ImageShape → StoreState → StoreState → Type 0) : Type 0 where
  pub number : ℕ
  pub is : slice_get (keys_of olds) number ≡ Some key
  pub parts : Became olds news (Part mount number Cause)

-- each of the stores was formatted, or one could not be
abbrev pub Went : Mount → List StoreSeen → List StoreSeen → Option Stop → Type 0
Went mount olds news None = Became olds news (λ at key. IsFresh (image_shape mount key))
Went mount olds news (Some (stops.Store key count)) = Breaks mount olds news key (FailedAt count)
Went mount olds news (Some stops.Memory) = (key : StoreKey) × Breaks mount olds news key IsUntouched
Went mount olds news (Some stop) = ⊥

-- what becomes of the next store: it is formatted, unless one before it could not be
abbrev pub GoesOn : Mount → Option Stop → StoreSeen → StoreSeen → Option Stop → Type 0
GoesOn mount (Some stop) old new after = (new.state ≡ old.state) × (after ≡ Some stop)
GoesOn mount None old new None = BecameOne old.state new.state (IsFresh (image_shape mount old.key))
GoesOn mount None old new (Some stop) = IsBreak (image_shape mount old.key) old new stop
