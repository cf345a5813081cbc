-- What a look at a store finds, and what becomes of the store.
use Rattle.std.specs.Prelude.{◌≡◌, ◌⊎◌, ℕ, ◌<◌, ◌≤◌, List, [], ◌∷◌, length, map, filter, Bool, true, false, Option, Some, None, IfSome, Result, Ok, Err, if◌then◌else◌}
use Rattle.std.specs.Option.{option_map}
use Rattle.stack_accept.specs.Mount.{Mount}
use Rattle.script_meaning.specs.declared.store.StoreKey.{StoreKey}
use Rattle.script_meaning.specs.Stack.{disk_name, file_name}
use Rattle.spr_io.specs.Content.{Content, all_kept}
use Rattle.spr_io.specs.Berth.{Berth, BaySeen, Lies, taken, given, lost, SameElsewhere}
use Rattle.disk_format.specs.declared.shape.ImageShape.{ImageShape}
use Rattle.disk_format.specs.declared.image.Image.{Image}
use Rattle.disk_format.specs.declared.why.BadImage.{BadImage}
use Rattle.disk_format.specs.VersionOne.{image_in}
use Rattle.disk_format.specs.Image.{front_of}
use Rattle.disk_layer.specs.Disk.{is_blank}
use Rattle.file_stores.specs.Keys.{EachAt, image_shape, berth_of, SameOthers}
use Rattle.file_stores.specs.State.{StoreState, RoseBy}
use Rattle.image_looks.specs.declared.found.Found.{Found}
use Rattle.image_looks.specs.declared.found.Found.TheVariants as finds
use Rattle.image_looks.specs.declared.found.Look.{Look}

-- what blocks are: an image; or none, and blank; or none, for the first reason at its place
abbrev pub found_by : Result Image BadImage → Bool → Found
found_by (Ok image) blank = finds.Image image.generation
found_by (Err bad) true = finds.Blank
found_by (Err bad) false = finds.NoImage bad.place bad.why

abbrev pub found_on : ImageShape → List (List ℕ) → Found
found_on shape blocks = found_by (image_in shape (front_of shape blocks)) (is_blank blocks)

-- what is found by what lies there: nothing, or blocks
abbrev pub found_in : ImageShape → Option Content → Found
found_in shape None = finds.Missing
found_in shape (Some c) = found_on shape c.blocks

-- this is found, if the berth tells what lies there
abbrev pub Tells : ImageShape → Berth → Found → Type 0
Tells shape b found = IfSome b.holds (λ held. found ≡ found_in shape held)

-- the store that lies there can be taken
pub record LayThere (b : Berth) : Type 0 where
  pub was_in : b.out ≡ false
  pub lies : Lies b.holds true

-- the berth once its store was taken and came back with this count of faults: what it holds is as it was, all of it kept
abbrev pub came_back : ℕ → Berth → Berth
came_back faults b = record { holds = option_map {T = Option Content} (λ held. option_map {T = Content} all_kept held) b.holds; out = false; faults = faults }

-- What was found under a name, by what its berth was before and is after. Nothing was written, and nothing was made.
abbrev pub IsLook : ImageShape → Berth → Berth → Found → Type 0
IsLook shape b a finds.Missing = Tells shape b finds.Missing × (a ≡ b)
IsLook shape b a finds.NotTaken = a ≡ b
IsLook shape b a finds.Lost = LayThere b × ((faults : ℕ) × (b.faults ≤ faults) × (a ≡ lost faults (taken b)))
IsLook shape b a (finds.Failed count) = LayThere b × (b.faults < count) × (a ≡ came_back count b)
IsLook shape b a finds.Memory = (a ≡ b) ⊎ (LayThere b × (a ≡ came_back b.faults b))
IsLook shape b a found = LayThere b × Tells shape b found × (a ≡ came_back b.faults b)

-- whether the bay refused to give the store, or to take it back
abbrev pub is_refused : Found → Bool
is_refused finds.NotTaken = true
is_refused finds.Lost = true
is_refused found = false

-- whether the bay refused to take the store back
abbrev pub is_lost : Found → Bool
is_lost finds.Lost = true
is_lost found = false

-- whether memory ran out
abbrev pub lacks_memory : Found → Bool
lacks_memory finds.Memory = true
lacks_memory found = false

-- a store was looked at; the bay had a fault if it refused, and no other berth changed
pub record Looked (mount : Mount) (before after : BaySeen) (look : Look) : Type 0 where
  pub is : IsLook (image_shape mount look.store) (berth_of mount look.store before.berths) (berth_of mount look.store after.berths) look.found
  pub paid : RoseBy (if is_refused look.found then 1 else 0) before.faults after.faults
  pub others : SameElsewhere (disk_name mount look.store.disk) (file_name mount look.store.file) before.berths after.berths

-- which stores were looked at
abbrev pub stores_at : List Look → List StoreKey
stores_at looks = map (λ look. look.store) looks

-- stores were looked at; the bay had a fault for each that it refused, and no other berth changed
pub record AreLooks (mount : Mount) (before after : BaySeen) (looks : List Look) : Type 0 where
  pub each : EachAt (λ at look. IsLook (image_shape mount look.store) (berth_of mount look.store before.berths) (berth_of mount look.store after.berths) look.found) looks
  pub paid : RoseBy (length (filter (λ look. is_refused look.found) looks)) before.faults after.faults
  pub others : SameOthers mount (stores_at looks) before.berths after.berths

-- what a store's blocks were found to be, by a reading of them; it is as it was
abbrev pub IsReadAs : (List (List ℕ) → Found) → StoreState → StoreState → Found → Type 0
IsReadAs reading old new found = IfSome old.content (λ c. found ≡ reading c.blocks) × (new ≡ old)

-- what was found on a store by a reading of its blocks; it is as it was, but for its count if it failed
abbrev pub Finds : (List (List ℕ) → Found) → StoreState → StoreState → Found → Type 0
Finds reading old new (finds.Failed count) = (old.faults < count) × (new ≡ record { content = old.content; faults = count })
Finds reading old new finds.Memory = new ≡ old
Finds reading old new (finds.Image generation) = IsReadAs reading old new (finds.Image generation)
Finds reading old new finds.Blank = IsReadAs reading old new finds.Blank
Finds reading old new (finds.NoImage place why) = IsReadAs reading old new (finds.NoImage place why)
Finds reading old new found = ⊥

-- a store that was taken was looked at and given back, or is lost
abbrev pub CameBack : ImageShape → StoreState → Berth → Berth → Found → Type 0
CameBack shape old out after finds.Lost = (new : StoreState) × (old.faults ≤ new.faults) × (after ≡ lost new.faults out)
CameBack shape old out after found = (new : StoreState) × Finds (found_on shape) old new found × (after ≡ given new.content new.faults out)
