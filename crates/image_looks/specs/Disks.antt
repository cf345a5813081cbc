-- The lines that tell of the disks of a stack's files, and the status.
use Rattle.std.specs.Prelude.{◌≡◌, ◌⊎◌, ℕ, List, [], ◌∷◌, ◌++◌, codes, map, filter, find, take, nat_lt, Bool, true, false, not, ◌&&◌, ◌||◌, ◌==◌, Option, Some, None}
use Rattle.std.specs.List.{flat_map, list_any}
use Rattle.std.specs.Fmt.{decimal}
use Rattle.text_words.specs.Lines.{line_of}
use Rattle.stack_accept.specs.Mount.{Mount}
use Rattle.stack_accept.specs.Plan.{Plan, OnDisk, OnMirror, OnCoherency, disks_in}
use Rattle.script_meaning.specs.declared.store.StoreKey.{StoreKey}
use Rattle.script_meaning.specs.Stack.{disk_name, file_name}
use Rattle.spr_io.specs.Berth.{BaySeen}
use Rattle.spr_io.specs.Texts.{SinkSeen}
use Rattle.disk_format.specs.Why.{word_of}
use Rattle.spr_report.specs.declared.status.Status.{Status}
use Rattle.spr_report.specs.declared.status.Status.TheVariants as statuses
use Rattle.spr_report.specs.Writing.{Finishes}
use Rattle.file_stores.specs.declared.stop.Stop.TheVariants as stops
use Rattle.file_stores.specs.Keys.{stores_of}
use Rattle.file_stores.specs.Stop.{stop_text}
use Rattle.image_looks.specs.declared.found.Found.{Found}
use Rattle.image_looks.specs.declared.found.Found.TheVariants as finds
use Rattle.image_looks.specs.declared.found.Look.{Look}
use Rattle.image_looks.specs.Found.{AreLooks, is_lost, lacks_memory, stores_at}

-- whether a disk stands in a plan
abbrev pub stands_in : Plan → ℕ → Bool
stands_in plan disk = list_any (λ d. d == disk) (disks_in plan)

-- whether a disk stands left of another: some mirror has it on its left side, and the other on its right
abbrev pub is_left : Plan → ℕ → ℕ → Bool
is_left (OnDisk number) disk other = false
is_left (OnMirror left right) disk other = (stands_in left disk && stands_in right other) || (is_left left disk other || is_left right disk other)
is_left (OnCoherency below) disk other = is_left below disk other

-- whether a look at another disk of the file found an image that a mount takes before this one, of this generation: one of a
-- greater generation, or of the same one on a disk further left
unfoldable pub beats : Plan → StoreKey → ℕ → Look → Bool
beats plan store generation other = (other.store.file == store.file) && by_found other.found where
  by_found : Found → Bool
  by_found (finds.Image its) = nat_lt generation its || ((its == generation) && is_left plan other.store.disk store.disk)
  by_found found = false

-- whether an image of this generation on a store is the one that a mount takes
abbrev pub wins : Plan → List Look → StoreKey → ℕ → Bool
wins plan looks store generation = not (list_any (beats plan store generation) looks)

-- the words for an image
abbrev pub image_words : ℕ → Bool → List (List ℕ)
image_words generation true = codes "generation" ∷ decimal generation ∷ codes "wins" ∷ []
image_words generation false = codes "generation" ∷ decimal generation ∷ []

-- the words for what was found; where memory ran out no line is written
abbrev pub found_words : Mount → List Look → StoreKey → Found → List (List ℕ)
found_words mount looks store (finds.Image generation) = image_words generation (wins mount.ground looks store generation)
found_words mount looks store finds.Missing = codes "missing" ∷ []
found_words mount looks store finds.Blank = codes "blank" ∷ []
found_words mount looks store (finds.NoImage place why) = codes "image" ∷ decimal place ∷ word_of why ∷ []
found_words mount looks store finds.NotTaken = codes "bay" ∷ []
found_words mount looks store finds.Lost = codes "bay" ∷ []
found_words mount looks store (finds.Failed count) = codes "store" ∷ decimal count ∷ []
found_words mount looks store finds.Memory = []

-- the line of a disk of a file
abbrev pub disk_line : Mount → List Look → Look → List ℕ
disk_line mount looks look = line_of (codes "disk" ∷ disk_name mount look.store.disk ∷ file_name mount look.store.file ∷ found_words mount looks look.store look.found)

-- the lines of all
abbrev pub disk_lines : Mount → List Look → List ℕ
disk_lines mount looks = flat_map (disk_line mount looks) looks

-- whether a look found a failure: of the bay, or of the store
abbrev pub has_failed : Look → Bool
has_failed look = by_found look.found where
  by_found : Found → Bool
  by_found finds.NotTaken = true
  by_found finds.Lost = true
  by_found (finds.Failed count) = true
  by_found found = false

-- the status that is due to the first failure, if there is one
abbrev pub failure_status : Option Look → Status
failure_status None = statuses.Good
failure_status (Some look) = by_found look.found where
  by_found : Found → Status
  by_found (finds.Failed count) = statuses.Faulted
  by_found found = statuses.BayFault

abbrev pub looks_status : List Look → Status
looks_status looks = failure_status (find has_failed looks)

-- the stores that are lost
abbrev pub lost_at : List Look → List StoreKey
lost_at looks = map (λ look. look.store) (filter (λ look. is_lost look.found) looks)

-- Each disk of each file was looked at, and the lines say what was found; or memory ran out.
pub data SaysDisks (mount : Mount) (before after : BaySeen) (text : List ℕ) (status : Status) : Type 0 where
  told : (looks : List Look) → AreLooks mount before after looks → stores_at looks ≡ stores_of mount → list_any (λ look. lacks_memory look.found) looks ≡ false → text ≡ disk_lines mount looks → status ≡ looks_status looks
      → SaysDisks mount before after text status
  untold : (looks : List Look) (number : ℕ) → AreLooks mount before after looks → stores_at looks ≡ take number (stores_of mount) → text ≡ stop_text mount stops.Memory (lost_at looks) → status ≡ statuses.Memory
      → SaysDisks mount before after text status

-- it was written that memory ran out
abbrev pub LacksLooks : Mount → List Look → SinkSeen → SinkSeen → Status → Type 0
LacksLooks mount looks before after result = Finishes before after (stop_text mount stops.Memory (lost_at looks)) statuses.Memory result

-- what was found was written, or that memory ran out
abbrev pub TellsLooks : Mount → List Look → SinkSeen → SinkSeen → Status → Type 0
TellsLooks mount looks before after result =
    ((list_any (λ look. lacks_memory look.found) looks ≡ false) × Finishes before after (disk_lines mount looks) (looks_status looks) result) ⊎ LacksLooks mount looks before after result
