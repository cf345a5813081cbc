-- An exchange of a node and the ground, which has no table, and what it makes of the ground's pages.
use Rattle.std.specs.Prelude.{◌≡◌, ◌⊎◌, ◌<◌, ℕ, List, length, slice_get, Option, Some, None, IfSome, Result, Ok, Err}
use Rattle.tower_core.specs.declared.right.Right.{Right}
use Rattle.tower_core.specs.Column.{updated}
use Rattle.layer_laws.specs.Side.{brought}
use Rattle.page_ground.specs.Seen.{Seen, IsCalm, IsFault, Keeps, ReadsPage, with_page}
use Rattle.page_messages.specs.declared.kinds.Asked.{Asked}
use Rattle.page_messages.specs.Carried.{asked_down}
use Rattle.page_messages.specs.Rights.{IsForPage, asked_right}
use Rattle.page_messages.specs.Written.{asked_by}
use Rattle.coherency_layer.specs.Node.{about_asked}
use Rattle.page_exchange.specs.declared.table.Table.{Table}
use Rattle.page_exchange.specs.Table.{file_of, side, uses_asked, uses_of}
use Rattle.page_exchange.specs.declared.ground.GroundErr.{GroundErr}
use Rattle.page_exchange.specs.declared.ground.GroundErr.TheVariants as errors
use Rattle.page_exchange.specs.Exchange.{IsOwnChange, LacksCopy}
use Rattle.page_exchange.specs.Wire.{WentOver, WireSeen}

-- the ground has the pages of the node's file
pub record IsUnder (ground : Seen) (table : Table) : Type 0 where
  pub size : ground.page_size ≡ (file_of table).page_size
  pub number : ground.number ≡ (file_of table).pages

-- the pages after bytes came up about one of them, or none
abbrev pub pages_given : ℕ → Option (List ℕ) → Option (List (List ℕ)) → Option (List (List ℕ))
pages_given page None pages = pages
pages_given page (Some bytes) pages = with_page page bytes pages

-- where the ground tells its pages, they are these
abbrev pub Tells : Option (List (List ℕ)) → (ℕ → List ℕ) → Type 0
Tells pages base = IfSome pages (λ ps. (page : ℕ) → page < length ps → slice_get ps page ≡ Some (base page))

-- the pages after these bytes came up about one of them, or none
abbrev pub base_given : ℕ → Option (List ℕ) → (ℕ → List ℕ) → ℕ → List ℕ
base_given page up base = updated base page (brought up (base page))

-- the ground was not called, or by one call
abbrev pub IsOneCall : Seen → Seen → Type 0
IsOneCall before after = (after ≡ before) ⊎ Keeps before after

-- the ground was not called, or on a disk that is still live no fault happened in the call
abbrev pub IsCalmCall : Seen → Seen → Type 0
IsCalmCall before after = (after ≡ before) ⊎ IsCalm before after

-- a node that has nothing of a page, and asks for it, gets the ground's bytes
abbrev pub IsOfGround : Option (List (List ℕ)) → Table → Asked → ℕ → List ℕ → Type 0
IsOfGround pages table what page bytes = IsForPage what → (side table page).right ≡ Right.Nothing → ReadsPage pages page bytes

-- the ground's answer, where the page has these bytes: the frames that went, and the node's own table after it
pub record IsAnswered (pages : Option (List (List ℕ))) (wire : WireSeen) (old new : Table) (what : Asked) (page : ℕ) : Type 0 where
  pub bytes : List ℕ
  pub read : IsOfGround pages old what page bytes
  pub frames : WentOver wire (file_of old) (asked_by (side old page) bytes page what)
  pub change : IsOwnChange old new (about_asked what page) (asked_right what) (asked_down (side old page).right bytes what) (uses_asked what page (uses_of old))

-- when each error comes
abbrev pub IsWhy : Seen → Seen → Table → ℕ → GroundErr → Type 0
IsWhy before after table page (errors.Store fault) = IsFault before after fault
IsWhy before after table page errors.Memory = LacksCopy table page

-- it holds unless a store failed
abbrev pub UnlessFault : {A : Type 0} → Result A GroundErr → Type 0 → Type 0
UnlessFault {A = A} (Ok answer) P = P
UnlessFault {A = A} (Err (errors.Store fault)) P = Unit {0}
UnlessFault {A = A} (Err errors.Memory) P = P
