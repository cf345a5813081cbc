-- What an opening makes of each disk, while it is not at its end: words by the disks' places in the
-- tree, from the left. A word counts only if its disk is live at the end.
use Rattle.std.specs.Prelude.{◌≡◌, ◌≢◌, ℕ, ◌+◌, ◌<◌, ◌≤◌, List, [], ◌∷◌, length, get_or, Bool, true, false, Option, Some, None}
use Rattle.mirror_rules.specs.Tree.{Cell, Store, Why, Blank, Bad, Down, Seat, In, Out}
use Rattle.mirror_rules.specs.Claims.{Nth}
use Rattle.mirror_layer.specs.View.{Beside}
use Rattle.mirror_layer.specs.declared.came.Notice.{Notice}
use Rattle.mirror_layer.specs.declared.came.Notice.TheVariants as came

-- the word of a disk that joined, by whether its image changed
abbrev pub joining_word : Bool → Option Notice
joining_word true = Some came.Copied
joining_word false = None

-- the word of a disk whose turn to join has come, by how it stands before it
abbrev pub IsWord : Seat → Bool → Option Notice → Type 0
IsWord (In b c) wrote word = word ≡ joining_word wrote
IsWord (Out Blank s) wrote word = word ≡ Some came.Made
IsWord (Out Bad s) wrote word = Unit {0}
IsWord (Out Down s) wrote word = Unit {0}

-- the image is as it was, and the disk is live if it was
pub data Unmoved : Seat → Seat → Type 0 where
  unmoved_in : {b : Bool} {c d : Cell} → d.now ≡ c.now → Unmoved (In b c) (In b d)
  unmoved_out : {b : Why} {s : Store} → Unmoved (Out b s) (Out b s)

-- how a disk was found, how it stands now, and its word; an image has so many pages
pub data Comes (told : Bool) (pages : ℕ) : Seat → Seat → Option Notice → Type 0 where
  comes_copied : {b : Bool} {c d : Cell} → (told ≡ true → length c.now.pages ≡ pages → d.now ≢ c.now) → Comes told pages (In b c) (In true d) (Some came.Copied)
  comes_level : {b : Bool} {c d : Cell} → d.now ≡ c.now → Comes told pages (In b c) (In true d) None
  comes_left : {x : Seat} {d : Cell} {word : Option Notice} → Comes told pages x (In false d) word
  comes_blank : {s t : Store} → Comes told pages (Out Blank s) (Out Blank t) (Some came.Made)
  comes_made : {s : Store} {d : Cell} → Comes told pages (Out Blank s) (In true d) (Some came.Made)
  comes_bad : {x : Seat} {t : Store} {word : Option Notice} → Comes told pages x (Out Bad t) word
  comes_down : {x : Seat} {t : Store} {word : Option Notice} → Comes told pages x (Out Down t) word

-- the same of all disks
pub record AllCome (told : Bool) (pages : ℕ) (xs ys : List Seat) (words : List (Option Notice)) : Type 0 where
  pub each : (i : ℕ) (x y : Seat) → Nth i xs x → Nth i ys y → Comes told pages x y (get_or words i None)

-- the same of the disks at the places below p; the images of the others are as they were
pub record Coming (told : Bool) (pages p : ℕ) (xs ys : List Seat) (words : List (Option Notice)) : Type 0 where
  pub done : (i : ℕ) (x y : Seat) → i < p → Nth i xs x → Nth i ys y → Comes told pages x y (get_or words i None)
  pub rest : (i : ℕ) (x y : Seat) → p ≤ i → Nth i xs x → Nth i ys y → Unmoved x y

-- what a user is told of a disk at the end of its opening, by how it stands then, and by its word
abbrev pub came_of : Seat → Option Notice → Option Notice
came_of (In true c) word = word
came_of (In false c) word = None
came_of (Out Blank s) word = None
came_of (Out Bad s) word = Some came.Bad
came_of (Out Down s) word = None

-- it stands in the list at the place of the disk's number; the first word is at the place p
pub data Listed (out words : List (Option Notice)) : ℕ → List Beside → List Seat → Type 0 where
  listed_none : {p : ℕ} → Listed out words p [] []
  listed_more : {p : ℕ} {b : Beside} {y : Seat} {bs : List Beside} {ys : List Seat} → get_or out b.disk None ≡ came_of y (get_or words p None) → Listed out words (p + 1) bs ys → Listed out words p (b ∷ bs) (y ∷ ys)
