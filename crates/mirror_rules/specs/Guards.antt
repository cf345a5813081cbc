-- What a disk shows to a later opening, and which pages the disks guard from one sitting to the next.
use Rattle.std.specs.Prelude.{◌≡◌, ℕ, zero, suc, ◌<◌, ◌⊎◌, Bool, true, false, List, [], ◌∷◌, length, get_or, Some, None}
use Rattle.mirror_rules.specs.Tree.{Image, Cell, Store, Why, Seat, In, Out}
use Rattle.mirror_rules.specs.Claims.{Has, Nth}

-- which bytes page p may have
abbrev pub Admissible : Type 1
Admissible = ℕ → List ℕ → Type 0

abbrev pub Within : Admissible → List (List ℕ) → Type 0
Within A F = (p : ℕ) → p < length F → A p (get_or F p [])

-- A, or x at page p
abbrev pub Or : Admissible → ℕ → List ℕ → Admissible
Or A p x q y = A q y ⊎ ((q ≡ p) × (y ≡ x))

-- a version of page p in one of these histories: V k p is its k-th in the history V
pub data Among (Vs : List (ℕ → ℕ → List ℕ)) (p : ℕ) (x : List ℕ) : Type 0 where
  among : {r : ℕ} {V : ℕ → ℕ → List ℕ} → Nth r Vs V → (k : ℕ) → x ≡ V k p → Among Vs p x

-- exactly these pages
abbrev pub Now : List (List ℕ) → Admissible
Now F p x = x ≡ get_or F p []

-- what a stop leaves of a store: what its disk had written; or that, or what it kept. In the second case nothing is pending at an
-- opening
pub data Medium : Type 0 where
  Direct : Medium
  Caching : Medium

-- nothing is pending
abbrev pub Settled : Medium → Store → Type 0
Settled Direct s = Unit {0}
Settled Caching s = s.kept ≡ s.image

-- what a closed disk shows to the next opening
pub data Stands : Store → Image → Type 0 where
  stands : {s : Store} {i : Image} → s.image ≡ Some i → Stands s i

-- what a disk of a sitting may leave
pub data Shows (v : Medium) : Seat → Image → Type 0 where
  shows_now : {b : Bool} {c : Cell} → Shows v (In b c) c.now
  shows_kept : {b : Bool} {c : Cell} {i : Image} → v ≡ Caching → c.kept ≡ Some i → Shows v (In b c) i
  shows_out : {b : Why} {s : Store} {i : Image} → s.image ≡ Some i → Shows v (Out b s) i

-- the disk at the place d may have this image
pub data At {X : Type 0} (S : X → Image → Type 0) (d : ℕ) (xs : List X) (c : Image) : Type 0 where
  at_place : {x : X} → Nth d xs x → S x c → At S d xs c

-- this image is one of these
abbrev pub IsIn : List Image → Image → Type 0
IsIn is i = Has (λ j. j ≡ i) is

-- each of the images C has pages of A, and is above each image of W that has others
pub record Guards (A : Admissible) (C W : Image → Type 0) : Type 0 where
  pub holds : (c : Image) → C c → Within A c.pages
  pub below : (c b : Image) → C c → W b → Within A b.pages ⊎ (b.generation < c.generation)

-- what stands at the places of L; and what stands anywhere, or in a drawer: an image that a store showed once, and may show again
pub data Placed {X : Type 0} (S : X → Image → Type 0) (L : ℕ → Bool) (xs : List X) (c : Image) : Type 0 where
  placed : {d : ℕ} → L d ≡ true → At S d xs c → Placed S L xs c

pub data Anywhere {X : Type 0} (S : X → Image → Type 0) (past : List Image) (xs : List X) (b : Image) : Type 0 where
  in_drawer : IsIn past b → Anywhere S past xs b
  in_place : {e : ℕ} → At S e xs b → Anywhere S past xs b

-- the disks of L guard the pages A: each has an image, with such pages, and above whatever has others
pub record GuardsAt {X : Type 0} (S : X → Image → Type 0) (A : Admissible) (L : ℕ → Bool) (past : List Image) (xs : List X) : Type 0 where
  pub there : (d : ℕ) → L d ≡ true → (c : Image) × At S d xs c
  pub guards : Guards A (Placed S L xs) (Anywhere S past xs)

-- between sittings, and in one
abbrev pub Guarded : Admissible → (ℕ → Bool) → List Image → List Store → Type 0
Guarded A L past ss = GuardsAt Stands A L past ss

abbrev pub Guarding : Medium → Admissible → (ℕ → Bool) → List Image → List Seat → Type 0
Guarding v A L past xs = GuardsAt (Shows v) A L past xs

-- a closed ground: each disk has the image that it had last, or one that it kept
pub data Leaves (v : Medium) : Seat → Store → Type 0 where
  leaves : {x : Seat} {t : Store} {i : Image} → Shows v x i → t.image ≡ Some i → Leaves v x t
  leaves_none : {b : Why} {s t : Store} → s.image ≡ None → t.image ≡ None → Leaves v (Out b s) t

-- the places of the live disks
abbrev pub live_at : List Seat → ℕ → Bool
live_at [] d = false
live_at (In b c ∷ xs) zero = b
live_at (Out b s ∷ xs) zero = false
live_at (x ∷ xs) (suc d) = live_at xs d

-- an image may be lost between two sittings
pub data Loses (s t : Store) : Type 0 where
  loses_none : t.image ≡ s.image → Loses s t
  loses_image : t.image ≡ None → Loses s t
