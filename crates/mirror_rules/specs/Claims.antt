-- What is said of the disks of a row.
use Rattle.std.specs.Prelude.{◌≡◌, ℕ, zero, suc, ◌<◌, ◌≤◌, ◌⊎◌, Bool, true, false, List, [], ◌∷◌, set, Option, Some, None}
use Rattle.mirror_rules.specs.Tree.{Image, Cell, Store, Why, Seat, In, Out}

-- R of each element of a row and the one at its place in another
pub data Pairs {A B : Type 0} (R : A → B → Type 0) : List A → List B → Type 0 where
  pairs_none : Pairs R [] []
  pairs_more : {x : A} {y : B} {xs : List A} {ys : List B} → R x y → Pairs R xs ys → Pairs R (x ∷ xs) (y ∷ ys)

-- P of each element
pub data Every {A : Type 0} (P : A → Type 0) : List A → Type 0 where
  every_none : Every P []
  every_more : {x : A} {xs : List A} → P x → Every P xs → Every P (x ∷ xs)

-- P of one element
pub data Has {A : Type 0} (P : A → Type 0) : List A → Type 0 where
  has_here : {x : A} {xs : List A} → P x → Has P (x ∷ xs)
  has_later : {x : A} {xs : List A} → Has P xs → Has P (x ∷ xs)

-- the element at a place
pub data Nth {A : Type 0} : ℕ → List A → A → Type 0 where
  nth_here : {x : A} {xs : List A} → Nth zero (x ∷ xs) x
  nth_later : {n : ℕ} {x y : A} {xs : List A} → Nth n xs y → Nth (suc n) (x ∷ xs) y

pub data IsLive : Seat → Type 0 where
  live_in : {c : Cell} → IsLive (In true c)

-- each live disk has these pages
pub data HasPages (F : List (List ℕ)) : Seat → Type 0 where
  pages_live : {c : Cell} → c.now.pages ≡ F → HasPages F (In true c)
  pages_left : {c : Cell} → HasPages F (In false c)
  pages_out : {b : Why} {s : Store} → HasPages F (Out b s)

-- the pages of an image that may be
abbrev pub pages_in : Option Image → Option (List (List ℕ))
pages_in None = None
pages_in (Some i) = Some i.pages

-- what raises and flushes do to a disk's pages: the kept ones are as before, or those that it has
pub record Same (c d : Cell) : Type 0 where
  pub disk : d.disk ≡ c.disk
  pub pages : d.now.pages ≡ c.now.pages
  pub kept : (pages_in d.kept ≡ pages_in c.kept) ⊎ (pages_in d.kept ≡ Some c.now.pages)
  pub later : c.faults ≤ d.faults

-- a disk in a raise or a flush, from its start to its end; `flushed` where that was taken, `failed` where it was refused
pub data Keeps (flushed failed : Bool) : Seat → Seat → Type 0 where
  keeps_out : {b : Why} {s : Store} → Keeps flushed failed (Out b s) (Out b s)
  keeps_left : {c : Cell} → Keeps flushed failed (In false c) (In false c)
  keeps_live : {c d : Cell} → Same c d → (flushed ≡ true → d.kept ≡ Some d.now) → (failed ≡ true → c.faults < d.faults) → Keeps flushed failed (In true c) (In true d)
  keeps_lost : {c d : Cell} → Same c d → c.faults < d.faults → Keeps flushed failed (In true c) (In false d)

-- a disk in a write
pub data Writes (p : ℕ) (x : List ℕ) (taken : Bool) : Seat → Seat → Type 0 where
  writes_out : {b : Why} {s : Store} → Writes p x taken (Out b s) (Out b s)
  writes_left : {c : Cell} → Writes p x taken (In false c) (In false c)
  writes_taken : {c d : Cell} → d.now.generation ≡ c.now.generation → d.now.pages ≡ set c.now.pages p x → d.kept ≡ c.kept → taken ≡ true → d.faults ≡ c.faults → Writes p x taken (In true c) (In true d)
  writes_lost : {c d : Cell} → d.now ≡ c.now → d.kept ≡ c.kept → taken ≡ true → c.faults < d.faults → Writes p x taken (In true c) (In false d)
  writes_none : {c d : Cell} → d.now ≡ c.now → d.kept ≡ c.kept → taken ≡ false → c.faults < d.faults → Writes p x taken (In true c) (In true d)

-- the kept pages of a disk that is live then are as before, or F
pub data KeptOf (F : List (List ℕ)) : Seat → Seat → Type 0 where
  kept_live : {c d : Cell} → (pages_in d.kept ≡ pages_in c.kept) ⊎ (pages_in d.kept ≡ Some F) → KeptOf F (In true c) (In true d)
  kept_left : {x : Seat} {d : Cell} → KeptOf F x (In false d)
  kept_out : {x : Seat} {b : Why} {s : Store} → KeptOf F x (Out b s)

-- each live disk keeps these pages
pub data KeepsPages (F : List (List ℕ)) : Seat → Type 0 where
  keeping_live : {c : Cell} → pages_in c.kept ≡ Some F → KeepsPages F (In true c)
  keeping_left : {c : Cell} → KeepsPages F (In false c)
  keeping_out : {b : Why} {s : Store} → KeepsPages F (Out b s)

-- opened stays opened, and what is not stays as it is
pub data Kind : Seat → Seat → Type 0 where
  kind_in : {a b : Bool} {c d : Cell} → Kind (In a c) (In b d)
  kind_out : {b : Why} {s : Store} → Kind (Out b s) (Out b s)

-- each live disk's count rose
pub data Rose : Seat → Seat → Type 0 where
  rose_live : {b : Bool} {c d : Cell} → c.faults < d.faults → Rose (In true c) (In b d)
  rose_left : {c : Cell} → Rose (In false c) (In false c)
  rose_out : {b : Why} {s : Store} → Rose (Out b s) (Out b s)
