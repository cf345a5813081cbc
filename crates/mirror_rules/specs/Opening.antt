-- Opening a ground: one disk wins, every other that has an image joins it, and then the blank ones are made.
use Rattle.std.specs.Prelude.{◌≡◌, ◌≢◌, ℕ, zero, suc, ◌+◌, ◌<◌, ◌≤◌, Bool, true, false, not, ◌||◌, eqb, List, [], ◌∷◌, length, get_or, Some, None}
use Rattle.mirror_rules.specs.Tree.{Image, Cell, Store, Why, Blank, Bad, Down, Seat, In, Out, Tree, Leaf, Coherent, Mirror, seats, lives, owes, closed}
use Rattle.mirror_rules.specs.Claims.{Every, Has, Nth}
use Rattle.mirror_rules.specs.Steps.{Raise, Flush, Says, Done, Fault, faulted, headed, kept_now, written, Refuses, Look}

abbrev pub opened : Store → Image → Cell
opened s i = record { disk = s.disk; now = i; kept = s.kept; faults = s.faults }

-- what a disk's opening finds: an image, and the disk is good; zeros in block 0, and it is blank; other blocks that are no image,
-- and it is bad; or a refusal, and it is down
pub data Meets : Store → Seat → Type 0 where
  meets_good : {s : Store} {i : Image} → s.image ≡ Some i → Meets s (In false (opened s i))
  meets_blank : {s : Store} → s.image ≡ None → s.blank ≡ true → Meets s (Out Blank s)
  meets_bad : {s : Store} → s.image ≡ None → s.blank ≡ false → Meets s (Out Bad s)
  meets_down : {s t : Store} → t.disk ≡ s.disk → t.image ≡ s.image → s.faults < t.faults → Meets s (Out Down t)

-- a good disk has at most this generation
pub data AtMost (g : ℕ) : Seat → Type 0 where
  most_in : {b : Bool} {c : Cell} → c.now.generation ≤ g → AtMost g (In b c)
  most_out : {b : Why} {s : Store} → AtMost g (Out b s)

-- the leftmost good disk of the greatest generation, of image w, becomes live
pub data Wins (w : Image) : List Seat → List Seat → Type 0 where
  wins_here : {c : Cell} {xs : List Seat} → c.now ≡ w → Every (AtMost w.generation) xs → Wins w (In false c ∷ xs) (In true c ∷ xs)
  wins_later : {c : Cell} {xs ys : List Seat} → c.now.generation < w.generation → Wins w xs ys → Wins w (In false c ∷ xs) (In false c ∷ ys)
  wins_out : {b : Why} {s : Store} {xs ys : List Seat} → Wins w xs ys → Wins w (Out b s ∷ xs) (Out b s ∷ ys)

-- the disk at one place, x, becomes y
pub data Only (x y : Seat) : ℕ → List Seat → List Seat → Type 0 where
  only_here : {xs : List Seat} → Only x y zero (x ∷ xs) (y ∷ xs)
  only_later : {n : ℕ} {z : Seat} {xs ys : List Seat} → Only x y n xs ys → Only x y (suc n) (z ∷ xs) (z ∷ ys)

-- flushed, and the generation written and flushed
abbrev pub settled : ℕ → Cell → Cell
settled g c = kept_now (headed g (kept_now c))

-- the disk at the place i gets n pages of a ground of the generation g, from p on; `even` if it has that generation and no page
-- differed so far, `wrote` if its image has changed. `told` if each disk tells what it holds; of others nothing is said of pages.
-- Done true: it is live; Done false: it is left out; a fault: the ground's
pub data Copies (told : Bool) (g i : ℕ) : (even : Bool) (n p : ℕ) → List Seat → Says → (wrote : Bool) → List Seat → Type 0 where
  copy_same : {e w : Bool} {n p : ℕ} {x : List ℕ} {c : Cell} {s : Says} {xs ys zs : List Seat} → Look p x xs (Done true) ys → Nth i ys (In false c) → (told ≡ true → get_or c.now.pages p [] ≡ x)
      → Copies told g i e n (p + 1) ys s w zs → Copies told g i e (suc n) p xs s w zs
  copy_differs : {e w : Bool} {n p : ℕ} {x z : List ℕ} {c : Cell} {s : Says} {xs ys zs us : List Seat} → Look p x xs (Done true) ys → (told ≡ true → get_or c.now.pages p [] ≢ x) → (told ≡ true → z ≡ x)
      → Only (In false c) (In false (written p z c)) i ys zs → Copies told g i false n (p + 1) zs s w us → Copies told g i e (suc n) p xs s true us
  -- it refuses the read or the write
  copy_left : {e : Bool} {n p m : ℕ} {x : List ℕ} {c : Cell} {xs ys zs : List Seat} → Look p x xs (Done true) ys → c.faults < m → Only (In false c) (In false (faulted m c)) i ys zs → Copies told g i e (suc n) p xs (Done false) false zs
  copy_gone : {e : Bool} {n p d k : ℕ} {x : List ℕ} {xs ys : List Seat} → Look p x xs (Fault d k) ys → Copies told g i e (suc n) p xs (Fault d k) false ys
  copy_even : {p : ℕ} {c : Cell} {xs ys : List Seat} → Only (In false c) (In true c) i xs ys → Copies told g i true zero p xs (Done true) false ys
  copy_settled : {p : ℕ} {c : Cell} {xs ys : List Seat} → Only (In false c) (In true (settled g c)) i xs ys → Copies told g i false zero p xs (Done true) true ys
  copy_unflushed : {p : ℕ} {c d : Cell} {xs ys : List Seat} → Refuses Flush c d → Only (In false c) (In false d) i xs ys → Copies told g i false zero p xs (Done false) false ys
  copy_unraised : {p : ℕ} {same : Bool} {c d : Cell} {xs ys : List Seat} → Refuses (Raise g) (kept_now c) d → eqb d.now.generation c.now.generation ≡ same → Only (In false c) (In false d) i xs ys
      → Copies told g i false zero p xs (Done false) (not same) ys

-- the winner, or a disk that is not good
pub data Passed : Seat → Type 0 where
  passed_live : {c : Cell} → Passed (In true c)
  passed_out : {b : Why} {s : Store} → Passed (Out b s)

-- the other good disks join a ground of the generation g, at m places from i on
pub data Enters (told : Bool) (g n : ℕ) : (i m : ℕ) → List Seat → Says → (wrote : Bool) → List Seat → Type 0 where
  enter_end : {i : ℕ} {xs : List Seat} → Enters told g n i zero xs (Done true) false xs
  enter_next : {i m : ℕ} {w : Bool} {x : Seat} {s : Says} {xs ys : List Seat} → Nth i xs x → Passed x → Enters told g n (i + 1) m xs s w ys → Enters told g n i (suc m) xs s w ys
  enter_joins : {i m : ℕ} {e v w z : Bool} {c : Cell} {s : Says} {xs ys zs : List Seat} → Nth i xs (In false c) → eqb c.now.generation g ≡ e → Copies told g i e n 0 xs (Done v) z ys
      → Enters told g n (i + 1) m ys s w zs → Enters told g n i (suc m) xs s (z || w) zs
  enter_gone : {i m d k : ℕ} {e w : Bool} {c : Cell} {xs ys : List Seat} → Nth i xs (In false c) → eqb c.now.generation g ≡ e → Copies told g i e n 0 xs (Fault d k) w ys → Enters told g n i (suc m) xs (Fault d k) w ys

-- n pages of the ground are read, from p on: these
pub data Fills : (n p : ℕ) → List Seat → Says → List (List ℕ) → List Seat → Type 0 where
  fill_end : {p : ℕ} {xs : List Seat} → Fills zero p xs (Done true) [] xs
  fill_next : {n p : ℕ} {x : List ℕ} {s : Says} {F : List (List ℕ)} {xs ys zs : List Seat} → Look p x xs (Done true) ys → Fills n (p + 1) ys s F zs → Fills (suc n) p xs s (x ∷ F) zs
  fill_gone : {n p d k : ℕ} {x : List ℕ} {xs ys : List Seat} → Look p x xs (Fault d k) ys → Fills (suc n) p xs (Fault d k) [] ys

abbrev pub made_image : ℕ → List (List ℕ) → Image
made_image g F = record { generation = g; pages = F }

-- a disk that was made: its header came last, and everything is kept
abbrev pub made : ℕ → List (List ℕ) → Store → Cell
made g F b = record { disk = b.disk; now = made_image g F; kept = Some (made_image g F); faults = b.faults }

-- a blank disk is made to this cell, which is the one above if the disk tells what it holds
pub record Makes (told : Bool) (g : ℕ) (F : List (List ℕ)) (b : Store) (c : Cell) : Type 0 where
  pub disk : c.disk ≡ b.disk
  pub generation : c.now.generation ≡ g
  pub faults : c.faults ≡ b.faults
  pub cell : told ≡ true → c ≡ made g F b

-- a disk that refused a call of its making: it is blank still, since its header is the last thing that it gets; or it refused the
-- flush behind the header, and has all n pages
pub data Unmade (told : Bool) (n g : ℕ) (F : List (List ℕ)) (s t : Store) : Type 0 where
  unmade_blank : t.disk ≡ s.disk → s.faults < t.faults → t.image ≡ None → t.blank ≡ true → Unmade told n g F s t
  unmade_whole : t.disk ≡ s.disk → s.faults < t.faults → length F ≡ n → (told ≡ true → t.image ≡ Some (made_image g F)) → Unmade told n g F s t

-- a disk whose making was broken off by a refusal of the ground: blank still
pub data Begun (s t : Store) : Type 0 where
  begun : t.disk ≡ s.disk → t.faults ≡ s.faults → t.image ≡ None → t.blank ≡ true → Begun s t

pub data NotBlank : Seat → Type 0 where
  filled_in : {b : Bool} {c : Cell} → NotBlank (In b c)
  filled_bad : {s : Store} → NotBlank (Out Bad s)
  filled_down : {s : Store} → NotBlank (Out Down s)

-- the blank disks are made beside a ground of the generation g, at m places from i on. A bad one is left as it is: it may be an
-- image that can be mended
pub data Renews (told : Bool) (g n : ℕ) : (i m : ℕ) → List Seat → Says → List Seat → Type 0 where
  renew_end : {i : ℕ} {xs : List Seat} → Renews told g n i zero xs (Done true) xs
  renew_next : {i m : ℕ} {x : Seat} {s : Says} {xs ys : List Seat} → Nth i xs x → NotBlank x → Renews told g n (i + 1) m xs s ys → Renews told g n i (suc m) xs s ys
  renew_made : {i m : ℕ} {b : Store} {c : Cell} {F : List (List ℕ)} {s : Says} {xs ys zs us : List Seat} → Fills n 0 xs (Done true) F ys → Makes told g F b c → Only (Out Blank b) (In true c) i ys zs
      → Renews told g n (i + 1) m zs s us → Renews told g n i (suc m) xs s us
  -- it refused a call, once k pages of the ground were read
  renew_left : {i m k : ℕ} {b t : Store} {F : List (List ℕ)} {s : Says} {xs ys zs us : List Seat} → k ≤ n → Fills k 0 xs (Done true) F ys → Unmade told n g F b t → Only (Out Blank b) (Out Down t) i ys zs
      → Renews told g n (i + 1) m zs s us → Renews told g n i (suc m) xs s us
  renew_gone : {i m d k : ℕ} {b t : Store} {F : List (List ℕ)} {xs ys zs : List Seat} → Fills n 0 xs (Fault d k) F ys → Begun b t → Only (Out Blank b) (Out Blank t) i ys zs → Renews told g n i (suc m) xs (Fault d k) zs

-- every disk is live, but those that were found bad
abbrev pub all_but_bad : List Seat → Bool
all_but_bad [] = true
all_but_bad (In true c ∷ xs) = all_but_bad xs
all_but_bad (In false c ∷ xs) = false
all_but_bad (Out Bad s ∷ xs) = all_but_bad xs
all_but_bad (Out Blank s ∷ xs) = false
all_but_bad (Out Down s ∷ xs) = false

pub data Outcome : Type 0 where
  -- whether a raise is owed, and the ground's generation
  Good : (owed : Bool) (generation : ℕ) → Outcome
  -- the BadImage of this disk
  BadImage : (disk : ℕ) → Outcome
  Lost : (disk count : ℕ) → Outcome

-- no disk is good
pub data NotGood : Seat → Type 0 where
  not_good : {b : Why} {s : Store} → NotGood (Out b s)

-- blocks that are no image
pub data IsBad : Seat → Type 0 where
  is_blank : {s : Store} → IsBad (Out Blank s)
  is_bad : {s : Store} → IsBad (Out Bad s)

-- the last one that is down
pub data LastDown (d k : ℕ) : List Seat → Type 0 where
  last_here : {s : Store} {xs : List Seat} → s.disk ≡ d → s.faults ≡ k → Every IsBad xs → LastDown d k (Out Down s ∷ xs)
  last_later : {x : Seat} {xs : List Seat} → LastDown d k xs → LastDown d k (x ∷ xs)

-- a good disk of the generation g
pub data IsGoodAt (g : ℕ) : Seat → Type 0 where
  good_at : {b : Bool} {c : Cell} → c.now.generation ≡ g → IsGoodAt g (In b c)

-- the winner gives way: the disks as they were found, at the refusal, and from then on. No image has changed; a disk that refused
-- a call, as the winner did, counts as down from then on
pub data GivesWay : List Seat → List Seat → List Seat → Type 0 where
  way_none : GivesWay [] [] []
  way_out : {b : Why} {s : Store} {xs ys zs : List Seat} → GivesWay xs ys zs → GivesWay (Out b s ∷ xs) (Out b s ∷ ys) (Out b s ∷ zs)
  way_waits : {c : Cell} {xs ys zs : List Seat} → GivesWay xs ys zs → GivesWay (In false c ∷ xs) (In false c ∷ ys) (In false c ∷ zs)
  way_left : {b : Bool} {c d : Cell} {xs ys zs : List Seat} → d.disk ≡ c.disk → d.now ≡ c.now → c.faults < d.faults → GivesWay xs ys zs → GivesWay (In false c ∷ xs) (In b d ∷ ys) (Out Down (closed (In b d)) ∷ zs)

-- a winner that was found with the generation g gives way at a refusal if it alone is live, nothing was written, and another good
-- disk that was not left out has its generation
pub record Yields (g : ℕ) (wrote : Bool) (xs ys zs : List Seat) : Type 0 where
  pub quiet : wrote ≡ false
  pub alone : lives ys ≡ 1
  pub way : GivesWay xs ys zs
  pub other : Has (IsGoodAt g) zs

-- from what the disks' openings found; an image has n pages. Nothing is raised: the ground has the winner's generation
pub data Opens (told : Bool) (n : ℕ) : List Seat → Outcome → List Seat → Type 0 where
  open_down : {xs : List Seat} {d k : ℕ} → Every NotGood xs → LastDown d k xs → Opens told n xs (Lost d k) xs
  open_blank : {s : Store} {xs : List Seat} → Every IsBad xs → Opens told n (Out Blank s ∷ xs) (BadImage s.disk) (Out Blank s ∷ xs)
  open_bad : {s : Store} {xs : List Seat} → Every IsBad xs → Opens told n (Out Bad s ∷ xs) (BadImage s.disk) (Out Bad s ∷ xs)
  open_good : {w : Image} {v : Bool} {xs ys zs us : List Seat} → Wins w xs ys → Enters told w.generation n 0 (length ys) ys (Done true) v zs → Renews told w.generation n 0 (length zs) zs (Done true) us
      → Opens told n xs (Good (owes us w.generation) w.generation) us
  open_gone : {w : Image} {v : Bool} {xs ys zs : List Seat} {d k : ℕ} → Wins w xs ys → Enters told w.generation n 0 (length ys) ys (Fault d k) v zs → ((vs : List Seat) → Yields w.generation v xs zs vs → ⊥) → Opens told n xs (Lost d k) zs
  open_again : {w : Image} {v : Bool} {xs ys zs vs us : List Seat} {d k : ℕ} {o : Outcome} → Wins w xs ys → Enters told w.generation n 0 (length ys) ys (Fault d k) v zs → Yields w.generation v xs zs vs → Opens told n vs o us
      → Opens told n xs o us
  open_unrenewed : {w : Image} {v : Bool} {xs ys zs us : List Seat} {d k : ℕ} → Wins w xs ys → Enters told w.generation n 0 (length ys) ys (Done true) v zs → Renews told w.generation n 0 (length zs) zs (Fault d k) us → Opens told n xs (Lost d k) us

-- a disk as it was found; or as down, where it refused a call in the opening before anything was written
pub data Downed : Seat → Seat → Type 0 where
  downed_not : {x : Seat} → Downed x x
  downed : {c : Cell} {t : Store} → t.disk ≡ c.disk → t.image ≡ Some c.now → c.faults < t.faults → Downed (In false c) (Out Down t)

pub data DownedTree : Tree → Tree → Type 0 where
  downed_leaf : {x y : Seat} → Downed x y → DownedTree (Leaf x) (Leaf y)
  downed_below : {t u : Tree} → DownedTree t u → DownedTree (Coherent t) (Coherent u)
  downed_mirror : {l r m n : Tree} → DownedTree l m → DownedTree r n → DownedTree (Mirror l r) (Mirror m n)

-- which pages and which generation the disks of a tree give; the leaves are as their openings found them
pub data Gives : Tree → ℕ → List (List ℕ) → Type 0 where
  gives_image : {b : Bool} {c : Cell} → Gives (Leaf (In b c)) c.now.generation c.now.pages
  gives_below : {t : Tree} {g : ℕ} {F : List (List ℕ)} → Gives t g F → Gives (Coherent t) g F
  gives_left : {l r : Tree} {g h : ℕ} {F G : List (List ℕ)} → Gives l g F → Gives r h G → h ≤ g → Gives (Mirror l r) g F
  gives_right : {l r : Tree} {g h : ℕ} {F G : List (List ℕ)} → Gives l g F → Gives r h G → g < h → Gives (Mirror l r) h G
  gives_left_alone : {l r : Tree} {g : ℕ} {F : List (List ℕ)} → Gives l g F → Every NotGood (seats r) → Gives (Mirror l r) g F
  gives_right_alone : {l r : Tree} {g : ℕ} {F : List (List ℕ)} → Every NotGood (seats l) → Gives r g F → Gives (Mirror l r) g F
