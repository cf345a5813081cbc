-- What an opening may do to a disk, at every moment of it.
use Rattle.std.specs.Prelude.{◌≡◌, ℕ, ◌<◌, ◌≤◌, ◌⊎◌, Bool, true, false, List, ◌∷◌, [], length, get_or, Option, Some, None}
use Rattle.mirror_rules.specs.Tree.{Image, Cell, Store, Why, Blank, Bad, Down, Seat, In, Out}
use Rattle.mirror_rules.specs.Claims.{Pairs, Every}
use Rattle.mirror_rules.specs.Guards.{Medium, Caching, Stands, At}
use Rattle.mirror_rules.specs.Opening.{AtMost}

-- as many pages, each of F or of G
pub record Mixed (F G H : List (List ℕ)) : Type 0 where
  pub len : length H ≡ length F
  pub own : length H ≡ length G
  pub each : (p : ℕ) → (get_or H p [] ≡ get_or F p []) ⊎ (get_or H p [] ≡ get_or G p [])

-- an image after what was found, where a winner has the pages F and the generation g: it has its old number, at most g; or all
-- pages are the winner's; or it is of a disk that was made, and whole
pub data Fate (F : List (List ℕ)) (g : ℕ) : Option Image → Image → Type 0 where
  fate_old : {i c : Image} → c.generation ≡ i.generation → i.generation ≤ g → Mixed F i.pages c.pages → Fate F g (Some i) c
  fate_new : {i c : Image} → c.pages ≡ F → i.generation ≤ c.generation → c.generation ≤ g → Fate F g (Some i) c
  fate_made : {c : Image} → c.pages ≡ F → c.generation ≡ g → Fate F g None c

-- the image of an opened disk, and what it keeps, if nothing was pending
pub record Fates (v : Medium) (F : List (List ℕ)) (g : ℕ) (o : Option Image) (c : Cell) : Type 0 where
  pub now : Fate F g o c.now
  pub kept : v ≡ Caching → (i : Image) → c.kept ≡ Some i → Fate F g o i

-- a disk in an opening, after the store that was found
pub data State (v : Medium) (F : List (List ℕ)) (g : ℕ) : Store → Seat → Type 0 where
  state_blank : {s t : Store} → s.image ≡ None → t.image ≡ None → State v F g s (Out Blank t)
  state_bad : {s : Store} → s.image ≡ None → s.blank ≡ false → State v F g s (Out Bad s)
  state_down : {s t : Store} → t.image ≡ s.image → State v F g s (Out Down t)
  state_unmade : {s t : Store} {c : Image} → s.image ≡ None → t.image ≡ Some c → Fate F g None c → State v F g s (Out Down t)
  state_left : {s : Store} {o : Option Image} {c : Cell} → s.image ≡ o → Fates v F g o c → State v F g s (In false c)
  state_live : {s : Store} {o : Option Image} {c : Cell} → s.image ≡ o → Fates v F g o c → c.now.pages ≡ F → c.now.generation ≡ g → (v ≡ Caching → c.kept ≡ Some c.now) → State v F g s (In true c)

-- what an opening leaves of a disk, also one that is refused or stopped: what it has at each moment of it. A bad disk is as it
-- was found
pub data Final (v : Medium) (F : List (List ℕ)) (g : ℕ) : Store → Seat → Type 0 where
  final_bad : {s : Store} → s.image ≡ None → s.blank ≡ false → Final v F g s (Out Bad s)
  final_out : {s t : Store} {b : Why} → t.image ≡ s.image → Final v F g s (Out b t)
  final_made : {s t : Store} {b : Why} {c : Image} → s.image ≡ None → t.image ≡ Some c → Fate F g None c → Final v F g s (Out b t)
  final_in : {s : Store} {o : Option Image} {b : Bool} {c : Cell} → s.image ≡ o → Fates v F g o c → Final v F g s (In b c)

-- so many pages
abbrev pub Sized : ℕ → Store → Type 0
Sized n s = (i : Image) → s.image ≡ Some i → length i.pages ≡ n

abbrev pub faults_of : Seat → ℕ
faults_of (In b c) = c.faults
faults_of (Out b s) = s.faults

-- a disk after an opening: live; or left out, and then its store refused a call in the opening; or it was found bad, and is as it
-- was
pub data Excused (s : Store) : Seat → Type 0 where
  excused_live : {c : Cell} → Excused s (In true c)
  excused_left : {x : Seat} → s.faults < faults_of x → Excused s x
  excused_bad : s.image ≡ None → s.blank ≡ false → Excused s (Out Bad s)

abbrev pub disk_of : Seat → ℕ
disk_of (In b c) = c.disk
disk_of (Out b s) = s.disk

-- a disk of this number refused a call in the opening, and this was its count after that
pub data Blamed (d k : ℕ) : List Store → List Seat → Type 0 where
  blamed_here : {s : Store} {x : Seat} {ss : List Store} {xs : List Seat} → s.disk ≡ d → s.faults < k → k ≤ faults_of x → Blamed d k (s ∷ ss) (x ∷ xs)
  blamed_later : {s : Store} {x : Seat} {ss : List Store} {xs : List Seat} → Blamed d k ss xs → Blamed d k (s ∷ ss) (x ∷ xs)

-- no store refused a call
pub data Calmly (s : Store) : Seat → Type 0 where
  calmly : {x : Seat} → faults_of x ≡ s.faults → Calmly s x

-- an image after an opening, where the ground has the number g: all the winner's pages; or lower than g where it was found lower;
-- or as it was found, level with the ground
pub data Behind (F : List (List ℕ)) (g : ℕ) : Option Image → Image → Type 0 where
  behind_pages : {o : Option Image} {c : Image} → c.pages ≡ F → c.generation ≤ g → Behind F g o c
  behind_lower : {o : Option Image} {c : Image} → c.generation < g → Behind F g o c
  behind_level : {i c : Image} → c.generation ≡ i.generation → i.generation ≡ g → Behind F g (Some i) c

-- a disk as its opening found it, and at any moment of the ground's opening: what was found bad, or refused, stays as it was
pub data Stays : Seat → Seat → Type 0 where
  stays_good : {b : Bool} {c : Cell} {y : Seat} → Stays (In b c) y
  stays_blank : {s : Store} {y : Seat} → Stays (Out Blank s) y
  stays_bad : {s : Store} → Stays (Out Bad s) (Out Bad s)
  stays_down : {s : Store} → Stays (Out Down s) (Out Down s)

-- what becomes of a store whose blocks were bad: it is as it was, or refused its opening and shows nothing
pub data BadKept (s : Store) : Seat → Type 0 where
  kept_bad : BadKept s (Out Bad s)
  kept_down : {t : Store} → t.image ≡ None → s.faults < t.faults → BadKept s (Out Down t)

-- an opening, whether it ended or was stopped: it did nothing; or a disk won, no good disk was above it, and each disk is as said
-- above
pub data OpeningEnd (v : Medium) (ss : List Store) (xs us : List Seat) : Type 0 where
  ended_same : us ≡ xs → OpeningEnd v ss xs us
  ended_won : {w : Image} {e : ℕ} → At Stands e ss w → Every (AtMost w.generation) xs → Pairs Stays xs us → Pairs (Final v w.pages w.generation) ss us → OpeningEnd v ss xs us
