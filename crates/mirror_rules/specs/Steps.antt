-- The calls of a ground as rules: each rule is one outcome of the stores.
use Rattle.std.specs.Prelude.{◌≡◌, ℕ, ◌<◌, ◌≤◌, Bool, true, false, ◌&&◌, List, [], ◌∷◌, set, get_or, Some}
use Rattle.mirror_rules.specs.Tree.{Cell, Store, Why, Seat, In, Out, Tree, Leaf, Coherent, Mirror, is_live, stale, next, lives}
use Rattle.mirror_rules.specs.Claims.{Pairs, Has, IsLive}

pub data Act : Type 0 where
  Write : (p : ℕ) (x : List ℕ) → Act
  -- writes a generation and flushes
  Raise : (g : ℕ) → Act
  Flush : Act

-- a side took it, and whether no side became stale by it; or the fault of the disk that was asked last, with its count then
pub data Says : Type 0 where
  Done : (whole : Bool) → Says
  Fault : (disk count : ℕ) → Says

abbrev pub is_done : Says → Bool
is_done (Done w) = true
is_done (Fault d n) = false

abbrev pub is_fault : Says → Bool
is_fault (Done w) = false
is_fault (Fault d n) = true

-- another count of faults; and what else a call leaves
abbrev pub faulted : ℕ → Cell → Cell
faulted n c = record c { faults = n }

abbrev pub headed : ℕ → Cell → Cell
headed g c = record c { now = record c.now { generation = g } }

abbrev pub kept_now : Cell → Cell
kept_now c = record c { kept = Some c.now }

abbrev pub written : ℕ → List ℕ → Cell → Cell
written p x c = record c { now = record c.now { pages = set c.now.pages p x } }

pub data Takes : Act → Cell → Cell → Type 0 where
  write_taken : {p : ℕ} {x : List ℕ} {c : Cell} → Takes (Write p x) c (written p x c)
  raise_taken : {g : ℕ} {c : Cell} → Takes (Raise g) c (kept_now (headed g c))
  flush_taken : {c : Cell} → Takes Flush c (kept_now c)

-- a refused call leaves all but the count of faults, which rises; or a refused raise leaves the number; or a refused raise or
-- flush was done all the same
pub data Refuses : Act → Cell → Cell → Type 0 where
  refused : {a : Act} {n : ℕ} {c : Cell} → c.faults < n → Refuses a c (faulted n c)
  raise_unkept : {g n : ℕ} {c : Cell} → c.faults < n → Refuses (Raise g) c (faulted n (headed g c))
  raise_kept : {g n : ℕ} {c : Cell} → c.faults < n → Refuses (Raise g) c (faulted n (kept_now (headed g c)))
  flush_kept : {n : ℕ} {c : Cell} → c.faults < n → Refuses Flush c (faulted n (kept_now c))

-- a round of a write, a raise or a flush over the tree
pub data Passes (a : Act) : Tree → Says → Tree → Type 0 where
  pass_taken : {c d : Cell} → Takes a c d → Passes a (Leaf (In true c)) (Done true) (Leaf (In true d))
  pass_refused : {c d : Cell} → Refuses a c d → Passes a (Leaf (In true c)) (Fault c.disk d.faults) (Leaf (In true d))
  pass_below : {t u : Tree} {s : Says} → Passes a t s u → Passes a (Coherent t) s (Coherent u)
  pass_both : {l r m n : Tree} {v w : Bool} → Passes a l (Done v) m → Passes a r (Done w) n → Passes a (Mirror l r) (Done (v && w)) (Mirror m n)
  pass_left : {l r m n : Tree} {v : Bool} {d j : ℕ} → Passes a l (Done v) m → Passes a r (Fault d j) n → Passes a (Mirror l r) (Done false) (Mirror m (stale n))
  pass_right : {l r m n : Tree} {w : Bool} {d j : ℕ} → Passes a l (Fault d j) m → Passes a r (Done w) n → Passes a (Mirror l r) (Done false) (Mirror (stale m) n)
  pass_none : {l r m n : Tree} {d j e i : ℕ} → Passes a l (Fault d j) m → Passes a r (Fault e i) n → Passes a (Mirror l r) (Fault e i) (Mirror m n)
  pass_left_only : {l r m : Tree} {s : Says} → is_live r ≡ false → Passes a l s m → Passes a (Mirror l r) s (Mirror m r)
  pass_right_only : {l r n : Tree} {s : Says} → is_live l ≡ false → Passes a r s n → Passes a (Mirror l r) s (Mirror l n)

-- a read of page p that gives x
pub data Reads (p : ℕ) (x : List ℕ) : Tree → Says → Tree → Type 0 where
  read_taken : {c : Cell} → get_or c.now.pages p [] ≡ x → Reads p x (Leaf (In true c)) (Done true) (Leaf (In true c))
  read_refused : {c : Cell} {n : ℕ} → c.faults < n → Reads p x (Leaf (In true c)) (Fault c.disk n) (Leaf (In true (faulted n c)))
  read_below : {t u : Tree} {s : Says} → Reads p x t s u → Reads p x (Coherent t) s (Coherent u)
  read_left : {l r m : Tree} → Reads p x l (Done true) m → Reads p x (Mirror l r) (Done true) (Mirror m r)
  read_right : {l r m n : Tree} {d j : ℕ} {s : Says} → Reads p x l (Fault d j) m → Reads p x r s n → Reads p x (Mirror l r) s (Mirror m n)
  read_left_only : {l r m : Tree} {d j : ℕ} → is_live r ≡ false → Reads p x l (Fault d j) m → Reads p x (Mirror l r) (Fault d j) (Mirror m r)
  read_right_only : {l r n : Tree} {s : Says} → is_live l ≡ false → Reads p x r s n → Reads p x (Mirror l r) s (Mirror l n)

-- the same of disks in a row: a disk in a round, before and after
pub data Asked (a : Act) : Says → Seat → Seat → Type 0 where
  asked_out : {s : Says} {b : Why} {t : Store} → Asked a s (Out b t) (Out b t)
  asked_stale : {s : Says} {c : Cell} → Asked a s (In false c) (In false c)
  asked_took : {w : Bool} {c d : Cell} → Takes a c d → Asked a (Done w) (In true c) (In true d)
  asked_lost : {c d : Cell} → Refuses a c d → Asked a (Done false) (In true c) (In false d)
  asked_none : {e n : ℕ} {c d : Cell} → Refuses a c d → Asked a (Fault e n) (In true c) (In true d)

-- a disk in a read
pub data Looked (s : Says) : Seat → Seat → Type 0 where
  looked_out : {b : Why} {t : Store} → Looked s (Out b t) (Out b t)
  looked_stale : {c : Cell} → Looked s (In false c) (In false c)
  looked_same : {c : Cell} → (s ≡ Done true) → Looked s (In true c) (In true c)
  looked_refused : {c : Cell} {n : ℕ} → c.faults < n → Looked s (In true c) (In true (faulted n c))

-- a live disk of this number failed in the call, and has this count since
pub data Named (d n : ℕ) : List Seat → List Seat → Type 0 where
  named_here : {b : Bool} {c e : Cell} {xs ys : List Seat} → c.disk ≡ d → c.faults < n → n ≡ e.faults → Named d n (In true c ∷ xs) (In b e ∷ ys)
  named_later : {x y : Seat} {xs ys : List Seat} → Named d n xs ys → Named d n (x ∷ xs) (y ∷ ys)

abbrev pub Answer : Says → List Seat → List Seat → Type 0
Answer (Done w) xs ys = Has IsLive ys × (w ≡ false → lives ys < lives xs)
Answer (Fault d n) xs ys = Named d n xs ys

pub record Round (a : Act) (xs : List Seat) (s : Says) (ys : List Seat) : Type 0 where
  pub each : Pairs (Asked a s) xs ys
  pub answer : Answer s xs ys

-- a live disk has this page
pub data HasPage (p : ℕ) (x : List ℕ) : Seat → Type 0 where
  page_live : {c : Cell} → get_or c.now.pages p [] ≡ x → HasPage p x (In true c)

abbrev pub Found : ℕ → List ℕ → Says → List Seat → List Seat → Type 0
Found p x (Done w) xs ys = Has (HasPage p x) xs × (w ≡ true)
Found p x (Fault d n) xs ys = Named d n xs ys

pub record Look (p : ℕ) (x : List ℕ) (xs : List Seat) (s : Says) (ys : List Seat) : Type 0 where
  pub each : Pairs (Looked s) xs ys
  pub found : Found p x s xs ys

-- rounds of raises until one makes no side stale. Each round writes one more than the ground's generation, which is that of the
-- last round that was taken: a refused round leaves it, whatever stands on the disks
pub data Raised : ℕ → List Seat → Says → ℕ → List Seat → Type 0 where
  raised_whole : {g : ℕ} {xs ys : List Seat} → Round (Raise (next g)) xs (Done true) ys → Raised g xs (Done true) (next g) ys
  raised_again : {g h : ℕ} {xs ys zs : List Seat} {s : Says} → Round (Raise (next g)) xs (Done false) ys → Raised (next g) ys s h zs → Raised g xs s h zs
  raised_none : {g : ℕ} {xs ys : List Seat} {d n : ℕ} → Round (Raise (next g)) xs (Fault d n) ys → Raised g xs (Fault d n) g ys

-- what is owed is paid: rounds of raises until two of them made no side stale. After one a disk that refused it, or was not asked
-- before the program was stopped, may have the number of the live disks; after two it is below them
pub data Pays : ℕ → List Seat → Says → ℕ → List Seat → Type 0 where
  pays_twice : {g h k : ℕ} {xs ys zs : List Seat} {s : Says} → Raised g xs (Done true) h ys → Raised h ys s k zs → Pays g xs s k zs
  pays_unraised : {g h : ℕ} {xs ys : List Seat} {d n : ℕ} → Raised g xs (Fault d n) h ys → Pays g xs (Fault d n) h ys

-- a flush, from disks with a raise owed or not to such, and from a generation to one. A raise flushes, so a flush that pays has
-- no round of flushes of its own behind it
pub data Flushes : Bool → ℕ → List Seat → Says → Bool → ℕ → List Seat → Type 0 where
  flush_owed : {g h : ℕ} {xs ys : List Seat} {s : Says} → Pays g xs s h ys → Flushes true g xs s (is_fault s) h ys
  flush_even : {g : ℕ} {xs ys : List Seat} → Round Flush xs (Done true) ys → Flushes false g xs (Done true) false g ys
  flush_lost : {g h : ℕ} {xs ys zs : List Seat} {s : Says} → Round Flush xs (Done false) ys → Pays g ys s h zs → Flushes false g xs s (is_fault s) h zs
  flush_none : {g : ℕ} {xs ys : List Seat} {d n : ℕ} → Round Flush xs (Fault d n) ys → Flushes false g xs (Fault d n) false g ys

-- a write is one round; if it made a side stale, a raise is owed
pub data Puts (p : ℕ) (x : List ℕ) : Bool → List Seat → Says → Bool → List Seat → Type 0 where
  put_whole : {o : Bool} {xs ys : List Seat} → Round (Write p x) xs (Done true) ys → Puts p x o xs (Done true) o ys
  put_lost : {o : Bool} {xs ys : List Seat} → Round (Write p x) xs (Done false) ys → Puts p x o xs (Done false) true ys
  put_refused : {o : Bool} {xs ys : List Seat} {d n : ℕ} → Round (Write p x) xs (Fault d n) ys → Puts p x o xs (Fault d n) o ys

-- a live disk in a call that was stopped: it was not asked yet, or is as the call leaves it, taken or refused
pub data Cut (a : Act) : Cell → Cell → Type 0 where
  cut_before : {c : Cell} → Cut a c c
  cut_taken : {c d : Cell} → Takes a c d → Cut a c d
  cut_refused : {c d : Cell} → Refuses a c d → Cut a c d

-- a disk in a round that was stopped; a live one may be left out by then
pub data Halted (a : Act) : Seat → Seat → Type 0 where
  halted_out : {b : Why} {t : Store} → Halted a (Out b t) (Out b t)
  halted_stale : {c : Cell} → Halted a (In false c) (In false c)
  halted_live : {b : Bool} {c d : Cell} → Cut a c d → Halted a (In true c) (In b d)

-- rounds of raises, the last of which was stopped
pub data RaiseStops : ℕ → List Seat → ℕ → List Seat → Type 0 where
  stops_here : {g : ℕ} {xs ys : List Seat} → Pairs (Halted (Raise (next g))) xs ys → RaiseStops g xs g ys
  stops_later : {g h : ℕ} {w : Bool} {xs ys zs : List Seat} → Round (Raise (next g)) xs (Done w) ys → RaiseStops (next g) ys h zs → RaiseStops g xs h zs

-- a flush that was stopped
pub data FlushStops : Bool → ℕ → List Seat → ℕ → List Seat → Type 0 where
  stops_owed : {g h : ℕ} {xs ys : List Seat} → RaiseStops g xs h ys → FlushStops true g xs h ys
  stops_even : {g : ℕ} {xs ys : List Seat} → Pairs (Halted Flush) xs ys → FlushStops false g xs g ys
  stops_lost : {g h : ℕ} {xs ys zs : List Seat} → Round Flush xs (Done false) ys → RaiseStops g ys h zs → FlushStops false g xs h zs
