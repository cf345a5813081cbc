-- An opening, over plain variables.
use Rattle.std.proofs.Common.{◌≡◌, ℕ, ◌+◌, Bool, true, false, List, [], ◌∷◌, ◌++◌, length, map, Option, Some, Result, Ok, Err, refl, sym, ap, ◌∙◌, subst, arith}
use Rattle.std.specs.Prelude.{OnOk, is_err}
use Rattle.disk_format.specs.declared.shape.ImageShape.{ImageShape}
use Rattle.disk_format.specs.declared.why.BadImage as images
use Rattle.page_ground.specs.declared.fault.StoreFault.{StoreFault}
use Rattle.mirror_rules.specs.Tree.{Image, Cell, Store, Why, Blank, Bad, Down, Seat, In, Out, seats, owes}
use Rattle.mirror_rules.specs.Claims.{Every, every_none, every_more, Pairs, pairs_none, pairs_more}
use Rattle.mirror_rules.specs.Steps.{Says, Done, Fault}
use Rattle.mirror_rules.specs.Opening.{Meets, meets_good, meets_blank, meets_bad, meets_down, IsBad, is_blank, is_bad, NotGood, Wins, wins_here, wins_later, wins_out, Only, Copies, copy_same, copy_differs, copy_left, copy_gone, copy_even, copy_settled, copy_unflushed, copy_unraised, Enters, enter_end, enter_next, enter_joins, enter_gone, GivesWay, way_none, way_out, way_waits, way_left, Renews, BadImage, Good, Lost, Opens, open_down, open_blank, open_bad, open_good, open_gone, open_again, open_unrenewed}
use Rattle.mirror_rules.proofs.RoundLaws.{pairs-append}
use Rattle.mirror_rules.proofs.PageLaws.{pairs-then}
use Rattle.mirror_layer.specs.declared.node.Node.{Node, Opened, Shut, Coherency', Mirror'}
use Rattle.mirror_layer.specs.declared.refuse.Refusal.{Refusal}
use Rattle.mirror_layer.specs.declared.refuse.Refusal.TheVariants as why
use Rattle.mirror_layer.specs.Shut.{ShutSeen}
use Rattle.mirror_layer.specs.View.{Beside, tree_of, beside_in, beside_of_shut, why_of, store_of}
use Rattle.mirror_layer.specs.Calls.{all_told}
use Rattle.mirror_layer.specs.Choosing.{Chooses, chosen, chosen_gone, chosen_again}
use Rattle.mirror_layer.specs.Ceding.{AtFirst, first_in, first_out}
use Rattle.mirror_layer.specs.Renewing.{blanks}
use Rattle.mirror_layer.specs.Meeting.{IsNew, AllNew, Found, Met, Reason, Reasons, shuts_in, bads_in}
use Rattle.mirror_layer.specs.Refusing.{IsFirstBad, Refuses}
use Rattle.mirror_layer.specs.declared.came.Notice.{Notice}
use Rattle.mirror_layer.specs.Coming.{AllCome}
use Rattle.mirror_layer.specs.Bringing.{IsFirstOf, UnitedAs}
use Rattle.mirror_layer.proofs.CameSteps.{renews-come}
use Rattle.mirror_layer.proofs.CloseSteps.{every_both}
use Rattle.mirror_layer.proofs.PlaceSteps.{row-length}
use Rattle.mirror_layer.proofs.RenewSteps.{looks-blanks, only-blanks}

map-both : {A B : Type 0} (f : A → B) (xs ys : List A) → map f (xs ++ ys) ≡ map f xs ++ map f ys
map-both f [] ys = refl
map-both f (x ∷ xs) ys = ap (λ l. f x ∷ l) (map-both f xs ys)

-- disks of which nothing is known yet
pub news : {D H : Type 0} (n : Node D H) → AllNew n → Every IsNew (shuts_in n) × (beside_in n ≡ map beside_of_shut (shuts_in n))
news (Opened m d) a = absurd a
news (Shut s) a = (every_more a every_none, refl)
news (Coherency' p t) a = news t a
news (Mirror' p l q r) a =
    let x = news l a.0 in
    let y = news r a.1 in
    (every_both (shuts_in l) (shuts_in r) x.0 y.0, ap (λ v. v ++ beside_in r) x.1 ∙ (ap (λ v. map beside_of_shut (shuts_in l) ++ v) y.1 ∙ sym (map-both beside_of_shut (shuts_in l) (shuts_in r))))

-- an answer that is no error
pub not-err : {T E P : Type 0} (r : Result T E) → is_err r ≡ false → OnOk r P → P
not-err (Ok u) e h = h
not-err (Err f) e h = cc

-- the first disk of a row, whose blocks are no image
record FirstBad (row : List Seat) (disk : ℕ) : Type 0 where
  pub why : Why
  pub store : Store
  pub rest : List Seat
  pub is : row ≡ Out why store ∷ rest
  pub number : store.disk ≡ disk

first-bad : {D H : Type 0} (n : Node D H) (disk : ℕ) (bad : images.BadImage) → IsFirstBad n disk bad → FirstBad (seats (tree_of n)) disk
first-bad (Opened m d) disk bad h = absurd h
first-bad (Shut s) disk bad h = record { why = why_of s; store = store_of s; rest = []; is = refl; number = h.0 }
first-bad (Coherency' p t) disk bad h = first-bad t disk bad h
first-bad (Mirror' p l q r) disk bad h = let f = first-bad l disk bad h in record { why = f.why; store = f.store; rest = f.rest ++ seats (tree_of r); is = ap (λ v. v ++ seats (tree_of r)) f.is; number = f.number }

opens-one : {told : Bool} {n : ℕ} {why : Why} {store : Store} {rest : List Seat} → Every IsBad (Out why store ∷ rest) → Opens told n (Out why store ∷ rest) (BadImage store.disk) (Out why store ∷ rest)
opens-one (every_more is_blank h) = open_blank h
opens-one (every_more is_bad h) = open_bad h

opens-first : {told : Bool} {n : ℕ} {disk : ℕ} (xs : List Seat) → FirstBad xs disk → Every IsBad xs → Opens told n xs (BadImage disk) xs
opens-first {told} {n} xs f h = subst (λ d. Opens told n xs (BadImage d) xs) f.number (subst (λ v. Opens told n v (BadImage f.store.disk) v) (sym f.is) (opens-one (subst (Every IsBad) f.is h)))

-- why it is no image
record FirstReason (found : List (Option images.BadImage)) (bad : images.BadImage) : Type 0 where
  pub rest : List (Option images.BadImage)
  pub is : found ≡ Some bad ∷ rest

first-reason : {D H : Type 0} (n : Node D H) (disk : ℕ) (bad : images.BadImage) → IsFirstBad n disk bad → FirstReason (bads_in n) bad
first-reason (Opened m d) disk bad h = absurd h
first-reason (Shut s) disk bad h = record { rest = []; is = ap (λ v. v ∷ []) h.1 }
first-reason (Coherency' p t) disk bad h = first-reason t disk bad h
first-reason (Mirror' p l q r) disk bad h = let f = first-reason l disk bad h in record { rest = f.rest ++ bads_in r; is = ap (λ v. v ++ bads_in r) f.is }

out-number : {u t : Store} {w : Why} → Meets u (Out w t) → t.disk ≡ u.disk
out-number (meets_blank h z) = refl
out-number (meets_bad h z) = refl
out-number (meets_down d i l) = d

first-of : {shuts : List ShutSeen} {seen : List Store} {disk : ℕ} {bad : images.BadImage} {bs : List (Option images.BadImage)} {w : Why} {xs : List Seat} (t : Store) → t.disk ≡ disk → Pairs Reason shuts (Some bad ∷ bs) → Pairs Found shuts seen → Pairs Meets seen (Out w t ∷ xs)
    → IsFirstOf shuts disk bad
first-of t e (pairs_more {x = s} {xs = ss} r rs) (pairs_more g gs) (pairs_more m ms) = record { shut = s; rest = ss; first = refl; number = sym g.number ∙ (sym (out-number m) ∙ e); reason = r }

first-met : {shuts : List ShutSeen} {disk : ℕ} {bad : images.BadImage} {found : List (Option images.BadImage)} {xs : List Seat} → FirstBad xs disk → FirstReason found bad → Met shuts xs → Reasons shuts found → IsFirstOf shuts disk bad
first-met {shuts} f g m rs = first-of f.store f.number (subst (λ v. Pairs Reason shuts v) g.is rs) m.found (subst (λ v. Pairs Meets m.seen v) f.is m.meets)

-- no disk is good
pub united-none : {D H : Type 0} (n : Node D H) (r : Refusal) (shape : ImageShape) (shuts : List ShutSeen) (beside : List Beside) → Refuses n r → Every NotGood (seats (tree_of n)) → Met shuts (seats (tree_of n)) → Reasons shuts (bads_in n) → (words : List (Option Notice)) → UnitedAs (Err r) shape shuts beside (seats (tree_of n)) words
united-none n (why.BadImage disk bad) shape shuts beside h none m rs words =
    let f = first-bad n disk bad h.1 in (record { row = seats (tree_of n); met = m; opens = opens-first (seats (tree_of n)) f h.0 }, first-met f (first-reason n disk bad h.1) m rs)
united-none n (why.StoreFault fault) shape shuts beside h none m rs words = record { row = seats (tree_of n); met = m; opens = open_down none h }
united-none n why.Memory shape shuts beside h none m rs words = absurd h

-- it is an opening
opens-good : {told : Bool} {n g : ℕ} {xs zs us : List Seat} → Chooses told n xs (Ok g) zs → Renews told g n 0 (length zs) zs (Done true) us → Opens told n xs (Good (owes us g) g) us
opens-good (chosen a b) r = open_good a b r
opens-good (chosen_again a b y h) r = open_again a b y (opens-good h r)

opens-gone : {told : Bool} {n : ℕ} {f : StoreFault} {xs zs : List Seat} → Chooses told n xs (Err f) zs → Opens told n xs (Lost f.disk f.count) zs
opens-gone (chosen_gone a b f) = open_gone a b f
opens-gone (chosen_again a b y h) = open_again a b y (opens-gone h)

opens-unrenewed : {told : Bool} {n g d k : ℕ} {xs zs us : List Seat} → Chooses told n xs (Ok g) zs → Renews told g n 0 (length zs) zs (Fault d k) us → Opens told n xs (Lost d k) us
opens-unrenewed (chosen a b) r = open_unrenewed a b r
opens-unrenewed (chosen_again a b y h) r = open_again a b y (opens-unrenewed h r)

-- a disk won
pub united-gone : {shape : ImageShape} {shuts : List ShutSeen} {beside : List Beside} {xs zs : List Seat} (f : StoreFault) → Met shuts xs → Chooses (all_told beside) shape.pages xs (Err f) zs → UnitedAs (Err (why.StoreFault f)) shape shuts beside zs []
united-gone {xs = xs} f m h = record { row = xs; met = m; opens = opens-gone h }

renews-all : {D H : Type 0} {told : Bool} {g pages : ℕ} {s : Says} {us : List Seat} (n : Node D H) (disks : ℕ) (beside : List Beside) → disks ≡ length beside → beside_in n ≡ beside → Renews told g pages 0 disks (seats (tree_of n)) s us → Renews told g pages 0 (length (seats (tree_of n))) (seats (tree_of n)) s us
renews-all {told = told} {g = g} {pages = pages} {s = s} {us = us} n disks beside many same r = subst (λ k. Renews told g pages 0 k (seats (tree_of n)) s us) (many ∙ (ap (λ (v : List Beside). length v) (sym same) ∙ sym (row-length n))) r

pub united-lost : {D H : Type 0} {shape : ImageShape} {shuts : List ShutSeen} {g : ℕ} {xs us : List Seat} (n : Node D H) (disks : ℕ) (beside : List Beside) (f : StoreFault) → disks ≡ length beside → beside_in n ≡ beside → Met shuts xs
    → Chooses (all_told beside) shape.pages xs (Ok g) (seats (tree_of n)) → Renews (all_told beside) g shape.pages 0 disks (seats (tree_of n)) (Fault f.disk f.count) us → UnitedAs (Err (why.StoreFault f)) shape shuts beside us []
united-lost {xs = xs} n disks beside f many same m h r = record { row = xs; met = m; opens = opens-unrenewed h (renews-all n disks beside many same r) }

pub united-good : {D H : Type 0} {shape : ImageShape} {shuts : List ShutSeen} {xs us : List Seat} (n : Node D H) (disks : ℕ) (beside : List Beside) (g : ℕ) → disks ≡ length beside → beside_in n ≡ beside → Met shuts xs
    → Chooses (all_told beside) shape.pages xs (Ok g) (seats (tree_of n)) → Renews (all_told beside) g shape.pages 0 disks (seats (tree_of n)) (Done true) us → (words : List (Option Notice)) → AllCome (all_told beside) shape.pages xs (seats (tree_of n)) words → UnitedAs (Ok g) shape shuts beside us words
united-good {xs = xs} n disks beside g many same m h r words a = (record { row = xs; met = m; opens = opens-good h (renews-all n disks beside many same r) }, renews-come words r a)

-- the disks tell as before
pub told-then : (bs : List Beside) {cs : List Beside} → cs ≡ bs → all_told bs ≡ true → all_told cs ≡ true
told-then bs e t = ap all_told e ∙ t

-- a choice makes no disk blank
wins-blanks : {w : Image} {xs ys : List Seat} → Wins w xs ys → blanks ys ≡ blanks xs
wins-blanks (wins_here q a) = refl
wins-blanks (wins_later l h) = wins-blanks h
wins-blanks (wins_out {b = Blank} h) = ap (λ n. 1 + n) (wins-blanks h)
wins-blanks (wins_out {b = Bad} h) = wins-blanks h
wins-blanks (wins_out {b = Down} h) = wins-blanks h

cell-blanks : {a b : Bool} {c d : Cell} {i : ℕ} {xs ys : List Seat} → Only (In a c) (In b d) i xs ys → blanks ys ≡ blanks xs
cell-blanks o = let q = only-blanks o in omega (arith, q)

copies-blanks : {told : Bool} {g i n p : ℕ} {e w : Bool} {s : Says} {xs ys : List Seat} → Copies told g i e n p xs s w ys → blanks ys ≡ blanks xs
copies-blanks (copy_same h k q r) = copies-blanks r ∙ looks-blanks h.each
copies-blanks (copy_differs h ne q k r) = copies-blanks r ∙ cell-blanks k ∙ looks-blanks h.each
copies-blanks (copy_left h m k) = cell-blanks k ∙ looks-blanks h.each
copies-blanks (copy_gone h) = looks-blanks h.each
copies-blanks (copy_even k) = cell-blanks k
copies-blanks (copy_settled k) = cell-blanks k
copies-blanks (copy_unflushed h k) = cell-blanks k
copies-blanks (copy_unraised h q k) = cell-blanks k

enters-blanks : {told : Bool} {g n i m : ℕ} {w : Bool} {s : Says} {xs ys : List Seat} → Enters told g n i m xs s w ys → blanks ys ≡ blanks xs
enters-blanks enter_end = refl
enters-blanks (enter_next h p r) = enters-blanks r
enters-blanks (enter_joins h q k r) = enters-blanks r ∙ copies-blanks k
enters-blanks (enter_gone h q k) = copies-blanks k

way-blanks : {xs zs vs : List Seat} → GivesWay xs zs vs → blanks vs ≡ blanks xs
way-blanks way_none = refl
way-blanks (way_out {b = Blank} k) = ap (λ n. 1 + n) (way-blanks k)
way-blanks (way_out {b = Bad} k) = way-blanks k
way-blanks (way_out {b = Down} k) = way-blanks k
way-blanks (way_waits k) = way-blanks k
way-blanks (way_left a b m k) = way-blanks k

pub chooses-blanks : {told : Bool} {n : ℕ} {r : Result ℕ StoreFault} {xs zs : List Seat} → Chooses told n xs r zs → blanks zs ≡ blanks xs
chooses-blanks (chosen a b) = enters-blanks b ∙ wins-blanks a
chooses-blanks (chosen_gone a b f) = enters-blanks b ∙ wins-blanks a
chooses-blanks (chosen_again a b y r) = chooses-blanks r ∙ way-blanks y.way

-- the disks as their openings found them
data Counts (b : Beside) (s : ShutSeen) : Type 0 where
  counts : b.opened ≡ s.faults → Counts b s

data Holds (b : Beside) (t : Store) : Type 0 where
  holds : t.faults ≡ b.opened → Holds b t

new-counts : {D H : Type 0} (n : Node D H) → AllNew n → Pairs Counts (beside_in n) (shuts_in n)
new-counts (Opened m d) a = absurd a
new-counts (Shut s) a = pairs_more (counts a.taken) pairs_none
new-counts (Coherency' p t) a = new-counts t a
new-counts (Mirror' p l q r) a = pairs-append (new-counts l a.0) (new-counts r a.1)

found-holds : {b : Beside} {s : ShutSeen} {t : Store} → Counts b s → Found s t → Holds b t
found-holds (counts e) f = holds (f.count ∙ sym e)

holds-first : {b : Beside} {t : Store} {x : Seat} → Holds b t → Meets t x → AtFirst b x
holds-first (holds e) (meets_good q) = first_in e
holds-first (holds e) (meets_blank q z) = first_out
holds-first (holds e) (meets_bad q z) = first_out
holds-first (holds e) (meets_down a q l) = first_out

counted-first : {bs : List Beside} {ss : List ShutSeen} {row : List Seat} → Pairs Counts bs ss → Met ss row → Pairs AtFirst bs row
counted-first h m = pairs-then (λ b t x. holds-first) (pairs-then (λ b s t. found-holds) h m.found) m.meets

pub met-first : {D H : Type 0} (n : Node D H) {row : List Seat} → AllNew n → Met (shuts_in n) row → Pairs AtFirst (beside_in n) row
met-first n a m = counted-first (new-counts n a) m

pub met-both : {D H : Type 0} (l r : Node D H) {row : List Seat} → AllNew l → AllNew r → Met (shuts_in l ++ shuts_in r) row → Pairs AtFirst (beside_in l ++ beside_in r) row
met-both l r a b m = counted-first (pairs-append (new-counts l a) (new-counts r b)) m
