-- From the machine's calls to what a ground tells of each disk.
use Rattle.std.proofs.Common.{◌≡◌, ◌≢◌, ◌⊎◌, inl, inr, ℕ, zero, suc, ◌<◌, ◌≤◌, Bool, true, false, List, [], ◌∷◌, ◌++◌, length, get_or, Option, Some, None, refl, sym, ap, ◌∙◌, subst, arith}
use Rattle.std.specs.Prelude.{slice_get, is_some}
use Rattle.std.specs.Option.{option_map}
use Rattle.page_ground.specs.Seen.{Imaged}
use Rattle.page_ground.specs.Seen.{Are, DiskSeen, KeptAt, Turns}
use Rattle.page_ground.specs.Seen as seen
use Rattle.mirror_rules.specs.Tree.{Image, Cell, Store, Why, Seat, In, Out, Tree, seats}
use Rattle.mirror_rules.specs.Claims.{Pairs, pairs_none, pairs_more, Every, every_none, every_more, Has, has_here, has_later, IsLive, HasPages, pages_live, pages_left, pages_out, Keeps, keeps_out, keeps_left, keeps_live, keeps_lost, Rose, rose_live, rose_left, rose_out}
use Rattle.mirror_rules.specs.Claims as claims
use Rattle.mirror_rules.specs.Fates.{disk_of}
use Rattle.mirror_rules.specs.Steps.{Act, Write, Says, Done, Fault, is_done, Takes, write_taken, raise_taken, flush_taken, refused, Asked, asked_out, asked_stale, asked_took, asked_lost, asked_none, Looked, looked_out, looked_stale, looked_same, looked_refused, Named, named_here, named_later, Reads, read_taken, read_refused, read_below, read_left, read_right, read_left_only, read_right_only, Round, Raised, raised_whole, raised_again, raised_none, Pays, pays_twice, pays_unraised, Flushes, flush_owed, flush_even, flush_lost, flush_none}
use Rattle.mirror_rules.proofs.RoundLaws.{pairs-map, reads-each}
use Rattle.mirror_rules.proofs.PageLaws.{pairs-then}
use Rattle.mirror_rules.proofs.GuardLaws.{Rises, rises_live}
use Rattle.mirror_layer.specs.View.{Beside}
use Rattle.mirror_layer.specs.Ground.{as_imaged, image_told, kept_told, disk_seen, disks_seen, live_pages, pages_told, Differ, Counted, counted}
use Rattle.mirror_layer.proofs.SeenLaws.{Step, Apart, Somewhere, some_here, some_later, Calm, Blamed}
use Rattle.mirror_layer.proofs.SeenLaws as laws

-- the image of a disk: as it was, or with the ground's pages, F at the call's start and G at its end
pub data Turning (T : Bool) (F G : List (List ℕ)) (c d : Cell) : Type 0 where
  turning_same : d.now ≡ c.now → Turning T F G c d
  turning_to : c.now.generation ≤ d.now.generation → (T ≡ true → (d.now.pages ≡ F) ⊎ (d.now.pages ≡ G)) → Turning T F G c d

-- a disk in a call: T, whether all is told; F and G, the ground's pages at its start and at its end
pub data Change (T : Bool) (F G : List (List ℕ)) : Seat → Seat → Type 0 where
  change_out : {b : Why} {s : Store} → Change T F G (Out b s) (Out b s)
  change_left : {c : Cell} → Change T F G (In false c) (In false c)
  change_live : {c d : Cell} → d.disk ≡ c.disk → c.faults ≤ d.faults → (T ≡ true → (claims.pages_in d.kept ≡ claims.pages_in c.kept) ⊎ (claims.pages_in d.kept ≡ Some F)) → Turning T F G c d → Change T F G (In true c) (In true d)
  change_lost : {c d : Cell} → d.disk ≡ c.disk → c.faults < d.faults → Turning T F G c d → Change T F G (In true c) (In false d)

live-pages : {F : List (List ℕ)} {c : Cell} → HasPages F (In true c) → c.now.pages ≡ F
live-pages (pages_live e) = e

first-has : {F : List (List ℕ)} {y : Seat} {ys : List Seat} → Every (HasPages F) (y ∷ ys) → HasPages F y
first-has (every_more k i) = k

rest-have : {F : List (List ℕ)} {y : Seat} {ys : List Seat} → Every (HasPages F) (y ∷ ys) → Every (HasPages F) ys
rest-have (every_more k i) = i

pub look-change : {T : Bool} {F G : List (List ℕ)} {s : Says} {xs ys : List Seat} → Pairs (Looked s) xs ys → Pairs (Change T F G) xs ys
look-change h = pairs-map (λ x y. one) h where
  one : {T : Bool} {F G : List (List ℕ)} {s : Says} {x y : Seat} → Looked s x y → Change T F G x y
  one looked_out = change_out
  one looked_stale = change_left
  one (looked_same e) = change_live refl (omega arith) (λ t. inl refl) (turning_same refl)
  one (looked_refused l) = change_live refl (omega arith) (λ t. inl refl) (turning_same refl)

put-one : {T : Bool} {F G : List (List ℕ)} {p : ℕ} {v : List ℕ} {s : Says} {x y : Seat} → Asked (Write p v) s x y → (T ≡ true → HasPages G y) → Change T F G x y
put-one asked_out q = change_out
put-one asked_stale q = change_left
put-one (asked_took write_taken) q = change_live refl (omega arith) (λ t. inl refl) (turning_to (omega arith) (λ t. inr (live-pages (q t))))
put-one (asked_lost (refused l)) q = change_lost refl l (turning_same refl)
put-one (asked_none (refused l)) q = change_live refl (omega arith) (λ t. inl refl) (turning_same refl)

pub put-change : {T : Bool} {F G : List (List ℕ)} {p : ℕ} {v : List ℕ} {s : Says} {xs ys : List Seat} → Pairs (Asked (Write p v) s) xs ys → (T ≡ true → Every (HasPages G) ys) → Pairs (Change T F G) xs ys
put-change pairs_none h = pairs_none
put-change (pairs_more k i) h = pairs_more (put-one k (λ t. first-has (h t))) (put-change i (λ t. rest-have (h t)))

flush-one : {T : Bool} {F G : List (List ℕ)} {f r : Bool} {x y : Seat} → Keeps f r x y → Rises x y → (T ≡ true → HasPages F x) → Change T F G x y
flush-one keeps_out q p = change_out
flush-one keeps_left q p = change_left
flush-one (keeps_live {c = c} {d = d} h a b) (rises_live s) p =
    change_live {c = c} {d = d} h.disk h.later (λ t. elim h.kept [ inl q ↦ inl q | inr q ↦ inr (q ∙ ap (λ (v : List (List ℕ)). Some v) (live-pages (p t))) ]) (turning_to s.later (λ t. inl (s.pages ∙ live-pages (p t))))
flush-one (keeps_lost {c = c} {d = d} h a) (rises_live s) p = change_lost {c = c} {d = d} h.disk a (turning_to s.later (λ t. inl (s.pages ∙ live-pages (p t))))

pub flush-change : {T : Bool} {F G : List (List ℕ)} {f r : Bool} {xs ys : List Seat} → Pairs (Keeps f r) xs ys → Pairs Rises xs ys → (T ≡ true → Every (HasPages F) xs) → Pairs (Change T F G) xs ys
flush-change pairs_none pairs_none p = pairs_none
flush-change (pairs_more k h) (pairs_more r i) p = pairs_more (flush-one k r (λ t. first-has (p t))) (flush-change h i (λ t. rest-have (p t)))

-- what a disk kept, as it is told
imaged-pages : (k : Option Image) → option_map {T = Imaged} (λ v. v.pages) (option_map {T = Image} as_imaged k) ≡ claims.pages_in k
imaged-pages None = refl
imaged-pages (Some i) = refl

kept-step : (T t : Bool) (F : List (List ℕ)) (k j : Option Image) → (T ≡ true → (claims.pages_in j ≡ claims.pages_in k) ⊎ (claims.pages_in j ≡ Some F)) → (seen.pages_in (kept_told t j) ≡ seen.pages_in (kept_told t k)) ⊎ KeptAt (kept_told t j) (pages_told T F)
kept-step T false F k j f = inl refl
kept-step false true F k j f = inr tt
kept-step true true F k j f = elim (f refl) [
  | inl q ↦ inl (ap (λ (v : Option (List (List ℕ))). Some v) (imaged-pages j ∙ q ∙ sym (imaged-pages k)))
  | inr q ↦ inr (imaged-pages j ∙ q)
]

told-step : (t : Bool) (k j : Option Image) → is_some (kept_told t j) ≡ is_some (kept_told t k)
told-step true k j = refl
told-step false k j = refl

-- the image of a disk, as it is told
are-told : (T : Bool) (F G ps : List (List ℕ)) → (T ≡ true → (ps ≡ F) ⊎ (ps ≡ G)) → Are (pages_told T F) ps ⊎ Are (pages_told T G) ps
are-told false F G ps f = inl tt
are-told true F G ps f = f refl

turn-step : (T t : Bool) (F G : List (List ℕ)) {c d : Cell} → Turning T F G c d → (image_told t (Some d.now) ≡ image_told t (Some c.now)) ⊎ Turns (pages_told T F) (pages_told T G) (image_told t (Some c.now)) (image_told t (Some d.now))
turn-step T false F G h = inl refl
turn-step T true F G (turning_same e) = inl (ap (λ (v : Image). image_told true (Some v)) e)
turn-step T true F G {c} {d} (turning_to l f) = inr (record { old = as_imaged c.now; new = as_imaged d.now; was = refl; is = refl; later = l; pages = are-told T F G d.now.pages f })

change-step : (T : Bool) (F G : List (List ℕ)) (b : Beside) {x y : Seat} → Counted b x → Change T F G x y → Step (pages_told T F) (pages_told T G) (disk_seen b x) (disk_seen b y)
change-step T F G b (counted e l) change_out = record { disk = refl; opened = refl; told = refl; later = omega arith; since = l; live = λ q. cc; lost = λ q. cc; kept = λ q. cc; up = refl; turned = inl refl; aside = λ q. refl }
change-step T F G b (counted e l) change_left = record { disk = refl; opened = refl; told = refl; later = omega arith; since = l; live = λ q. cc; lost = λ q. cc; kept = λ q. cc; up = refl; turned = inl refl; aside = λ q. refl }
change-step T F G b (counted e l) (change_live {c = c} {d = d} i k f m) =
    record { disk = i; opened = refl; told = told-step b.told c.kept d.kept; later = k; since = l; live = λ q. refl; lost = λ q. inl refl; kept = λ q. kept-step T b.told F c.kept d.kept f; up = refl; turned = turn-step T b.told F G m; aside = λ q. cc }
change-step T F G b (counted e l) (change_lost {c = c} {d = d} i k m) =
    record { disk = i; opened = refl; told = told-step b.told c.kept d.kept; later = omega arith; since = l; live = λ q. cc; lost = λ q. inr k; kept = λ q. cc; up = refl; turned = turn-step T b.told F G m; aside = λ q. cc }

pub steps : {T : Bool} {F G : List (List ℕ)} {bs : List Beside} {xs ys : List Seat} → Pairs Counted bs xs → Pairs (Change T F G) xs ys → Pairs (Step (pages_told T F) (pages_told T G)) (disks_seen bs xs) (disks_seen bs ys)
steps pairs_none pairs_none = pairs_none
steps {T} {F} {G} (pairs_more {x = b} c h) (pairs_more k i) = pairs_more (change-step T F G b c k) (steps h i)

pub counts-after : {T : Bool} {F G : List (List ℕ)} {bs : List Beside} {xs ys : List Seat} → Pairs Counted bs xs → Pairs (Change T F G) xs ys → Pairs Counted bs ys
counts-after h i = pairs-then (λ b x y. one) h i where
  one : {T : Bool} {F G : List (List ℕ)} {b : Beside} {x y : Seat} → Counted b x → Change T F G x y → Counted b y
  one k change_out = k
  one k change_left = k
  one (counted e l) (change_live i m f q) = counted (i ∙ e) (omega arith)
  one (counted e l) (change_lost i m q) = counted (i ∙ e) (omega arith)

-- numbers that differ
seen-disk : (b : Beside) (x : Seat) → (disk_seen b x).disk ≡ disk_of x
seen-disk b (In l c) = refl
seen-disk b (Out l s) = refl

number : {b : Beside} {x : Seat} → Counted b x → (disk_seen b x).disk ≡ b.disk
number {b} {x} (counted e l) = seen-disk b x ∙ e

apart-one : {m : ℕ} {bs : List Beside} {xs : List Seat} → Pairs Counted bs xs → Every (λ (b : Beside). b.disk ≢ m) bs → Every (λ (d : DiskSeen). d.disk ≢ m) (disks_seen bs xs)
apart-one pairs_none every_none = every_none
apart-one (pairs_more c h) (every_more p q) = every_more (λ e. p (sym (number c) ∙ e)) (apart-one h q)

pub apart : {bs : List Beside} {xs : List Seat} → Pairs Counted bs xs → Differ bs → Apart (disks_seen bs xs)
apart pairs_none d = tt
apart {bs = bs} (pairs_more {x = b} {xs = cs} {ys = ys} c h) d =
    (subst (λ m. Every (λ (e : DiskSeen). e.disk ≢ m) (disks_seen cs ys)) (sym (number c)) (apart-one h d.0), apart h d.1)

pub live-some : {bs : List Beside} {xs : List Seat} → Pairs Counted bs xs → Has IsLive xs → 0 < length (seen.live_in (disks_seen bs xs))
live-some pairs_none h = elim h [ ]
live-some (pairs_more c i) (has_here claims.live_in) = omega arith
live-some (pairs_more {y = In true e} c i) (has_later h) = omega arith
live-some (pairs_more {y = In false e} c i) (has_later h) = live-some i h
live-some (pairs_more {y = Out b s} c i) (has_later h) = live-some i h

-- the ground's pages
pub pages-are : {F : List (List ℕ)} {xs : List Seat} → Every (HasPages F) xs → Has IsLive xs → live_pages xs ≡ F
pages-are every_none h = elim h [ ]
pages-are (every_more (pages_live e) i) h = e
pages-are (every_more pages_left i) (has_here h) = elim h [ ]
pages-are (every_more pages_left i) (has_later h) = pages-are i h
pages-are (every_more pages_out i) (has_here h) = elim h [ ]
pages-are (every_more pages_out i) (has_later h) = pages-are i h

pub got-back : (F : List (List ℕ)) (p : ℕ) (x : List ℕ) → p < length F → get_or F p [] ≡ x → slice_get F p ≡ Some x
got-back [] p x l e = absurd (omega arith)
got-back (y ∷ ys) zero x l e = ap (λ (v : List ℕ). Some v) e
got-back (y ∷ ys) (suc p) x l e = got-back ys p x (omega arith) e

-- a disk that had no fault, where it is live then
pub data Unfaulted : Seat → Seat → Type 0 where
  unfaulted_live : {c d : Cell} → d.faults ≡ c.faults → d.disk ≡ c.disk → Unfaulted (In true c) (In true d)
  unfaulted_left : {x : Seat} {d : Cell} → Unfaulted x (In false d)
  unfaulted_out : {x : Seat} {b : Why} {s : Store} → Unfaulted x (Out b s)

unfaulted-then : {x y z : Seat} → Unfaulted x y → Unfaulted y z → Unfaulted x z
unfaulted-then (unfaulted_live a b) (unfaulted_live c d) = unfaulted_live (c ∙ a) (d ∙ b)
unfaulted-then h unfaulted_left = unfaulted_left
unfaulted-then h unfaulted_out = unfaulted_out

unfaulted-row : (xs : List Seat) → Pairs Unfaulted xs xs
unfaulted-row [] = pairs_none
unfaulted-row (In true c ∷ xs) = pairs_more (unfaulted_live refl refl) (unfaulted-row xs)
unfaulted-row (In false c ∷ xs) = pairs_more unfaulted_left (unfaulted-row xs)
unfaulted-row (Out b s ∷ xs) = pairs_more unfaulted_out (unfaulted-row xs)

takes-calm : {a : Act} {c d : Cell} → Takes a c d → (d.faults ≡ c.faults) × (d.disk ≡ c.disk)
takes-calm write_taken = (refl, refl)
takes-calm raise_taken = (refl, refl)
takes-calm flush_taken = (refl, refl)

pub round-calm : {a : Act} {w : Bool} {xs ys : List Seat} → Pairs (Asked a (Done w)) xs ys → Pairs Unfaulted xs ys
round-calm h = pairs-map (λ x y. one) h where
  one : {a : Act} {w : Bool} {x y : Seat} → Asked a (Done w) x y → Unfaulted x y
  one asked_out = unfaulted_out
  one asked_stale = unfaulted_left
  one (asked_took t) = let r = takes-calm t in unfaulted_live r.0 r.1
  one (asked_lost r) = unfaulted_left

calm-then : {xs ys zs : List Seat} → Pairs Unfaulted xs ys → Pairs Unfaulted ys zs → Pairs Unfaulted xs zs
calm-then h i = pairs-then (λ x y z. unfaulted-then) h i

raised-calm : {g h : ℕ} {s : Says} {xs ys : List Seat} → Raised g xs s h ys → is_done s ≡ true → Pairs Unfaulted xs ys
raised-calm (raised_whole h) e = round-calm h.each
raised-calm (raised_again h i) e = calm-then (round-calm h.each) (raised-calm i e)
raised-calm (raised_none h) e = cc

pays-calm : {g h : ℕ} {s : Says} {xs ys : List Seat} → Pays g xs s h ys → is_done s ≡ true → Pairs Unfaulted xs ys
pays-calm (pays_twice h i) e = calm-then (raised-calm h refl) (raised-calm i e)
pays-calm (pays_unraised h) e = cc

pub flush-calm : {o q : Bool} {g h : ℕ} {s : Says} {xs ys : List Seat} → Flushes o g xs s q h ys → is_done s ≡ true → Pairs Unfaulted xs ys
flush-calm (flush_owed h) e = pays-calm h e
flush-calm (flush_even h) e = round-calm h.each
flush-calm (flush_lost h i) e = calm-then (round-calm h.each) (pays-calm i e)
flush-calm (flush_none h) e = cc

pub calm-where : {bs : List Beside} {xs ys : List Seat} → Pairs Counted bs xs → Pairs Unfaulted xs ys → Has IsLive ys → Somewhere Calm (disks_seen bs xs) (disks_seen bs ys)
calm-where (pairs_more c h) (pairs_more (unfaulted_live a b) i) (has_here k) = some_here (refl, a, b)
calm-where (pairs_more c h) (pairs_more unfaulted_left i) (has_here k) = elim k [ ]
calm-where (pairs_more c h) (pairs_more unfaulted_out i) (has_here k) = elim k [ ]
calm-where (pairs_more c h) (pairs_more u i) (has_later k) = some_later (calm-where h i k)
calm-where pairs_none pairs_none h = elim h [ ]

-- the disk that answered a read
pub data Answers : List Seat → List Seat → Type 0 where
  answers_here : {c : Cell} {xs ys : List Seat} → Answers (In true c ∷ xs) (In true c ∷ ys)
  answers_later : {x y : Seat} {xs ys : List Seat} → Answers xs ys → Answers (x ∷ xs) (y ∷ ys)

answers-left : {xs ys : List Seat} (zs us : List Seat) → Answers xs ys → Answers (xs ++ zs) (ys ++ us)
answers-left zs us answers_here = answers_here
answers-left zs us (answers_later h) = answers_later (answers-left zs us h)

answers-right : {R : Seat → Seat → Type 0} {xs ys zs us : List Seat} → Pairs R xs ys → Answers zs us → Answers (xs ++ zs) (ys ++ us)
answers-right pairs_none h = h
answers-right (pairs_more a b) h = answers_later (answers-right b h)

same-pairs : (xs : List Seat) → Pairs (λ (x y : Seat). Unit {0}) xs xs
same-pairs [] = pairs_none
same-pairs (x ∷ xs) = pairs_more tt (same-pairs xs)

pub reads-answer : {p : ℕ} {x : List ℕ} {t u : Tree} {s : Says} → Reads p x t s u → is_done s ≡ true → Answers (seats t) (seats u)
reads-answer (read_taken e) d = answers_here
reads-answer (read_refused l) d = cc
reads-answer (read_below h) d = reads-answer h d
reads-answer (read_left {r = r} h) d = answers-left (seats r) (seats r) (reads-answer h refl)
reads-answer (read_right h i) d = answers-right (reads-each h) (reads-answer i d)
reads-answer (read_left_only e h) d = cc
reads-answer (read_right_only {l = l} e h) d = answers-right (same-pairs (seats l)) (reads-answer h d)

pub answers-where : {bs : List Beside} {xs ys : List Seat} → Pairs Counted bs xs → Answers xs ys → Somewhere Calm (disks_seen bs xs) (disks_seen bs ys)
answers-where (pairs_more c h) answers_here = some_here (refl, refl, refl)
answers-where (pairs_more c h) (answers_later k) = some_later (answers-where h k)
answers-where pairs_none h = elim h [ ]

-- a refused call
pub rises : {bs : List Beside} {xs ys : List Seat} → Pairs Counted bs xs → Pairs Rose xs ys → Pairs laws.Rises (disks_seen bs xs) (disks_seen bs ys)
rises pairs_none pairs_none = pairs_none
rises (pairs_more c h) (pairs_more (rose_live {b = true} l) i) = pairs_more (λ e. l) (rises h i)
rises (pairs_more c h) (pairs_more (rose_live {b = false} l) i) = pairs_more (λ e. l) (rises h i)
rises (pairs_more c h) (pairs_more rose_left i) = pairs_more (λ e. cc) (rises h i)
rises (pairs_more c h) (pairs_more rose_out i) = pairs_more (λ e. cc) (rises h i)

pub blamed : {m k : ℕ} {bs : List Beside} {xs ys : List Seat} → Pairs Counted bs xs → Named m k xs ys → Somewhere (Blamed m k) (disks_seen bs xs) (disks_seen bs ys)
blamed (pairs_more c h) (named_here e l n) = some_here (refl, e, l, n)
blamed (pairs_more c h) (named_later k) = some_later (blamed h k)
blamed pairs_none h = elim h [ ]

-- a live disk stays
pub look-live : {s : Says} {xs ys : List Seat} → Pairs (Looked s) xs ys → Has IsLive xs → Has IsLive ys
look-live pairs_none h = elim h [ ]
look-live (pairs_more looked_out i) (has_here h) = elim h [ ]
look-live (pairs_more looked_stale i) (has_here h) = elim h [ ]
look-live (pairs_more (looked_same e) i) (has_here h) = has_here claims.live_in
look-live (pairs_more (looked_refused l) i) (has_here h) = has_here claims.live_in
look-live (pairs_more h i) (has_later k) = has_later (look-live i k)

none-live : {a : Act} {d n : ℕ} {xs ys : List Seat} → Pairs (Asked a (Fault d n)) xs ys → Has IsLive xs → Has IsLive ys
none-live pairs_none h = elim h [ ]
none-live (pairs_more asked_out i) (has_here h) = elim h [ ]
none-live (pairs_more asked_stale i) (has_here h) = elim h [ ]
none-live (pairs_more (asked_none r) i) (has_here h) = has_here claims.live_in
none-live (pairs_more h i) (has_later k) = has_later (none-live i k)

pub round-live : {a : Act} {s : Says} {xs ys : List Seat} → Round a xs s ys → Has IsLive xs → Has IsLive ys
round-live {s = Done w} h k = h.answer.0
round-live {s = Fault d n} h k = none-live h.each k

raised-stay : {g h : ℕ} {s : Says} {xs ys : List Seat} → Raised g xs s h ys → Has IsLive xs → Has IsLive ys
raised-stay (raised_whole h) k = round-live h k
raised-stay (raised_again h i) k = raised-stay i (round-live h k)
raised-stay (raised_none h) k = round-live h k

pays-stay : {g h : ℕ} {s : Says} {xs ys : List Seat} → Pays g xs s h ys → Has IsLive xs → Has IsLive ys
pays-stay (pays_twice h i) k = raised-stay i (raised-stay h k)
pays-stay (pays_unraised h) k = raised-stay h k

pub flush-stay : {o q : Bool} {g h : ℕ} {s : Says} {xs ys : List Seat} → Flushes o g xs s q h ys → Has IsLive xs → Has IsLive ys
flush-stay (flush_owed h) k = pays-stay h k
flush-stay (flush_even h) k = round-live h k
flush-stay (flush_lost h i) k = pays-stay i (round-live h k)
flush-stay (flush_none h) k = round-live h k
