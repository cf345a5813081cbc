-- What an opening does to each disk.
use Rattle.std.proofs.Common.{◌≡◌, ◌≢◌, ℕ, zero, suc, ◌+◌, ◌<◌, ◌≤◌, ◌⊎◌, inl, inr, Bool, true, false, List, [], ◌∷◌, set, length, get_or, Option, Some, None, refl, sym, ◌∙◌, ap, subst, arith, length-set, get_or-set_same, get_or-set_other}
use Rattle.std.specs.Prelude.{eqb}
use Rattle.std.proofs.lemmas.Bool.Decides.{eqb_tells}
use Rattle.std.proofs.lemmas.Bool.{eqb-true}
use Rattle.std.proofs.lemmas.List.{ext_get_or}
use Rattle.mirror_rules.specs.Tree.{Image, Cell, Store, Why, Blank, Down, Seat, In, Out}
use Rattle.mirror_rules.specs.Claims.{Pairs, pairs_none, pairs_more, Every, every_none, every_more, Has, has_here, has_later, Nth, nth_here, nth_later, IsLive, live_in, HasPages, pages_live, pages_left, pages_out}
use Rattle.mirror_rules.specs.Steps.{Says, Done, is_done, faulted, headed, kept_now, written, refused, raise_unkept, raise_kept, flush_kept, Looked, looked_out, looked_stale, looked_same, looked_refused}
use Rattle.mirror_rules.specs.Opening.{Meets, meets_good, meets_blank, meets_bad, meets_down, AtMost, most_in, most_out, Wins, wins_here, wins_later, wins_out, Only, only_here, only_later, settled, Copies, copy_same, copy_differs, copy_left, copy_gone, copy_even, copy_settled, copy_unflushed, copy_unraised, Enters, enter_end, enter_next, enter_joins, enter_gone, Fills, fill_end, fill_next, fill_gone, made_image, made, Makes, Unmade, unmade_blank, unmade_whole, Begun, begun, Renews, renew_end, renew_next, renew_made, renew_left, renew_gone}
use Rattle.mirror_rules.specs.Guards.{Medium, Direct, Caching, Settled}
use Rattle.mirror_rules.specs.Fates.{Mixed, Fate, fate_old, fate_new, fate_made, State, state_blank, state_bad, state_down, state_unmade, state_left, state_live, Fates, Final, final_bad, final_out, final_made, final_in, Sized}
use Rattle.mirror_rules.proofs.RoundLaws.{pairs-map}
use Rattle.mirror_rules.proofs.PageLaws.{pairs-then, pairs-every, read-gives, read-holds}
use Rattle.mirror_rules.proofs.GenLaws.{some-same}

-- places
pub nth-same : {A : Type 0} {n : ℕ} {xs : List A} {x y : A} → Nth n xs x → Nth n xs y → x ≡ y
nth-same nth_here nth_here = refl
nth-same (nth_later h) (nth_later i) = nth-same h i

pub nth-back : {A B : Type 0} {R : A → B → Type 0} {n : ℕ} {xs : List A} {ys : List B} {y : B} → Pairs R xs ys → Nth n ys y → (x : A) × Nth n xs x × R x y
nth-back pairs_none k = elim k [ ]
nth-back (pairs_more {x = x} h i) nth_here = (x, nth_here, h)
nth-back (pairs_more h i) (nth_later k) = let r = nth-back i k in (r.0, nth_later r.1, r.2)

pub nth-on : {A B : Type 0} {R : A → B → Type 0} {n : ℕ} {xs : List A} {ys : List B} {x : A} → Pairs R xs ys → Nth n xs x → (y : B) × Nth n ys y × R x y
nth-on pairs_none k = elim k [ ]
nth-on (pairs_more {y = y} h i) nth_here = (y, nth_here, h)
nth-on (pairs_more h i) (nth_later k) = let r = nth-on i k in (r.0, nth_later r.1, r.2)

pub only-from : {x y : Seat} {n : ℕ} {xs ys : List Seat} → Only x y n xs ys → Nth n xs x
only-from only_here = nth_here
only-from (only_later h) = nth_later (only-from h)

only-to : {x y : Seat} {n : ℕ} {xs ys : List Seat} → Only x y n xs ys → Nth n ys y
only-to only_here = nth_here
only-to (only_later h) = nth_later (only-to h)

pub only-pairs : {A : Type 0} {R : A → Seat → Type 0} {x y : Seat} {n : ℕ} {ss : List A} {xs ys : List Seat} → Only x y n xs ys → ((s : A) → R s x → R s y) → Pairs R ss xs → Pairs R ss ys
only-pairs only_here f (pairs_more {x = s} h i) = pairs_more (f s h) i
only-pairs (only_later k) f (pairs_more h i) = pairs_more h (only-pairs k f i)

pub only-live : {c : Cell} {y : Seat} {n : ℕ} {xs ys : List Seat} → Only (In false c) y n xs ys → Has IsLive xs → Has IsLive ys
only-live only_here (has_here h) = elim h [ ]
only-live only_here (has_later h) = has_later h
only-live (only_later k) (has_here h) = has_here h
only-live (only_later k) (has_later h) = has_later (only-live k h)

pub blank-live : {b : Why} {s : Store} {y : Seat} {n : ℕ} {xs ys : List Seat} → Only (Out b s) y n xs ys → Has IsLive xs → Has IsLive ys
blank-live only_here (has_here h) = elim h [ ]
blank-live only_here (has_later h) = has_later h
blank-live (only_later k) (has_here h) = has_here h
blank-live (only_later k) (has_later h) = has_later (blank-live k h)

cell-of : Cell → Seat → Cell
cell-of c (In b d) = d
cell-of c (Out b s) = c

pub same-cell : {n : ℕ} {xs : List Seat} {c d : Cell} → Nth n xs (In false c) → Nth n xs (In false d) → c ≡ d
unfolding cell-of
same-cell {c = c} h i = ap (cell-of c) (nth-same h i)

-- reads
pub look-live : {s : Says} {xs ys : List Seat} → Pairs (Looked s) xs ys → Has IsLive xs → Has IsLive ys
look-live pairs_none h = elim h [ ]
look-live (pairs_more looked_out i) (has_here h) = elim h [ ]
look-live (pairs_more looked_stale i) (has_here h) = elim h [ ]
look-live (pairs_more (looked_same e) i) (has_here h) = has_here live_in
look-live (pairs_more (looked_refused l) i) (has_here h) = has_here live_in
look-live (pairs_more h i) (has_later k) = has_later (look-live i k)

pub look-nth : {s : Says} {n : ℕ} {xs ys : List Seat} {c : Cell} → Pairs (Looked s) xs ys → Nth n ys (In false c) → Nth n xs (In false c)
look-nth (pairs_more looked_stale i) nth_here = nth_here
look-nth (pairs_more h i) (nth_later k) = nth_later (look-nth i k)
look-nth pairs_none k = elim k [ ]

-- fates
pub fate-most : {F : List (List ℕ)} {g : ℕ} {o : Option Image} {c : Image} → Fate F g o c → c.generation ≤ g
fate-most (fate_old a b m) = omega arith
fate-most (fate_new a b m) = m
fate-most (fate_made a b) = omega (arith, b)

fate-length : {F : List (List ℕ)} {g : ℕ} {o : Option Image} {c : Image} → Fate F g o c → length c.pages ≡ length F
fate-length (fate_old a b m) = m.len
fate-length (fate_new a b m) = ap length a
fate-length (fate_made a b) = ap length a

-- all pages stand on it, and it has the ground's number
fate-full : {F : List (List ℕ)} {g : ℕ} {o : Option Image} {c : Image} (d : Image) → d.pages ≡ F → d.generation ≡ g → Fate F g o c → Fate F g o d
fate-full d e l (fate_old a b k) = fate_new e (omega (arith, l)) (omega (arith, l))
fate-full d e l (fate_new a b k) = fate_new e (omega (arith, l)) (omega (arith, l))
fate-full d e l (fate_made a b) = fate_made e l

mixed-set : (F G H : List (List ℕ)) (p : ℕ) (x : List ℕ) → p < length F → get_or F p [] ≡ x → Mixed F G H → Mixed F G (set H p x)
mixed-set F G H p x l e m = record {
  len = length-set H p x ∙ m.len;
  own = length-set H p x ∙ m.own;
  each = λ q. elim (eqb_tells q p) as (λ _. (get_or (set H p x) q [] ≡ get_or F q []) ⊎ (get_or (set H p x) q [] ≡ get_or G q [])) [
    | inl t ↦ inl (subst (λ v. get_or (set H p x) v [] ≡ get_or F v []) (sym t.1) (get_or-set_same H p x [] (omega (arith, m.len)) ∙ sym e))
    | inr t ↦ let ne : q ≢ p = t.1 in elim (m.each q) [ inl k ↦ inl (get_or-set_other H p q x [] ne ∙ k) | inr k ↦ inr (get_or-set_other H p q x [] ne ∙ k) ]
  ];
}

abbrev pub repaged : ℕ → List ℕ → Image → Image
repaged p x c = record c { pages = set c.pages p x }

fate-written : {F : List (List ℕ)} {g : ℕ} {o : Option Image} {c : Image} (p : ℕ) (x : List ℕ) → p < length F → get_or F p [] ≡ x → get_or c.pages p [] ≢ x → Fate F g o c → Fate F g o (repaged p x c)
fate-written {F} p x l e ne (fate_old {i = i} {c = c} a b m) = fate_old a b (mixed-set F i.pages c.pages p x l e m)
fate-written {F} p x l e ne (fate_new a b m) = absurd (ne (ap (λ (v : List (List ℕ)). get_or v p []) a ∙ e))
fate-written {F} p x l e ne (fate_made a b) = absurd (ne (ap (λ (v : List (List ℕ)). get_or v p []) a ∙ e))

-- the same pages below p, and as many
pub record SameTo (p : ℕ) (F G : List (List ℕ)) : Type 0 where
  pub len : length G ≡ length F
  pub below : (k : ℕ) → k < p → get_or G k [] ≡ get_or F k []

same-more : (p : ℕ) (F G : List (List ℕ)) → SameTo p F G → get_or G p [] ≡ get_or F p [] → SameTo (p + 1) F G
same-more p F G h e = record { len = h.len; below = λ k q. elim (eqb_tells k p) as (λ _. get_or G k [] ≡ get_or F k []) [ inl t ↦ subst (λ v. get_or G v [] ≡ get_or F v []) (sym t.1) e | inr t ↦ let ne : k ≢ p = t.1 in h.below k (omega arith) ] }

same-set : (p : ℕ) (F G : List (List ℕ)) (x : List ℕ) → SameTo p F G → p < length F → get_or F p [] ≡ x → SameTo (p + 1) F (set G p x)
same-set p F G x h lt e = same-more p F (set G p x)
    (record { len = length-set G p x ∙ h.len; below = λ k q. let ne : k ≢ p = omega arith in get_or-set_other G p k x [] ne ∙ h.below k q })
    (get_or-set_same G p x [] (omega (arith, h.len)) ∙ sym e)

same-none : (F G : List (List ℕ)) → length G ≡ length F → SameTo 0 F G
same-none F G e = record { len = e; below = λ k q. absurd (omega arith) }

same-all : (p : ℕ) (F G : List (List ℕ)) → SameTo p F G → length F ≡ p + 0 → G ≡ F
same-all p F G h e = ext_get_or [] G F h.len (λ k q. h.below k (omega (arith, h.len)))

-- states
pub state-pages : {v : Medium} {F : List (List ℕ)} {g : ℕ} {ss : List Store} {xs : List Seat} → Pairs (State v F g) ss xs → Every (HasPages F) xs
state-pages pairs_none = every_none
state-pages (pairs_more (state_blank a b) i) = every_more pages_out (state-pages i)
state-pages (pairs_more (state_bad a b) i) = every_more pages_out (state-pages i)
state-pages (pairs_more (state_down a) i) = every_more pages_out (state-pages i)
state-pages (pairs_more (state_unmade a b f) i) = every_more pages_out (state-pages i)
state-pages (pairs_more (state_left a f) i) = every_more pages_left (state-pages i)
state-pages (pairs_more (state_live a f e k q) i) = every_more (pages_live e) (state-pages i)

-- nothing changed but faults; or a page; or what is now is kept; or all pages stand on it, and it has the ground's number
fates-faulted : {v : Medium} {F : List (List ℕ)} {g n : ℕ} {c : Cell} (o : Option Image) → Fates v F g o c → Fates v F g o (faulted n c)
fates-faulted o f = record { now = f.now; kept = f.kept }

fates-written : {v : Medium} {F : List (List ℕ)} {g : ℕ} (c : Cell) (p : ℕ) (x : List ℕ) → p < length F → get_or F p [] ≡ x → get_or c.now.pages p [] ≢ x → (o : Option Image) → Fates v F g o c → Fates v F g o (written p x c)
fates-written c p x l e ne o f = record { now = fate-written p x l e ne f.now; kept = f.kept }

fates-kept : {v : Medium} {F : List (List ℕ)} {g : ℕ} {o : Option Image} {c : Cell} → Fates v F g o c → Fates v F g o (kept_now c)
fates-kept {F = F} {g = g} {o = o} {c = c} f = record { now = f.now; kept = λ e i k. subst (λ (j : Image). Fate F g o j) (some-same c.now i k) f.now }

fates-headed : {v : Medium} {F : List (List ℕ)} {g : ℕ} {o : Option Image} {c : Cell} → c.now.pages ≡ F → Fates v F g o c → Fates v F g o (headed g c)
fates-headed {g = g} {c = c} e f = record { now = fate-full (headed g c).now e refl f.now; kept = f.kept }

look-state : {v : Medium} {F : List (List ℕ)} {g : ℕ} {s : Says} {ss : List Store} {xs ys : List Seat} → Pairs (State v F g) ss xs → Pairs (Looked s) xs ys → Pairs (State v F g) ss ys
look-state h i = pairs-then (λ x y z. one) h i where
  one : {v : Medium} {F : List (List ℕ)} {g : ℕ} {s : Says} {t : Store} {x y : Seat} → State v F g t x → Looked s x y → State v F g t y
  one (state_live a f e k m) (looked_same q) = state_live a f e k m
  one (state_live {o = o} a f e k m) (looked_refused l) = state_live a (fates-faulted o f) e k m
  one (state_left a f) looked_stale = state_left a f
  one (state_blank a b) looked_out = state_blank a b
  one (state_bad a b) looked_out = state_bad a b
  one (state_down a) looked_out = state_down a
  one (state_unmade a b f) looked_out = state_unmade a b f

left-fate : {v : Medium} {F : List (List ℕ)} {g : ℕ} {s : Store} {c : Cell} (d : Cell) → ((o : Option Image) → Fates v F g o c → Fates v F g o d) → State v F g s (In false c) → State v F g s (In false d)
left-fate d k (state_left {o = o} a f) = state_left a (k o f)

live-fate : {v : Medium} {F : List (List ℕ)} {g : ℕ} {s : Store} {c : Cell} (d : Cell) → ((o : Option Image) → Fates v F g o c → Fates v F g o d) → d.now.pages ≡ F → d.now.generation ≡ g → (v ≡ Caching → d.kept ≡ Some d.now)
    → State v F g s (In false c) → State v F g s (In true d)
live-fate d k e m q (state_left {o = o} a f) = state_live a (k o f) e m q

-- what is known of the disk that joins
abbrev pub Joining : Medium → List (List ℕ) → ℕ → ℕ → ℕ → Bool → List Seat → Type 0
Joining v F g i p e xs = (c : Cell) → Nth i xs (In false c) → SameTo p F c.now.pages × (e ≡ true → c.now.generation ≡ g) × (e ≡ true → v ≡ Caching → c.kept ≡ Some c.now)

half : {v : Medium} {F : List (List ℕ)} {g : ℕ} {o : Option Image} {c : Cell} → c.now.pages ≡ F → Fates v F g o c → Fates v F g o (headed g (kept_now c))
half e f = fates-headed e (fates-kept f)

full : {v : Medium} {F : List (List ℕ)} {g : ℕ} {o : Option Image} {c : Cell} → c.now.pages ≡ F → Fates v F g o c → Fates v F g o (settled g c)
full e f = fates-kept (half e f)

pub copies-state : {v : Medium} {F : List (List ℕ)} {g i n p : ℕ} {e : Bool} {s : Says} {ss : List Store} {xs ys : List Seat} {wrote : Bool} → Copies true g i e n p xs s wrote ys → Pairs (State v F g) ss xs → Has IsLive xs → length F ≡ p + n → Joining v F g i p e xs
    → Pairs (State v F g) ss ys × Has IsLive ys
copies-state {F = F} (copy_same {p = p} {x = x} {c = c} {ys = ys} h k q r) st lv le j =
    copies-state r (look-state st h.each) (look-live h.each lv) (omega arith)
    (λ d z. let o = j d (look-nth h.each z) in
    (same-more p F d.now.pages o.0 (ap (λ (v : Cell). get_or v.now.pages p []) (sym (same-cell k z)) ∙ q refl ∙ sym (read-gives h.found.0 (state-pages st))), o.1, o.2))
copies-state {F = F} (copy_differs {p = p} {x = y} {z = x} {c = c} h nq q k r) st lv le j =
    let e : get_or F p [] ≡ x = read-gives h.found.0 (state-pages st) ∙ sym (q refl) in
    let ne : get_or c.now.pages p [] ≢ x = λ t. nq refl (t ∙ q refl) in
    let l : p < length F = omega arith in
    copies-state r (only-pairs k (λ s. left-fate (written p x c) (fates-written c p x l e ne)) (look-state st h.each)) (only-live k (look-live h.each lv)) (omega arith)
    (λ d z. (subst (λ (v : Cell). SameTo (p + 1) F v.now.pages) (same-cell (only-to k) z) (same-set p F c.now.pages x (j c (look-nth h.each (only-from k))).0 l e), λ q. cc, λ q. cc))
copies-state (copy_left {m = m} {c = c} h l k) st lv le j = (only-pairs k (λ s. left-fate (faulted m c) fates-faulted) (look-state st h.each), only-live k (look-live h.each lv))
copies-state (copy_gone h) st lv le j = (look-state st h.each, look-live h.each lv)
copies-state {F = F} (copy_even {p = p} {c = c} k) st lv le j =
    let o = j c (only-from k) in
    (only-pairs k (λ s. live-fate c (λ o f. f) (same-all p F c.now.pages o.0 le) (o.1 refl) (o.2 refl)) st, only-live k lv)
copies-state {F = F} {g = g} (copy_settled {p = p} {c = c} {xs = xs} k) st lv le j =
    let e : c.now.pages ≡ F = same-all p F c.now.pages (j c (only-from k)).0 le in
    (only-pairs k (λ s. live-fate (settled g c) (λ o f. full e f) e refl (λ q. refl)) st, only-live k lv)
copies-state (copy_unflushed {c = c} (refused {n = m} l) k) st lv le j = (only-pairs k (λ s. left-fate (faulted m c) fates-faulted) st, only-live k lv)
copies-state (copy_unflushed {c = c} (flush_kept {n = m} l) k) st lv le j = (only-pairs k (λ s. left-fate (faulted m (kept_now c)) (λ o f. fates-faulted o (fates-kept f))) st, only-live k lv)
copies-state (copy_unraised {c = c} (refused {n = m} l) q k) st lv le j = (only-pairs k (λ s. left-fate (faulted m (kept_now c)) (λ o f. fates-faulted o (fates-kept f))) st, only-live k lv)
copies-state {F = F} {g = g} (copy_unraised {p = p} {c = c} (raise_unkept {n = r} l) q k) st lv le j =
    let e : c.now.pages ≡ F = same-all p F c.now.pages (j c (only-from k)).0 le in
    let d : Cell = faulted r (headed g (kept_now c)) in
    (only-pairs k (λ s. left-fate d (λ o f. fates-faulted o (half e f))) st, only-live k lv)
copies-state {F = F} {g = g} (copy_unraised {p = p} {c = c} (raise_kept {n = r} l) q k) st lv le j =
    let e : c.now.pages ≡ F = same-all p F c.now.pages (j c (only-from k)).0 le in
    let d : Cell = faulted r (settled g c) in
    (only-pairs k (λ s. left-fate d (λ o f. fates-faulted o (full e f))) st, only-live k lv)

state-length : {v : Medium} {F : List (List ℕ)} {g : ℕ} {s : Store} {c : Cell} → State v F g s (In false c) → length c.now.pages ≡ length F
state-length (state_left a f) = fate-length f.now

-- a good disk that waits for its joining keeps what it has, if nothing was pending
pub data Waits (v : Medium) : Seat → Type 0 where
  waits_in : {b : Bool} {c : Cell} → (b ≡ false → v ≡ Caching → c.kept ≡ Some c.now) → Waits v (In b c)
  waits_out : {b : Why} {s : Store} → Waits v (Out b s)

-- P of each from the place i on
pub data After {A : Type 0} (P : A → Type 0) : ℕ → List A → Type 0 where
  after_all : {xs : List A} → Every P xs → After P zero xs
  after_one : {i : ℕ} {x : A} {xs : List A} → After P i xs → After P (suc i) (x ∷ xs)

pub after-step : {A : Type 0} {T : A → A → Type 0} {P : A → Type 0} {i : ℕ} {xs ys : List A} → ((x y : A) → T x y → P x → P y) → After P i xs → Pairs T xs ys → After P i ys
after-step f (after_all h) m = after_all (pairs-every f m h)
after-step f (after_one h) (pairs_more t m) = after_one (after-step f h m)

after-nth : {A : Type 0} {P : A → Type 0} {i : ℕ} {x : A} {xs : List A} → After P i xs → Nth i xs x → P x
after-nth (after_all every_none) n = elim n [ ]
after-nth (after_all (every_more p h)) nth_here = p
after-nth (after_one h) (nth_later n) = after-nth h n

after-next : {A : Type 0} {P : A → Type 0} {i : ℕ} {x : A} {xs : List A} → After P i xs → Nth i xs x → After P (suc i) xs
after-next (after_all every_none) n = elim n [ ]
after-next (after_all (every_more p h)) nth_here = after_one (after_all h)
after-next (after_one h) (nth_later n) = after_one (after-next h n)

after-only : {P : Seat → Type 0} {x y : Seat} {i : ℕ} {xs ys : List Seat} → Only x y i xs ys → After P (suc i) xs → After P (suc i) ys
after-only only_here (after_one h) = after_one h
after-only (only_later k) (after_one h) = after_one (after-only k h)

waits-look : {v : Medium} {s : Says} {i : ℕ} {xs ys : List Seat} → After (Waits v) i xs → Pairs (Looked s) xs ys → After (Waits v) i ys
waits-look h m = after-step (λ x y. one) h m where
  one : {v : Medium} {s : Says} {x y : Seat} → Looked s x y → Waits v x → Waits v y
  one looked_out w = waits_out
  one looked_stale w = w
  one (looked_same e) w = w
  one (looked_refused l) w = waits_in (λ e. cc)

copies-wait : {v : Medium} {told : Bool} {g i n p : ℕ} {e : Bool} {s : Says} {xs ys : List Seat} {wrote : Bool} → Copies told g i e n p xs s wrote ys → After (Waits v) (suc i) xs → After (Waits v) (suc i) ys
copies-wait (copy_same h k q r) w = copies-wait r (waits-look w h.each)
copies-wait (copy_differs h nq q k r) w = copies-wait r (after-only k (waits-look w h.each))
copies-wait (copy_left h l k) w = after-only k (waits-look w h.each)
copies-wait (copy_gone h) w = waits-look w h.each
copies-wait (copy_even k) w = after-only k w
copies-wait (copy_settled k) w = after-only k w
copies-wait (copy_unflushed h k) w = after-only k w
copies-wait (copy_unraised h q k) w = after-only k w

waiting : {v : Medium} {c : Cell} → Waits v (In false c) → v ≡ Caching → c.kept ≡ Some c.now
waiting (waits_in f) e = f refl e

-- the good disks join
joins : {v : Medium} {F : List (List ℕ)} {g i : ℕ} {ss : List Store} {xs : List Seat} (e : Bool) (c : Cell) → Pairs (State v F g) ss xs → After (Waits v) i xs → Nth i xs (In false c) → eqb c.now.generation g ≡ e → Joining v F g i 0 e xs
joins {v} {F} {g} e c st w h q d z = (
  same-none F d.now.pages (state-length (nth-back st z).2),
  λ t. ap (λ (v : Cell). v.now.generation) (sym (same-cell h z)) ∙ eqb-true c.now.generation g (q ∙ t),
  λ t k. waiting (after-nth w z) k,
)

on-from : {P : Seat → Type 0} {i : ℕ} {xs : List Seat} → After P (suc i) xs → After P (i + 1) xs
on-from {P} {i} {xs} h = let e : suc i ≡ i + 1 = omega arith in subst (λ j. After P j xs) e h

pub enters-state : {v : Medium} {F : List (List ℕ)} {g n i m : ℕ} {s : Says} {ss : List Store} {xs ys : List Seat} {wrote : Bool} → Enters true g n i m xs s wrote ys → Pairs (State v F g) ss xs → Has IsLive xs → After (Waits v) i xs → length F ≡ n
    → Pairs (State v F g) ss ys × Has IsLive ys
enters-state enter_end st lv w le = (st, lv)
enters-state (enter_next h p r) st lv w le = enters-state r st lv (on-from (after-next w h)) le
enters-state (enter_joins {e = e} {c = c} h q k r) st lv w le = let a = copies-state k st lv (omega arith) (joins e c st w h q) in enters-state r a.0 a.1 (on-from (copies-wait k (after-next w h))) le
enters-state (enter_gone {e = e} {c = c} h q k) st lv w le = copies-state k st lv (omega arith) (joins e c st w h q)

-- pages of the ground are read
pub fills-state : {v : Medium} {F G : List (List ℕ)} {g n p : ℕ} {s : Says} {ss : List Store} {xs ys : List Seat} → Fills n p xs s G ys → Pairs (State v F g) ss xs → Has IsLive xs → Pairs (State v F g) ss ys × Has IsLive ys
fills-state fill_end st lv = (st, lv)
fills-state (fill_next h r) st lv = fills-state r (look-state st h.each) (look-live h.each lv)
fills-state (fill_gone h) st lv = (look-state st h.each, look-live h.each lv)

pub fills-pages : {F G : List (List ℕ)} {n p : ℕ} {s : Says} {xs ys : List Seat} → Fills n p xs s G ys → is_done s ≡ true → Every (HasPages F) xs → (length G ≡ n) × ((q : ℕ) → q < n → get_or G q [] ≡ get_or F (p + q) [])
fills-pages fill_end e h = (refl, λ q l. absurd (omega arith))
fills-pages {F} (fill_next {n = n} {p = p} {x = x} {F = G} k r) e h = let a = fills-pages r e (read-holds k.each h) in (omega (arith, a.0), at a.1) where
  at : ((q : ℕ) → q < n → get_or G q [] ≡ get_or F ((p + 1) + q) []) → (q : ℕ) → q < suc n → get_or (x ∷ G) q [] ≡ get_or F (p + q) []
  at f zero l = let z : p ≡ p + zero = omega arith in subst (λ j. x ≡ get_or F j []) z (sym (read-gives k.found.0 h))
  at f (suc q) l = let z : (p + 1) + q ≡ p + suc q = omega arith in subst (λ j. get_or G q [] ≡ get_or F j []) z (f q (omega arith))
fills-pages (fill_gone k) e h = cc

fills-all : {F G : List (List ℕ)} {n : ℕ} {xs ys : List Seat} → Fills n 0 xs (Done true) G ys → Every (HasPages F) xs → length F ≡ n → G ≡ F
fills-all {F} {G} f h l =
    let a = fills-pages f refl h in
    ext_get_or [] G F (omega (arith, a.0, l)) (λ q k. let z : 0 + q ≡ q = omega arith in a.1 q (omega (arith, a.0)) ∙ ap (λ j. get_or F j []) z)

-- the making of a blank disk
made-state : {v : Medium} {F G : List (List ℕ)} {g : ℕ} {s b : Store} {c : Cell} → Makes true g G b c → G ≡ F → State v F g s (Out Blank b) → State v F g s (In true c)
made-state {v} {F} {G} {g} {s} {b} {c} m e (state_blank a q) = subst (λ d. State v F g s (In true d)) (sym (m.cell refl))
    (state_live a (record { now = fate_made e refl; kept = λ u i k. subst (λ (j : Image). Fate F g None j) (some-same (made_image g G) i k) (fate_made e refl) }) e refl (λ u. refl))

unmade-state : {v : Medium} {F G : List (List ℕ)} {n g : ℕ} {s b t : Store} → Unmade true n g G b t → (length G ≡ n → G ≡ F) → State v F g s (Out Blank b) → State v F g s (Out Down t)
unmade-state (unmade_blank d f i z) e (state_blank a q) = state_down (i ∙ sym a)
unmade-state (unmade_whole d f l i) e (state_blank a q) = state_unmade a (i refl) (fate_made (e l) refl)

begun-state : {v : Medium} {F : List (List ℕ)} {g : ℕ} {s b t : Store} → Begun b t → State v F g s (Out Blank b) → State v F g s (Out Blank t)
begun-state (begun d f i z) (state_blank a q) = state_blank a i

pub blank-made : {b : Store} {c : Cell} {n : ℕ} {xs ys : List Seat} → Only (Out Blank b) (In true c) n xs ys → Has IsLive ys
blank-made only_here = has_here live_in
blank-made (only_later k) = has_later (blank-made k)

-- an opening leaves each disk so, at any moment
pub renews-state : {v : Medium} {F : List (List ℕ)} {g n i m : ℕ} {s : Says} {ss : List Store} {xs ys : List Seat} → Renews true g n i m xs s ys → Pairs (State v F g) ss xs → Has IsLive xs → length F ≡ n → Pairs (State v F g) ss ys × Has IsLive ys
renews-state renew_end st lv le = (st, lv)
renews-state (renew_next h p r) st lv le = renews-state r st lv le
renews-state (renew_made f m k r) st lv le = let a = fills-state f st lv in renews-state r (only-pairs k (λ s. made-state m (fills-all f (state-pages st) le)) a.0) (blank-made k) le
renews-state {F = F} {n = n} (renew_left {k = j} {F = G} q f u k r) st lv le =
    let a = fills-state f st lv in
    let whole : length G ≡ n → G ≡ F = λ e. fills-all f (state-pages st) (omega (arith, le, e, (fills-pages f refl (state-pages st)).0)) in
    renews-state r (only-pairs k (λ s. unmade-state u whole) a.0) (blank-live k a.1) le
renews-state (renew_gone f b k) st lv le = let a = fills-state f st lv in (only-pairs k (λ s. begun-state b) a.0, blank-live k a.1)

-- at the start: the winner is live
pub wins-size : {n : ℕ} {w : Image} {ss : List Store} {xs ys : List Seat} → Pairs Meets ss xs → Wins w xs ys → Every (Sized n) ss → length w.pages ≡ n
wins-size pairs_none k z = elim k [ ]
wins-size (pairs_more (meets_good {i = i} e) m) (wins_here q a) (every_more z zs) = ap (λ (v : Image). length v.pages) (sym q) ∙ z i e
wins-size (pairs_more h m) (wins_later q a) (every_more z zs) = wins-size m a zs
wins-size (pairs_more h m) (wins_out a) (every_more z zs) = wins-size m a zs

mixed-refl : (F G : List (List ℕ)) → length G ≡ length F → Mixed F G G
mixed-refl F G e = record { len = e; own = refl; each = λ p. inr refl }

pub settled-kept : (v : Medium) (s : Store) → Settled v s → v ≡ Caching → s.kept ≡ s.image
settled-kept Direct s t e = cc
settled-kept Caching s t e = t

found-fates : {v : Medium} {F : List (List ℕ)} {g : ℕ} (s : Store) (i : Image) → s.image ≡ Some i → Settled v s → Fate F g (Some i) i → Fates v F g (Some i) (Rattle.mirror_rules.specs.Opening.opened s i)
found-fates {v} {F} {g} s i e t f = record { now = f; kept = λ q j k. subst (λ (u : Image). Fate F g (Some i) u) (some-same i j (sym e ∙ sym (settled-kept v s t q) ∙ k)) f }

met-state : {v : Medium} {n : ℕ} (w : Image) {s : Store} {x : Seat} → length w.pages ≡ n → Sized n s → Settled v s → AtMost w.generation x → Meets s x → State v w.pages w.generation s x
met-state w le z t (most_in l) (meets_good {s = s} {i = i} e) = state_left e (found-fates s i e t (fate_old refl l (mixed-refl w.pages i.pages (z i e ∙ sym le))))
met-state w le z t most_out (meets_blank e b) = state_blank e e
met-state w le z t most_out (meets_bad e b) = state_bad e b
met-state w le z t most_out (meets_down a e f) = state_down e

met-states : {v : Medium} {n : ℕ} (w : Image) {ss : List Store} {xs : List Seat} → length w.pages ≡ n → Every (Sized n) ss → Every (Settled v) ss → Every (AtMost w.generation) xs → Pairs Meets ss xs → Pairs (State v w.pages w.generation) ss xs
met-states w le z t l pairs_none = pairs_none
met-states w le (every_more z zs) (every_more t ts) (every_more l ls) (pairs_more h i) = pairs_more (met-state w le z t l h) (met-states w le zs ts ls i)

pub start-state : {v : Medium} {n : ℕ} {w : Image} {ss : List Store} {xs ys : List Seat} → length w.pages ≡ n → Pairs Meets ss xs → Wins w xs ys → Every (Sized n) ss → Every (Settled v) ss → Pairs (State v w.pages w.generation) ss ys × Has IsLive ys
start-state le pairs_none k z t = elim k [ ]
start-state {v} {w = w} le (pairs_more (meets_good {s = s} {i = i} e) m) (wins_here q a) (every_more z zs) (every_more t ts) =
    let p = ap (λ (u : Image). u.pages) q in
    let g = ap (λ (u : Image). u.generation) q in
    (pairs_more (state_live e (found-fates s i e t (fate_new p (omega arith) (omega (arith, g)))) p g (λ c. settled-kept v s t c ∙ e)) (met-states w le zs ts a m), has_here live_in)
start-state {w = w} le (pairs_more h m) (wins_later q a) (every_more z zs) (every_more t ts) = let l = most_in (omega (arith, q)) in let r = start-state le m a zs ts in (pairs_more (met-state w le z t l h) r.0, has_later r.1)
start-state {w = w} le (pairs_more h m) (wins_out a) (every_more z zs) (every_more t ts) = let r = start-state le m a zs ts in (pairs_more (met-state w le z t most_out h) r.0, has_later r.1)

pub start-waits : {v : Medium} {w : Image} {ss : List Store} {xs ys : List Seat} → Pairs Meets ss xs → Wins w xs ys → Every (Settled v) ss → After (Waits v) 0 ys
start-waits {v} {w} m h t = after_all (all m h t) where
  one : {s : Store} {x : Seat} → Settled v s → Meets s x → Waits v x
  one {s} t (meets_good e) = waits_in (λ q c. settled-kept v s t c ∙ e)
  one t (meets_blank e b) = waits_out
  one t (meets_bad e b) = waits_out
  one t (meets_down a e f) = waits_out

  rest : {ss : List Store} {xs : List Seat} → Pairs Meets ss xs → Every (Settled v) ss → Every (Waits v) xs
  rest pairs_none every_none = every_none
  rest (pairs_more h m) (every_more t ts) = every_more (one t h) (rest m ts)

  all : {ss : List Store} {xs ys : List Seat} → Pairs Meets ss xs → Wins w xs ys → Every (Settled v) ss → Every (Waits v) ys
  all pairs_none k t = elim k [ ]
  all (pairs_more h m) (wins_here q a) (every_more t ts) = every_more (waits_in (λ e. cc)) (rest m ts)
  all (pairs_more h m) (wins_later q a) (every_more t ts) = every_more (one t h) (all m a ts)
  all (pairs_more h m) (wins_out a) (every_more t ts) = every_more waits_out (all m a ts)

-- what is left
final-one : {v : Medium} {F : List (List ℕ)} {g : ℕ} {s : Store} {x : Seat} → State v F g s x → Final v F g s x
final-one (state_blank a b) = final_out (b ∙ sym a)
final-one (state_bad a b) = final_bad a b
final-one (state_down a) = final_out a
final-one (state_unmade a b f) = final_made a b f
final-one (state_left a f) = final_in a f
final-one (state_live a f e k q) = final_in a f

pub final-all : {v : Medium} {F : List (List ℕ)} {g : ℕ} {ss : List Store} {xs : List Seat} → Pairs (State v F g) ss xs → Pairs (Final v F g) ss xs
final-all h = pairs-map (λ s x. final-one) h
