-- What a ground tells, through its calls.
use Rattle.std.proofs.Common.{◌≡◌, ◌≢◌, ◌⊎◌, inl, inr, ℕ, zero, suc, ◌<◌, ◌≤◌, Bool, true, false, List, [], ◌∷◌, length, Option, Some, IfSome, refl, sym, ap, ◌∙◌, subst, arith, if◌then◌else◌}
use Rattle.std.specs.Prelude.{Contains, is_some}
use Rattle.std.proofs.lemmas.Bool.{eq-eqb, ne_eqb}
use Rattle.std.proofs.lemmas.Bool.Decides.{eqb_tells}
use Rattle.page_ground.specs.Seen.{Imaged}
use Rattle.page_ground.specs.declared.fault.StoreFault.{StoreFault}
use Rattle.page_ground.specs.Seen.{DiskSeen, Seen, Keeps, IsCalm, IsFault, KeptAt, Turns, held_in, is_up_in, kept_in, faults_in, opened_in, live_in, numbers_in, pages_in}
use Rattle.mirror_rules.specs.Claims.{Pairs, pairs_none, pairs_more, Every, every_none, every_more}

-- one disk in a call, where the ground's pages were such at its start and at its end
pub record Step (pages next : Option (List (List ℕ))) (a d : DiskSeen) : Type 0 where
  pub disk : d.disk ≡ a.disk
  pub opened : d.opened ≡ a.opened
  pub told : is_some d.kept ≡ is_some a.kept
  pub later : a.faults ≤ d.faults
  pub since : a.opened ≤ a.faults
  pub live : d.live ≡ true → a.live ≡ true
  pub lost : a.live ≡ true → (d.live ≡ true) ⊎ (a.faults < d.faults)
  pub kept : d.live ≡ true → (pages_in d.kept ≡ pages_in a.kept) ⊎ KeptAt d.kept pages
  pub up : d.up ≡ a.up
  pub turned : (d.holds ≡ a.holds) ⊎ Turns pages next a.holds d.holds
  pub aside : a.up ≡ false → d.holds ≡ a.holds

-- numbers that differ
abbrev pub Apart : List DiskSeen → Type 0
Apart [] = Unit {0}
Apart (a ∷ es) = Every (λ x. x.disk ≢ a.disk) es × Apart es

-- R of two elements at one place
pub data Somewhere (R : DiskSeen → DiskSeen → Type 0) : List DiskSeen → List DiskSeen → Type 0 where
  some_here : {a d : DiskSeen} {es ds : List DiskSeen} → R a d → Somewhere R (a ∷ es) (d ∷ ds)
  some_later : {a d : DiskSeen} {es ds : List DiskSeen} → Somewhere R es ds → Somewhere R (a ∷ es) (d ∷ ds)

-- the numbers of live disks
live-cases : (a : DiskSeen) (es : List DiskSeen) (n : ℕ) → Contains (live_in (a ∷ es)) n → ((a.live ≡ true) × (n ≡ a.disk)) ⊎ Contains (live_in es) n
live-cases a es n h = by a.live h
  where
    by : (l : Bool) → Contains (if l then a.disk ∷ live_in es else live_in es) n → ((l ≡ true) × (n ≡ a.disk)) ⊎ Contains (live_in es) n
    by true (zero, lt, is) = inl (refl, sym is)
    by true (suc k, lt, is) = inr (k, omega arith, is)
    by false h = inr h

live-here : (a : DiskSeen) (es : List DiskSeen) → a.live ≡ true → Contains (live_in (a ∷ es)) a.disk
live-here a es e = by a.live e
  where
    by : (l : Bool) → l ≡ true → Contains (if l then a.disk ∷ live_in es else live_in es) a.disk
    by true e = (0, omega arith, refl)
    by false e = cc

live-later : (a : DiskSeen) (es : List DiskSeen) (n : ℕ) → Contains (live_in es) n → Contains (live_in (a ∷ es)) n
live-later a es n h = by a.live
  where
    by : (l : Bool) → Contains (if l then a.disk ∷ live_in es else live_in es) n
    by true = (suc h.0, omega (arith, h.1), h.2)
    by false = h

apart-live : {m : ℕ} (es : List DiskSeen) (n : ℕ) → Every (λ (x : DiskSeen). x.disk ≢ m) es → Contains (live_in es) n → n ≢ m
apart-live [] n every_none h = absurd (omega (arith, h.1))
apart-live {m} (a ∷ es) n (every_more p q) h = elim (live-cases a es n h) [ inl k ↦ (λ e. p (sym k.1 ∙ e)) | inr k ↦ apart-live es n q k ]

apart-then : {pages next : Option (List (List ℕ))} {m : ℕ} {es ds : List DiskSeen} → Pairs (Step pages next) es ds → Every (λ (x : DiskSeen). x.disk ≢ m) es → Every (λ (x : DiskSeen). x.disk ≢ m) ds
apart-then pairs_none every_none = every_none
apart-then (pairs_more s h) (every_more p q) = every_more (λ e. p (sym s.disk ∙ e)) (apart-then h q)

-- the look-ups, by cases on the first disk
kept-first : (a : DiskSeen) (es : List DiskSeen) (n : ℕ) → n ≡ a.disk → kept_in (a ∷ es) n ≡ a.kept
kept-first a es n e = rw (eq-eqb n a.disk e) refl

kept-rest : (a : DiskSeen) (es : List DiskSeen) (n : ℕ) → n ≢ a.disk → kept_in (a ∷ es) n ≡ kept_in es n
kept-rest a es n e = rw (ne_eqb n a.disk e) refl

faults-first : (a : DiskSeen) (es : List DiskSeen) (n : ℕ) → n ≡ a.disk → faults_in (a ∷ es) n ≡ a.faults
faults-first a es n e = rw (eq-eqb n a.disk e) refl

faults-rest : (a : DiskSeen) (es : List DiskSeen) (n : ℕ) → n ≢ a.disk → faults_in (a ∷ es) n ≡ faults_in es n
faults-rest a es n e = rw (ne_eqb n a.disk e) refl

opened-first : (a : DiskSeen) (es : List DiskSeen) (n : ℕ) → n ≡ a.disk → opened_in (a ∷ es) n ≡ a.opened
opened-first a es n e = rw (eq-eqb n a.disk e) refl

opened-rest : (a : DiskSeen) (es : List DiskSeen) (n : ℕ) → n ≢ a.disk → opened_in (a ∷ es) n ≡ opened_in es n
opened-rest a es n e = rw (ne_eqb n a.disk e) refl

held-first : (a : DiskSeen) (es : List DiskSeen) (n : ℕ) → n ≡ a.disk → held_in (a ∷ es) n ≡ a.holds
held-first a es n e = rw (eq-eqb n a.disk e) refl

held-rest : (a : DiskSeen) (es : List DiskSeen) (n : ℕ) → n ≢ a.disk → held_in (a ∷ es) n ≡ held_in es n
held-rest a es n e = rw (ne_eqb n a.disk e) refl

up-first : (a : DiskSeen) (es : List DiskSeen) (n : ℕ) → n ≡ a.disk → is_up_in (a ∷ es) n ≡ a.up
up-first a es n e = rw (eq-eqb n a.disk e) refl

up-rest : (a : DiskSeen) (es : List DiskSeen) (n : ℕ) → n ≢ a.disk → is_up_in (a ∷ es) n ≡ is_up_in es n
up-rest a es n e = rw (ne_eqb n a.disk e) refl

up-all : {pages next : Option (List (List ℕ))} {es ds : List DiskSeen} → Pairs (Step pages next) es ds → (n : ℕ) → is_up_in ds n ≡ is_up_in es n
up-all pairs_none n = refl
up-all (pairs_more {x = a} {y = d} {xs = es} {ys = ds} s h) n = elim (eqb_tells n a.disk) as (λ _. is_up_in (d ∷ ds) n ≡ is_up_in (a ∷ es) n) [
  | inl t ↦ up-first d ds n (t.1 ∙ sym s.disk) ∙ s.up ∙ sym (up-first a es n t.1)
  | inr t ↦ up-rest d ds n (λ e. t.1 (e ∙ s.disk)) ∙ up-all h n ∙ sym (up-rest a es n t.1)
]

turned-all : {pages next : Option (List (List ℕ))} {es ds : List DiskSeen} → Pairs (Step pages next) es ds → (n : ℕ) → (held_in ds n ≡ held_in es n) ⊎ Turns pages next (held_in es n) (held_in ds n)
turned-all pairs_none n = inl refl
turned-all {pages} {next} (pairs_more {x = a} {y = d} {xs = es} {ys = ds} s h) n = elim (eqb_tells n a.disk) as (λ _. (held_in (d ∷ ds) n ≡ held_in (a ∷ es) n) ⊎ Turns pages next (held_in (a ∷ es) n) (held_in (d ∷ ds) n)) [
  | inl t ↦ rw (held-first d ds n (t.1 ∙ sym s.disk), held-first a es n t.1) s.turned
  | inr t ↦ rw (held-rest d ds n (λ e. t.1 (e ∙ s.disk)), held-rest a es n t.1) (turned-all h n)
]

aside-all : {pages next : Option (List (List ℕ))} {es ds : List DiskSeen} → Pairs (Step pages next) es ds → (n : ℕ) → is_up_in es n ≡ false → held_in ds n ≡ held_in es n
aside-all pairs_none n e = refl
aside-all {pages} {next} (pairs_more {x = a} {y = d} {xs = es} {ys = ds} s h) n e = elim (eqb_tells n a.disk) as (λ _. held_in (d ∷ ds) n ≡ held_in (a ∷ es) n) [
  | inl t ↦ rw (held-first d ds n (t.1 ∙ sym s.disk), held-first a es n t.1) (s.aside (sym (up-first a es n t.1) ∙ e))
  | inr t ↦ rw (held-rest d ds n (λ q. t.1 (q ∙ s.disk)), held-rest a es n t.1) (aside-all h n (sym (up-rest a es n t.1) ∙ e))
]

told-all : {pages next : Option (List (List ℕ))} {es ds : List DiskSeen} → Pairs (Step pages next) es ds → (n : ℕ) → is_some (kept_in ds n) ≡ is_some (kept_in es n)
told-all pairs_none n = refl
told-all (pairs_more {x = a} {y = d} {xs = es} {ys = ds} s h) n = elim (eqb_tells n a.disk) as (λ _. is_some (kept_in (d ∷ ds) n) ≡ is_some (kept_in (a ∷ es) n)) [
  | inl t ↦ rw (kept-first d ds n (t.1 ∙ sym s.disk), kept-first a es n t.1) s.told
  | inr t ↦ rw (kept-rest d ds n (λ e. t.1 (e ∙ s.disk)), kept-rest a es n t.1) (told-all h n)
]

same-numbers : {pages next : Option (List (List ℕ))} {es ds : List DiskSeen} → Pairs (Step pages next) es ds → numbers_in ds ≡ numbers_in es
same-numbers pairs_none = refl
same-numbers (pairs_more {x = a} {y = d} {xs = es} {ys = ds} s h) = ap (λ (n : ℕ). n ∷ numbers_in ds) s.disk ∙ ap (λ (ns : List ℕ). a.disk ∷ ns) (same-numbers h)

later-all : {pages next : Option (List (List ℕ))} {es ds : List DiskSeen} → Pairs (Step pages next) es ds → (n : ℕ) → faults_in es n ≤ faults_in ds n
later-all pairs_none n = omega arith
later-all (pairs_more {x = a} {y = d} {xs = es} {ys = ds} s h) n = elim (eqb_tells n a.disk) as (λ _. faults_in (a ∷ es) n ≤ faults_in (d ∷ ds) n) [
  | inl t ↦ omega (arith, faults-first a es n t.1, faults-first d ds n (t.1 ∙ sym s.disk), s.later)
  | inr t ↦ omega (arith, faults-rest a es n t.1, faults-rest d ds n (λ e. t.1 (e ∙ s.disk)), later-all h n)
]

opened-all : {pages next : Option (List (List ℕ))} {es ds : List DiskSeen} → Pairs (Step pages next) es ds → (n : ℕ) → opened_in ds n ≡ opened_in es n
opened-all pairs_none n = refl
opened-all (pairs_more {x = a} {y = d} {xs = es} {ys = ds} s h) n = elim (eqb_tells n a.disk) as (λ _. opened_in (d ∷ ds) n ≡ opened_in (a ∷ es) n) [
  | inl t ↦ opened-first d ds n (t.1 ∙ sym s.disk) ∙ s.opened ∙ sym (opened-first a es n t.1)
  | inr t ↦ opened-rest d ds n (λ e. t.1 (e ∙ s.disk)) ∙ opened-all h n ∙ sym (opened-rest a es n t.1)
]

since-all : {pages next : Option (List (List ℕ))} {es ds : List DiskSeen} → Pairs (Step pages next) es ds → (n : ℕ) → opened_in es n ≤ faults_in es n
since-all pairs_none n = omega arith
since-all (pairs_more {x = a} {y = d} {xs = es} {ys = ds} s h) n = elim (eqb_tells n a.disk) as (λ _. opened_in (a ∷ es) n ≤ faults_in (a ∷ es) n) [
  | inl t ↦ omega (arith, opened-first a es n t.1, faults-first a es n t.1, s.since)
  | inr t ↦ omega (arith, opened-rest a es n t.1, faults-rest a es n t.1, since-all h n)
]

live-all : {pages next : Option (List (List ℕ))} {es ds : List DiskSeen} → Pairs (Step pages next) es ds → (n : ℕ) → Contains (live_in ds) n → Contains (live_in es) n
live-all pairs_none n h = h
live-all (pairs_more {x = a} {y = d} {xs = es} {ys = ds} s i) n h = elim (live-cases d ds n h) [
  | inl k ↦ subst (λ v. Contains (live_in (a ∷ es)) v) (sym (k.1 ∙ s.disk)) (live-here a es (s.live k.0))
  | inr k ↦ live-later a es n (live-all i n k)
]

lost-all : {pages next : Option (List (List ℕ))} {es ds : List DiskSeen} → Pairs (Step pages next) es ds → Apart es → (n : ℕ) → Contains (live_in es) n → Contains (live_in ds) n ⊎ (faults_in es n < faults_in ds n)
lost-all pairs_none p n h = inl h
lost-all (pairs_more {x = a} {y = d} {xs = es} {ys = ds} s i) p n h = elim (live-cases a es n h) [
  | inl k ↦ elim (s.lost k.0) [
    | inl l ↦ inl (subst (λ v. Contains (live_in (d ∷ ds)) v) (s.disk ∙ sym k.1) (live-here d ds l))
    | inr l ↦ inr (omega (arith, faults-first a es n k.1, faults-first d ds n (k.1 ∙ sym s.disk), l))
  ]
  | inr k ↦ let ne = apart-live es n p.0 k in elim (lost-all i p.1 n k) [
    | inl l ↦ inl (live-later d ds n l)
    | inr l ↦ inr (omega (arith, faults-rest a es n ne, faults-rest d ds n (λ e. ne (e ∙ s.disk)), l))
  ]
]

kept-all : {pages next : Option (List (List ℕ))} {es ds : List DiskSeen} → Pairs (Step pages next) es ds → Apart es → (n : ℕ) → Contains (live_in ds) n → (pages_in (kept_in ds n) ≡ pages_in (kept_in es n)) ⊎ KeptAt (kept_in ds n) pages
kept-all pairs_none p n h = inl refl
kept-all {pages} (pairs_more {x = a} {y = d} {xs = es} {ys = ds} s i) p n h = elim (live-cases d ds n h) [
  | inl k ↦ let e : n ≡ a.disk = k.1 ∙ s.disk in rw (kept-first d ds n k.1, kept-first a es n e) (s.kept k.0)
  | inr k ↦ let ne = apart-live ds n (apart-then i p.0) k in rw (kept-rest d ds n (λ e. ne (e ∙ s.disk)), kept-rest a es n ne) (kept-all i p.1 n k)
]

pub keeps-by : (before after : Seen) → after.page_size ≡ before.page_size → after.number ≡ before.number → IfSome after.pages (λ ps. length ps ≡ after.number)
    → Pairs (Step before.pages after.pages) before.disks after.disks → Apart before.disks → 0 < length (live_in after.disks) → before.generation ≤ after.generation → before.due ≤ after.due → Keeps before after
keeps-by before after size number many h p some level due = record {
  same_size = size;
  same_number = number;
  many = many;
  same_disks = same-numbers h;
  same_told = told-all h;
  kept = kept-all h p;
  same_up = up-all h;
  turned = turned-all h;
  aside = aside-all h;
  live = live-all h;
  some = some;
  lost = lost-all h p;
  later = later-all h;
  same_opened = opened-all h;
  since = since-all h;
  level = level;
  due = due;
}

-- a disk that is live then, with no fault in the call
abbrev pub Calm : DiskSeen → DiskSeen → Type 0
Calm a d = (d.live ≡ true) × (d.faults ≡ a.faults) × (d.disk ≡ a.disk)

calm-some : {pages next : Option (List (List ℕ))} {es ds : List DiskSeen} → Pairs (Step pages next) es ds → Apart es → Somewhere Calm es ds → (n : ℕ) × Contains (live_in ds) n × (faults_in ds n ≡ faults_in es n)
calm-some (pairs_more {x = a} {y = d} {xs = es} {ys = ds} s i) p (some_here c) = (d.disk, live-here d ds c.0, faults-first d ds d.disk refl ∙ c.1 ∙ sym (faults-first a es d.disk c.2))
calm-some (pairs_more {x = a} {y = d} {xs = es} {ys = ds} s i) p (some_later h) =
    let r = calm-some i p.1 h in
    let ne = apart-live ds r.0 (apart-then i p.0) r.1 in
    (r.0, live-later d ds r.0 r.1, faults-rest d ds r.0 (λ e. ne (e ∙ s.disk)) ∙ r.2 ∙ sym (faults-rest a es r.0 ne))
calm-some pairs_none p h = elim h [ ]

pub calm-by : (before after : Seen) → Pairs (Step before.pages after.pages) before.disks after.disks → Apart before.disks → Somewhere Calm before.disks after.disks → IsCalm before after
calm-by before after h p s = let r = calm-some h p s in record { disk = r.0; live = r.1; same = r.2 }

-- each live disk failed, and one of them has this number and this count since
abbrev pub Rises : DiskSeen → DiskSeen → Type 0
Rises a d = a.live ≡ true → a.faults < d.faults

abbrev pub Blamed : ℕ → ℕ → DiskSeen → DiskSeen → Type 0
Blamed m k a d = (a.live ≡ true) × (a.disk ≡ m) × (a.faults < k) × (k ≡ d.faults)

rises-all : {pages next : Option (List (List ℕ))} {es ds : List DiskSeen} → Pairs (Step pages next) es ds → Pairs Rises es ds → Apart es → (n : ℕ) → Contains (live_in es) n → faults_in es n < faults_in ds n
rises-all pairs_none r p n h = absurd (omega (arith, h.1))
rises-all (pairs_more {x = a} {y = d} {xs = es} {ys = ds} s i) (pairs_more r q) p n h = elim (live-cases a es n h) [
  | inl k ↦ omega (arith, faults-first a es n k.1, faults-first d ds n (k.1 ∙ sym s.disk), r k.0)
  | inr k ↦ let ne = apart-live es n p.0 k in omega (arith, faults-rest a es n ne, faults-rest d ds n (λ e. ne (e ∙ s.disk)), rises-all i q p.1 n k)
]

blamed-some : {pages next : Option (List (List ℕ))} {m k : ℕ} {es ds : List DiskSeen} → Pairs (Step pages next) es ds → Apart es → Somewhere (Blamed m k) es ds → Contains (live_in es) m × (faults_in es m < k) × (k ≡ faults_in ds m)
blamed-some {m = m} {k} (pairs_more {x = a} {y = d} {xs = es} {ys = ds} s i) p (some_here b) = (
  subst (λ v. Contains (live_in (a ∷ es)) v) b.1 (live-here a es b.0),
  omega (arith, faults-first a es m (sym b.1), b.2),
  omega (arith, faults-first d ds m (sym b.1 ∙ sym s.disk), b.3),
)
blamed-some {m = m} {k} (pairs_more {x = a} {y = d} {xs = es} {ys = ds} s i) p (some_later h) =
    let r = blamed-some i p.1 h in
    let ne = apart-live es m p.0 r.0 in
    (live-later a es m r.0, omega (arith, faults-rest a es m ne, r.1), omega (arith, faults-rest d ds m (λ e. ne (e ∙ s.disk)), r.2))
blamed-some pairs_none p h = elim h [ ]

pub fault-by : (before after : Seen) (f : StoreFault) → Pairs (Step before.pages after.pages) before.disks after.disks → Apart before.disks → Pairs Rises before.disks after.disks → Somewhere (Blamed f.disk f.count) before.disks after.disks → IsFault before after f
fault-by before after f h p r b = let s = blamed-some h p b in record { named = s.0; above = s.1; exact = s.2; all = rises-all h r p }

-- each live disk kept the pages
pub kept-each : (pages : Option (List (List ℕ))) (ds : List DiskSeen) → Apart ds → Every (λ (d : DiskSeen). d.live ≡ true → KeptAt d.kept pages) ds → (n : ℕ) → Contains (live_in ds) n → KeptAt (kept_in ds n) pages
kept-each pages [] p every_none n h = absurd (omega (arith, h.1))
kept-each pages (d ∷ ds) p (every_more k i) n h = elim (live-cases d ds n h) [
  | inl q ↦ rw (kept-first d ds n q.1) (k q.0)
  | inr q ↦ let ne = apart-live ds n p.0 q in rw (kept-rest d ds n ne) (kept-each pages ds p.1 i n q)
]

-- what is true of the image of each live disk, and of each opened one
pub live-each : (P : Imaged → Type 0) (ds : List DiskSeen) → Apart ds → Every (λ (d : DiskSeen). d.live ≡ true → (i : Imaged) → d.holds ≡ Some i → P i) ds → (n : ℕ) (i : Imaged) → Contains (live_in ds) n → held_in ds n ≡ Some i → P i
live-each P [] p every_none n i h is = absurd (omega (arith, h.1))
live-each P (d ∷ ds) p (every_more k e) n i h is = elim (live-cases d ds n h) [
  | inl q ↦ k q.0 i (sym (held-first d ds n q.1) ∙ is)
  | inr q ↦ let ne = apart-live ds n p.0 q in live-each P ds p.1 e n i q (sym (held-rest d ds n ne) ∙ is)
]

pub up-each : (P : Imaged → Type 0) (ds : List DiskSeen) → Every (λ (d : DiskSeen). d.up ≡ true → (i : Imaged) → d.holds ≡ Some i → P i) ds → (n : ℕ) (i : Imaged) → is_up_in ds n ≡ true → held_in ds n ≡ Some i → P i
up-each P [] every_none n i up is = cc
up-each P (d ∷ ds) (every_more k e) n i up is = elim (eqb_tells n d.disk) [
  | inl t ↦ k (sym (up-first d ds n t.1) ∙ up) i (sym (held-first d ds n t.1) ∙ is)
  | inr t ↦ up-each P ds e n i (sym (up-rest d ds n t.1) ∙ up) (sym (held-rest d ds n t.1) ∙ is)
]
