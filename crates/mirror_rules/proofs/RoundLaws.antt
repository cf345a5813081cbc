-- The one induction over the tree: what a round and a read do to the disks in a row.
use Rattle.std.proofs.Common.{◌≡◌, ℕ, ◌+◌, ◌<◌, ◌≤◌, Bool, true, false, ◌&&◌, ◌||◌, List, [], ◌∷◌, ◌++◌, map, refl, sym, ◌∙◌, ap, subst, arith, ◌⊎◌, inl, inr}
use Rattle.std.proofs.lemmas.List.{map-append}
use Rattle.std.proofs.lemmas.Bool.{or_left, or_right}
use Rattle.mirror_rules.specs.Tree.{Cell, Seat, In, Out, Tree, Leaf, Coherent, Mirror, seats, is_live, stale, left_out, lives}
use Rattle.mirror_rules.specs.Claims.{Pairs, pairs_none, pairs_more, Has, has_here, has_later, live_in, IsLive}
use Rattle.mirror_rules.specs.Steps.{Act, Says, Done, Fault, Refuses, refused, raise_unkept, raise_kept, flush_kept, Passes, pass_taken, pass_refused, pass_below, pass_both, pass_left, pass_right, pass_none, pass_left_only, pass_right_only, Reads, read_taken, read_refused, read_below, read_left, read_right, read_left_only, read_right_only, Asked, asked_out, asked_stale, asked_took, asked_lost, asked_none, Looked, looked_out, looked_stale, looked_same, looked_refused, Named, named_here, named_later, Answer, Round, page_live, Found, Look, is_done, Raised, raised_whole, raised_again, raised_none}

pub pairs-append : {A B : Type 0} {R : A → B → Type 0} {xs zs : List A} {ys us : List B} → Pairs R xs ys → Pairs R zs us → Pairs R (xs ++ zs) (ys ++ us)
pairs-append pairs_none k = k
pairs-append (pairs_more h i) k = pairs_more h (pairs-append i k)

pub pairs-map : {A B : Type 0} {R S : A → B → Type 0} {xs : List A} {ys : List B} → ((x : A) (y : B) → R x y → S x y) → Pairs R xs ys → Pairs S xs ys
pairs-map f pairs_none = pairs_none
pairs-map f (pairs_more {x = x} {y = y} h i) = pairs_more (f x y h) (pairs-map f i)

pub has-left : {A : Type 0} {P : A → Type 0} {xs : List A} (ys : List A) → Has P xs → Has P (xs ++ ys)
has-left ys (has_here h) = has_here h
has-left ys (has_later h) = has_later (has-left ys h)

pub has-right : {A : Type 0} {P : A → Type 0} (xs : List A) {ys : List A} → Has P ys → Has P (xs ++ ys)
has-right [] h = h
has-right (x ∷ xs) h = has_later (has-right xs h)

named-left : {d n : ℕ} {xs ys : List Seat} (zs us : List Seat) → Named d n xs ys → Named d n (xs ++ zs) (ys ++ us)
named-left zs us (named_here a b c) = named_here a b c
named-left zs us (named_later h) = named_later (named-left zs us h)

named-right : {d n : ℕ} {R : Seat → Seat → Type 0} {xs ys zs us : List Seat} → Pairs R xs ys → Named d n zs us → Named d n (xs ++ zs) (ys ++ us)
named-right pairs_none h = h
named-right (pairs_more a b) h = named_later (named-right b h)

lives-append : (xs ys : List Seat) → lives (xs ++ ys) ≡ lives xs + lives ys
lives-append [] ys = omega arith
lives-append (In true c ∷ xs) ys = omega (arith, lives-append xs ys)
lives-append (In false c ∷ xs) ys = lives-append xs ys
lives-append (Out b s ∷ xs) ys = lives-append xs ys

named-lives : {d n : ℕ} {xs ys : List Seat} → Named d n xs ys → 0 < lives xs
named-lives (named_here a b c) = omega arith
named-lives (named_later {x = In true c} h) = omega arith
named-lives (named_later {x = In false c} h) = named-lives h
named-lives (named_later {x = Out b s} h) = named-lives h

asked-lives : {a : Act} {s : Says} {xs ys : List Seat} → Pairs (Asked a s) xs ys → lives ys ≤ lives xs
asked-lives pairs_none = omega arith
asked-lives (pairs_more asked_out i) = asked-lives i
asked-lives (pairs_more asked_stale i) = asked-lives i
asked-lives (pairs_more (asked_took h) i) = omega (arith, asked-lives i)
asked-lives (pairs_more (asked_lost h) i) = omega (arith, asked-lives i)
asked-lives (pairs_more (asked_none h) i) = omega (arith, asked-lives i)

or-none-left : (a b : Bool) → (a || b) ≡ false → a ≡ false
or-none-left true b e = cc
or-none-left false b e = refl

or-none-right : (a b : Bool) → (a || b) ≡ false → b ≡ false
or-none-right true b e = cc
or-none-right false b e = e

and-left : (v w : Bool) → v ≡ false → (v && w) ≡ false
and-left true w e = cc
and-left false w e = refl

and-right : (v w : Bool) → w ≡ false → (v && w) ≡ false
and-right true w e = e
and-right false w e = refl

-- a refusal says the same of each disk whoever is named
asked-any : {a : Act} {d j e i : ℕ} {x y : Seat} → Asked a (Fault d j) x y → Asked a (Fault e i) x y
asked-any asked_out = asked_out
asked-any asked_stale = asked_stale
asked-any (asked_none h) = asked_none h

none-any : {a : Act} {d j e i : ℕ} {xs ys : List Seat} → Pairs (Asked a (Fault d j)) xs ys → Pairs (Asked a (Fault e i)) xs ys
none-any h = pairs-map (λ x y. asked-any) h

both-falls : (v w : Bool) (lr mn l r m n : ℕ) → lr ≡ l + r → mn ≡ m + n → m ≤ l → n ≤ r → (v ≡ false → m < l) → (w ≡ false → n < r) → (v && w) ≡ false → mn < lr
both-falls true w lr mn l r m n a b c d f g e = omega (arith, g e)
both-falls false w lr mn l r m n a b c d f g e = omega (arith, f refl)

beside-left : (s : Says) (xs ys zs : List Seat) → Answer s xs ys → Answer s (xs ++ zs) (ys ++ zs)
beside-left (Done w) xs ys zs h = (has-left zs h.0, λ e. omega (arith, lives-append xs zs, lives-append ys zs, h.1 e))
beside-left (Fault d n) xs ys zs h = named-left zs zs h

beside-right : {R : Seat → Seat → Type 0} (s : Says) (xs ys zs : List Seat) → Pairs R zs zs → Answer s xs ys → Answer s (zs ++ xs) (zs ++ ys)
beside-right (Done w) xs ys zs k h = (has-right zs h.0, λ e. omega (arith, lives-append zs xs, lives-append zs ys, h.1 e))
beside-right (Fault d n) xs ys zs k h = named-right k h

-- a side that refused while the other took it
asked-stale : {a : Act} {d j : ℕ} {x y : Seat} → Asked a (Fault d j) x y → Asked a (Done false) x (left_out y)
asked-stale asked_out = asked_out
asked-stale asked_stale = asked_stale
asked-stale (asked_none h) = asked_lost h

stale-seats : (u : Tree) → seats (stale u) ≡ map left_out (seats u)
stale-seats (Leaf s) = refl
stale-seats (Coherent u) = stale-seats u
stale-seats (Mirror l r) = ap (λ v. v ++ seats (stale r)) (stale-seats l) ∙ ap (λ v. map left_out (seats l) ++ v) (stale-seats r) ∙ sym (map-append left_out (seats l) (seats r))

stale-row : {a : Act} {d j : ℕ} {xs ys : List Seat} → Pairs (Asked a (Fault d j)) xs ys → Pairs (Asked a (Done false)) xs (map left_out ys)
stale-row pairs_none = pairs_none
stale-row (pairs_more h i) = pairs_more (asked-stale h) (stale-row i)

stale-each : {a : Act} {d j : ℕ} {xs : List Seat} (u : Tree) → Pairs (Asked a (Fault d j)) xs (seats u) → Pairs (Asked a (Done false)) xs (seats (stale u))
stale-each {a} {d} {j} {xs} u h = subst (λ v. Pairs (Asked a (Done false)) xs v) (sym (stale-seats u)) (stale-row h)

stale-none : (xs : List Seat) → lives (map left_out xs) ≡ 0
stale-none [] = refl
stale-none (In b c ∷ xs) = stale-none xs
stale-none (Out b s ∷ xs) = stale-none xs

stale-lives : (u : Tree) → lives (seats (stale u)) ≡ 0
stale-lives u = ap lives (stale-seats u) ∙ stale-none (seats u)

-- a side that took it, in a mirror where more became stale
asked-less : {a : Act} {x y : Seat} (v w : Bool) → (v ≡ false → w ≡ false) → Asked a (Done v) x y → Asked a (Done w) x y
asked-less v w f asked_out = asked_out
asked-less v w f asked_stale = asked_stale
asked-less v w f (asked_took h) = asked_took h
asked-less {a} v w f (asked_lost {c = c} {d = d} h) = subst (λ b. Asked a (Done b) (In true c) (In false d)) (sym (f refl)) (asked_lost h)

less : {a : Act} {xs ys : List Seat} (v w : Bool) → (v ≡ false → w ≡ false) → Pairs (Asked a (Done v)) xs ys → Pairs (Asked a (Done w)) xs ys
less v w f h = pairs-map (λ x y. asked-less v w f) h

-- a stale side is left alone
dead : {a : Act} (s : Says) (t : Tree) → is_live t ≡ false → Pairs (Asked a s) (seats t) (seats t)
dead s (Leaf (In true c)) e = cc
dead s (Leaf (In false c)) e = pairs_more asked_stale pairs_none
dead s (Leaf (Out b t)) e = pairs_more asked_out pairs_none
dead s (Coherent t) e = dead s t e
dead s (Mirror l r) e = pairs-append (dead s l (or-none-left (is_live l) (is_live r) e)) (dead s r (or-none-right (is_live l) (is_live r) e))

pub refuses-fault : {a : Act} {c d : Cell} → Refuses a c d → (c.disk ≡ d.disk) × (c.faults < d.faults)
refuses-fault (refused l) = (refl, l)
refuses-fault (raise_unkept l) = (refl, l)
refuses-fault (raise_kept l) = (refl, l)
refuses-fault (flush_kept l) = (refl, l)

pub passes-each : {a : Act} {t u : Tree} {s : Says} → Passes a t s u → Pairs (Asked a s) (seats t) (seats u)
passes-each (pass_taken h) = pairs_more (asked_took h) pairs_none
passes-each (pass_refused h) = pairs_more (asked_none h) pairs_none
passes-each (pass_below h) = passes-each h
passes-each (pass_both {v = v} {w = w} h i) = pairs-append (less v (v && w) (and-left v w) (passes-each h)) (less w (v && w) (and-right v w) (passes-each i))
passes-each (pass_left {n = n} {v = v} h i) = pairs-append (less v false (λ _. refl) (passes-each h)) (stale-each n (passes-each i))
passes-each (pass_right {m = m} {w = w} h i) = pairs-append (stale-each m (passes-each h)) (less w false (λ _. refl) (passes-each i))
passes-each (pass_none h i) = pairs-append (none-any (passes-each h)) (passes-each i)
passes-each (pass_left_only {r = r} {s = s} e h) = pairs-append (passes-each h) (dead s r e)
passes-each (pass_right_only {l = l} {s = s} e h) = pairs-append (dead s l e) (passes-each h)

pub passes-answer : {a : Act} {t u : Tree} {s : Says} → Passes a t s u → Answer s (seats t) (seats u)
passes-answer (pass_taken h) = (has_here live_in, λ e. cc)
passes-answer (pass_refused h) = named_here refl (refuses-fault h).1 refl
passes-answer (pass_below h) = passes-answer h
passes-answer (pass_both {l = l} {r = r} {m = m} {n = n} {v = v} {w = w} h i) =
    let x = passes-answer h in let y = passes-answer i in
    (has-left (seats n) x.0, λ e. both-falls v w _ _ _ _ _ _ (lives-append (seats l) (seats r)) (lives-append (seats m) (seats n)) (asked-lives (passes-each h)) (asked-lives (passes-each i)) x.1 y.1 e)
passes-answer (pass_left {l = l} {r = r} {m = m} {n = n} h i) =
    (has-left (seats (stale n)) (passes-answer h).0, λ _. omega (arith, lives-append (seats l) (seats r), lives-append (seats m) (seats (stale n)), asked-lives (passes-each h), named-lives (passes-answer i), stale-lives n))
passes-answer (pass_right {l = l} {r = r} {m = m} {n = n} h i) =
    (has-right (seats (stale m)) (passes-answer i).0, λ _. omega (arith, lives-append (seats l) (seats r), lives-append (seats (stale m)) (seats n), asked-lives (passes-each i), named-lives (passes-answer h), stale-lives m))
passes-answer (pass_none h i) = named-right (passes-each h) (passes-answer i)
passes-answer (pass_left_only {l = l} {r = r} {m = m} {s = s} e h) = beside-left s (seats l) (seats m) (seats r) (passes-answer h)
passes-answer {a} (pass_right_only {l = l} {r = r} {n = n} {s = s} e h) = beside-right s (seats r) (seats n) (seats l) (dead {a = a} s l e) (passes-answer h)

pub passes-round : {a : Act} {t u : Tree} {s : Says} → Passes a t s u → Round a (seats t) s (seats u)
passes-round h = record { each = passes-each h; answer = passes-answer h }

-- a side that a read does not ask
idle : (xs : List Seat) → Pairs (Looked (Done true)) xs xs
idle [] = pairs_none
idle (In true c ∷ xs) = pairs_more (looked_same refl) (idle xs)
idle (In false c ∷ xs) = pairs_more looked_stale (idle xs)
idle (Out b t ∷ xs) = pairs_more looked_out (idle xs)

dead-look : (s : Says) (t : Tree) → is_live t ≡ false → Pairs (Looked s) (seats t) (seats t)
dead-look s (Leaf (In true c)) e = cc
dead-look s (Leaf (In false c)) e = pairs_more looked_stale pairs_none
dead-look s (Leaf (Out b t)) e = pairs_more looked_out pairs_none
dead-look s (Coherent t) e = dead-look s t e
dead-look s (Mirror l r) e = pairs-append (dead-look s l (or-none-left (is_live l) (is_live r) e)) (dead-look s r (or-none-right (is_live l) (is_live r) e))

looked-any : (s : Says) {d j : ℕ} {x y : Seat} → Looked (Fault d j) x y → Looked s x y
looked-any s looked_out = looked_out
looked-any s looked_stale = looked_stale
looked-any s (looked_same e) = cc
looked-any s (looked_refused l) = looked_refused l

pub reads-each : {p : ℕ} {x : List ℕ} {t u : Tree} {s : Says} → Reads p x t s u → Pairs (Looked s) (seats t) (seats u)
reads-each (read_taken e) = pairs_more (looked_same refl) pairs_none
reads-each (read_refused l) = pairs_more (looked_refused l) pairs_none
reads-each (read_below h) = reads-each h
reads-each (read_left {r = r} h) = pairs-append (reads-each h) (idle (seats r))
reads-each (read_right {s = s} h i) = pairs-append (pairs-map (λ x y. looked-any s) (reads-each h)) (reads-each i)
reads-each (read_left_only {r = r} {d = d} {j = j} e h) = pairs-append (reads-each h) (dead-look (Fault d j) r e)
reads-each (read_right_only {l = l} {s = s} e h) = pairs-append (dead-look s l e) (reads-each h)

found-right : {R : Seat → Seat → Type 0} {zs us : List Seat} (p : ℕ) (x : List ℕ) (s : Says) (xs ys : List Seat) → Pairs R zs us → Found p x s xs ys → Found p x s (zs ++ xs) (us ++ ys)
found-right {zs = zs} p x (Done w) xs ys k h = (has-right zs h.0, h.1)
found-right p x (Fault d n) xs ys k h = named-right k h

pub reads-found : {p : ℕ} {x : List ℕ} {t u : Tree} {s : Says} → Reads p x t s u → Found p x s (seats t) (seats u)
reads-found (read_taken e) = (has_here (page_live e), refl)
reads-found (read_refused l) = named_here refl l refl
reads-found (read_below h) = reads-found h
reads-found (read_left {r = r} h) = let f = reads-found h in (has-left (seats r) f.0, refl)
reads-found {p} {x} (read_right {r = r} {n = n} {s = s} h i) = found-right p x s (seats r) (seats n) (reads-each h) (reads-found i)
reads-found (read_left_only {r = r} e h) = named-left (seats r) (seats r) (reads-found h)
reads-found {p} {x} (read_right_only {l = l} {r = r} {n = n} {s = s} e h) = found-right p x s (seats r) (seats n) (dead-look s l e) (reads-found h)

pub reads-look : {p : ℕ} {x : List ℕ} {t u : Tree} {s : Says} → Reads p x t s u → Look p x (seats t) s (seats u)
reads-look h = record { each = reads-each h; found = reads-found h }

-- a side is live where a disk of it is
pub has-split : {A : Type 0} {P : A → Type 0} (xs ys : List A) → Has P (xs ++ ys) → Has P xs ⊎ Has P ys
has-split [] ys h = inr h
has-split (x ∷ xs) ys (has_here p) = inl (has_here p)
has-split (x ∷ xs) ys (has_later h) = elim (has-split xs ys h) [ inl k ↦ inl (has_later k) | inr k ↦ inr k ]

pub live-tree : (t : Tree) → Has IsLive (seats t) → is_live t ≡ true
live-tree (Leaf (In true c)) h = refl
live-tree (Leaf (In false c)) (has_here k) = elim k [ ]
live-tree (Leaf (In false c)) (has_later k) = elim k [ ]
live-tree (Leaf (Out b s)) (has_here k) = elim k [ ]
live-tree (Leaf (Out b s)) (has_later k) = elim k [ ]
live-tree (Coherent t) h = live-tree t h
live-tree (Mirror l r) h = elim (has-split (seats l) (seats r) h) [ inl k ↦ or_left (is_live l) (is_live r) (live-tree l k) | inr k ↦ or_right (is_live l) (is_live r) (live-tree r k) ]

pub or-cases : (a b : Bool) → (a || b) ≡ true → (a ≡ true) ⊎ (b ≡ true)
or-cases true b e = inl refl
or-cases false b e = inr e

pub live-seats : (t : Tree) → is_live t ≡ true → Has IsLive (seats t)
live-seats (Leaf (In true c)) h = has_here live_in
live-seats (Leaf (In false c)) h = cc
live-seats (Leaf (Out b s)) h = cc
live-seats (Coherent t) h = live-seats t h
live-seats (Mirror l r) h = elim (or-cases (is_live l) (is_live r) h) [ inl e ↦ has-left (seats r) (live-seats l e) | inr e ↦ has-right (seats l) (live-seats r e) ]

-- a raise that was taken leaves a live disk
pub raised-live : {g h : ℕ} {s : Says} {xs ys : List Seat} → Raised g xs s h ys → is_done s ≡ true → Has IsLive ys
raised-live (raised_whole h) e = h.answer.0
raised-live (raised_again h i) e = raised-live i e
raised-live (raised_none h) e = cc

-- the measure of the loop: the live disks never get more
pub raised-lives : {g h : ℕ} {s : Says} {xs ys : List Seat} → Raised g xs s h ys → lives ys ≤ lives xs
raised-lives (raised_whole h) = asked-lives h.each
raised-lives (raised_again h i) = omega (arith, asked-lives h.each, raised-lives i)
raised-lives (raised_none h) = asked-lives h.each
