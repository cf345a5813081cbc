-- A disk that joins, over plain variables.
use Rattle.std.proofs.Common.{◌≡◌, ℕ, suc, ◌+◌, ◌<◌, Bool, true, false, ◌||◌, List, [], get_or, set, Result, refl, sym, ap, ◌∙◌, subst, arith}
use Rattle.page_ground.specs.declared.fault.StoreFault.{StoreFault}
use Rattle.mirror_rules.specs.Tree.{Cell, Seat, In, Out, Tree, Leaf}
use Rattle.mirror_rules.specs.Tree as machine
use Rattle.mirror_rules.specs.Claims.{Pairs, pairs_more, Has, has_here, has_later, Nth, nth_here, nth_later, IsLive}
use Rattle.mirror_rules.specs.Steps.{Write, Raise, Flush, Says, Done, Fault, Passes, pass_taken, pass_refused, write_taken, raise_taken, flush_taken, refused, Refuses, Reads, read_taken, read_refused, Look, Looked, looked_out, looked_stale, Named, named_here, named_later, HasPage, Found, faulted, written, kept_now, headed}
use Rattle.mirror_rules.specs.Opening.{settled, Only, only_here, only_later, Copies, copy_same, copy_differs, copy_left, copy_gone, copy_even, copy_settled, copy_unflushed, copy_unraised}
use Rattle.mirror_rules.proofs.OpenLaws.{look-live}
use Rattle.mirror_layer.specs.declared.join.Copied.{Copied}
use Rattle.mirror_layer.specs.declared.join.Copied.TheVariants as copied
use Rattle.disk_layer.specs.Disk.{Disk}
use Rattle.mirror_layer.specs.View.{Beside, beside_of}
use Rattle.mirror_layer.specs.Calls.{said, all_told}
use Rattle.mirror_layer.specs.Joining.{CopiesPage, Settles, settles_live, settles_unflushed, settles_unraised, joined, Tells}

pub refused-cell : {p : ℕ} {x : List ℕ} {c e : Cell} {d n : ℕ} → Reads p x (Leaf (In true c)) (Fault d n) (Leaf (In true e)) → (m : ℕ) × (c.faults < m) × (e ≡ faulted m c)
refused-cell (read_refused {n = m} l) = (m, l, refl)

pub taken-cell : {p : ℕ} {x : List ℕ} {c e : Cell} → Reads p x (Leaf (In true c)) (Done true) (Leaf (In true e)) → (get_or c.now.pages p [] ≡ x) × (e ≡ c)
taken-cell (read_taken q) = (q, refl)

pub written-cell : {p : ℕ} {z : List ℕ} {w : Bool} {c e : Cell} → Passes (Write p z) (Leaf (In true c)) (Done w) (Leaf (In true e)) → e ≡ written p z c
written-cell (pass_taken write_taken) = refl

pub unwritten-cell : {p d n : ℕ} {z : List ℕ} {c e : Cell} → Passes (Write p z) (Leaf (In true c)) (Fault d n) (Leaf (In true e)) → (m : ℕ) × (c.faults < m) × (e ≡ faulted m c)
unwritten-cell (pass_refused (refused {n = m} l)) = (m, l, refl)

pub flushed-cell : {w : Bool} {c e : Cell} → Passes Flush (Leaf (In true c)) (Done w) (Leaf (In true e)) → e ≡ kept_now c
flushed-cell (pass_taken flush_taken) = refl

pub unflushed-cell : {d n : ℕ} {c e : Cell} → Passes Flush (Leaf (In true c)) (Fault d n) (Leaf (In true e)) → Refuses Flush c e
unflushed-cell (pass_refused h) = h

pub raised-cell : {g : ℕ} {w : Bool} {c e : Cell} → Passes (Raise g) (Leaf (In true c)) (Done w) (Leaf (In true e)) → e ≡ kept_now (headed g c)
raised-cell (pass_taken raise_taken) = refl

pub unraised-cell : {g d n : ℕ} {c e : Cell} → Passes (Raise g) (Leaf (In true c)) (Fault d n) (Leaf (In true e)) → Refuses (Raise g) c e
unraised-cell (pass_refused h) = h

-- the disk that joins, put at its place
pub nth-plug : {A : Type 0} {i : ℕ} {x : A} (y : A) {xs : List A} → Nth i xs x → Nth i (set xs i y) y
nth-plug y nth_here = nth_here
nth-plug y (nth_later h) = nth_later (nth-plug y h)

pub only-plug : {i : ℕ} {z : Seat} (x y : Seat) {xs : List Seat} → Nth i xs z → Only x y i (set xs i x) (set xs i y)
only-plug x y nth_here = only_here
only-plug x y (nth_later h) = only_later (only-plug x y h)

each-plug : {s : Says} {i : ℕ} {b : machine.Why} {t : machine.Store} (c : Cell) {xs ys : List Seat} → Nth i xs (Out b t) → Pairs (Looked s) xs ys → Pairs (Looked s) (set xs i (In false c)) (set ys i (In false c)) × Nth i ys (Out b t)
each-plug c nth_here (pairs_more looked_out h) = (pairs_more looked_stale h, nth_here)
each-plug c (nth_later k) (pairs_more l h) = let r = each-plug c k h in (pairs_more l r.0, nth_later r.1)

has-plug : {p : ℕ} {x : List ℕ} {i : ℕ} {b : machine.Why} {t : machine.Store} (y : Seat) {xs : List Seat} → Nth i xs (Out b t) → Has (HasPage p x) xs → Has (HasPage p x) (set xs i y)
has-plug y nth_here (has_here h) = elim h [ ]
has-plug y nth_here (has_later h) = has_later h
has-plug y (nth_later k) (has_here h) = has_here h
has-plug y (nth_later k) (has_later h) = has_later (has-plug y k h)

pub named-plug : {d n : ℕ} {i : ℕ} {b : machine.Why} {t : machine.Store} (y z : Seat) {xs ys : List Seat} → Nth i xs (Out b t) → Named d n xs ys → Named d n (set xs i y) (set ys i z)
named-plug y z nth_here (named_later h) = named_later h
named-plug y z (nth_later k) (named_here e l m) = named_here e l m
named-plug y z (nth_later k) (named_later h) = named_later (named-plug y z k h)

pub found-plug : (p : ℕ) (x : List ℕ) (s : Says) {i : ℕ} {b : machine.Why} {t : machine.Store} (y z : Seat) {xs : List Seat} (ys : List Seat) → Nth i xs (Out b t) → Found p x s xs ys → Found p x s (set xs i y) (set ys i z)
found-plug p x (Done w) y z ys k h = (has-plug y k h.0, h.1)
found-plug p x (Fault d n) y z ys k h = named-plug y z k h

pub look-plug : {p : ℕ} {x : List ℕ} {s : Says} {i : ℕ} {b : machine.Why} {t : machine.Store} (c : Cell) {xs ys : List Seat} → Nth i xs (Out b t) → Look p x xs s ys → Look p x (set xs i (In false c)) s (set ys i (In false c)) × Nth i ys (Out b t)
look-plug {p} {x} {s = s} c {ys = ys} k h = let r = each-plug c k h.each in (record { each = r.0; found = found-plug p x s (In false c) (In false c) ys k h.found }, r.1)

-- one page
abbrev pub Copying : Bool → ℕ → ℕ → Bool → ℕ → ℕ → List Seat → Cell → Says → Bool → List Seat → Type 0
Copying told gen i e n p xs c r w zs = Copies told gen i e n p (set xs i (In false c)) r w zs

pub step-same : {told e w : Bool} {i m n p : ℕ} {b : machine.Why} {t : machine.Store} (c d : Cell) {r : Says} {xs ys zs : List Seat} {gen : ℕ} → n ≡ suc m → Nth i xs (Out b t) → CopiesPage told p xs c copied.Same ys d → Copying told gen i e m (p + 1) ys d r w zs → Copying told gen i e n p xs c r w zs
step-same {told} {e} {w} {i} {m} {n} {p} c d {r = r} {xs = xs} {ys = ys} {zs = zs} {gen = gen} q k h rest =
    let l = look-plug c k h.1 in
    subst (λ v. Copying told gen i e v p xs c r w zs) (sym q) (copy_same l.0 (nth-plug (In false c) l.1) h.2 (subst (λ v. Copying told gen i e m (p + 1) ys v r w zs) h.3 rest))

pub step-written : {told e w : Bool} {i m n p : ℕ} {b : machine.Why} {t : machine.Store} (c d : Cell) {r : Says} {xs ys zs : List Seat} {gen : ℕ} → n ≡ suc m → Nth i xs (Out b t) → CopiesPage told p xs c copied.Written ys d → Copying told gen i false m (p + 1) ys d r w zs → Copying told gen i e n p xs c r true zs
step-written {told} {e} {w} {i} {m} {n} {p} c d {r = r} {xs = xs} {ys = ys} {zs = zs} {gen = gen} q k h rest =
    let l = look-plug c k h.2 in
    subst (λ v. Copying told gen i e v p xs c r true zs) (sym q)
    (copy_differs l.0 h.3 h.4 (only-plug (In false c) (In false (written p h.1 c)) l.1) (subst (λ v. Copying told gen i false m (p + 1) ys v r w zs) h.5 rest))

pub step-left : {told e : Bool} {i m n p : ℕ} {b : machine.Why} {t : machine.Store} (c d : Cell) {xs ys : List Seat} {gen : ℕ} → n ≡ suc m → Nth i xs (Out b t) → CopiesPage told p xs c copied.Left ys d → Copying told gen i e n p xs c (Done false) false (set ys i (In false d))
step-left {told} {e} {i} {m} {n} {p} c d {xs = xs} {ys = ys} {gen = gen} q k h =
    let l = look-plug c k h.2 in
    subst (λ v. Copying told gen i e v p xs c (Done false) false (set ys i (In false d))) (sym q)
    (subst (λ v. Copying told gen i e (suc m) p xs c (Done false) false (set ys i (In false v))) (sym h.4) (copy_left l.0 h.3 (only-plug (In false c) (In false (faulted h.1 c)) l.1)))

pub step-gone : {told e : Bool} {i m n p : ℕ} {b : machine.Why} {t : machine.Store} (c d : Cell) {f : StoreFault} {xs ys : List Seat} {gen : ℕ} → n ≡ suc m → Nth i xs (Out b t) → CopiesPage told p xs c (copied.Gone f) ys d → Copying told gen i e n p xs c (Fault f.disk f.count) false (set ys i (In false d))
step-gone {told} {e} {i} {m} {n} {p} c d {f = f} {xs = xs} {ys = ys} {gen = gen} q k h =
    let l = look-plug c k (h.0 []) in
    subst (λ v. Copying told gen i e v p xs c (Fault f.disk f.count) false (set ys i (In false d))) (sym q)
    (subst (λ v. Copying told gen i e (suc m) p xs c (Fault f.disk f.count) false (set ys i (In false v))) (sym h.1) (copy_gone l.0))

pub step-even : {told e : Bool} {i n p : ℕ} {b : machine.Why} {t : machine.Store} (c : Cell) {xs : List Seat} {gen : ℕ} → n ≡ 0 → e ≡ true → Nth i xs (Out b t) → Copying told gen i e n p xs c (Done true) false (set xs i (In true c))
step-even {told} {e} {i} {n} {p} c {xs = xs} {gen = gen} q z k =
    subst (λ v. Copying told gen i e v p xs c (Done true) false (set xs i (In true c))) (sym q)
    (subst (λ v. Copying told gen i v 0 p xs c (Done true) false (set xs i (In true c))) (sym z) (copy_even (only-plug (In false c) (In true c) k)))

settle-step : {told w : Bool} {i p : ℕ} {b : machine.Why} {t : machine.Store} (c d : Cell) {r : Result Bool StoreFault} {xs : List Seat} {gen : ℕ} → Nth i xs (Out b t) → Settles gen c r w d → Copying told gen i false 0 p xs c (said r) w (set xs i (In (joined r) d))
settle-step c d {gen = gen} k settles_live = copy_settled (only-plug (In false c) (In true (settled gen c)) k)
settle-step c d k (settles_unflushed h) = copy_unflushed h (only-plug (In false c) (In false d) k)
settle-step c d k (settles_unraised h e) = copy_unraised h e (only-plug (In false c) (In false d) k)

pub step-settled : {told e w : Bool} {i n p : ℕ} {b : machine.Why} {t : machine.Store} (c d : Cell) {r : Result Bool StoreFault} {xs : List Seat} {gen : ℕ} → n ≡ 0 → e ≡ false → Nth i xs (Out b t) → Settles gen c r w d → Copying told gen i e n p xs c (said r) w (set xs i (In (joined r) d))
step-settled {told} {e} {w} {i} {n} {p} c d {r = r} {xs = xs} {gen = gen} q z k h =
    subst (λ v. Copying told gen i e v p xs c (said r) w (set xs i (In (joined r) d))) (sym q)
    (subst (λ v. Copying told gen i v 0 p xs c (said r) w (set xs i (In (joined r) d))) (sym z) (settle-step c d k h))

-- a page leaves a live disk
pub page-live : (p : ℕ) (c d : Cell) (k : Copied) {xs : List Seat} (ys : List Seat) → CopiesPage false p xs c k ys d → Has IsLive xs → Has IsLive ys
page-live p c d copied.Same ys h l = look-live h.1.each l
page-live p c d copied.Written ys h l = look-live h.2.each l
page-live p c d copied.Left ys h l = look-live h.2.each l
page-live p c d (copied.Gone f) ys h l = look-live (h.0 []).each l

-- what a loop over the pages keeps, from its start: the row and the cell then, and now
pub record Turns (told e0 : Bool) (gen n : ℕ) (xs : List Seat) (c : Cell) (e : Bool) (m p : ℕ) (wrote : Bool) (ys : List Seat) (d : Cell) (i : ℕ) (b : machine.Why) (t : machine.Store) : Type 0 where
  pub place : Nth i ys (Out b t)
  pub turn : (r : Says) (w : Bool) (zs : List Seat) → Copying told gen i e m p ys d r w zs → Copying told gen i e0 n 0 xs c r (wrote || w) zs

or-true : (a : Bool) → (a || true) ≡ true
or-true true = refl
or-true false = refl

pub turn-start : {told e : Bool} {n i : ℕ} {b : machine.Why} {t : machine.Store} {c : Cell} {xs : List Seat} {gen : ℕ} → Nth i xs (Out b t) → Turns told e gen n xs c e n 0 false xs c i b t
turn-start k = record { place = k; turn = λ r w zs h. h }

pub place-after : (told : Bool) (p : ℕ) (c d : Cell) (k : Copied) {i : ℕ} {b : machine.Why} {t : machine.Store} {xs : List Seat} (ys : List Seat) → CopiesPage told p xs c k ys d → Nth i xs (Out b t) → Nth i ys (Out b t)
place-after told p c d copied.Same ys h k = (look-plug c k h.1).1
place-after told p c d copied.Written ys h k = (look-plug c k h.2).1
place-after told p c d copied.Left ys h k = (look-plug c k h.2).1
place-after told p c d (copied.Gone f) ys h k = (look-plug c k (h.0 [])).1

pub turn-same : {told e0 e : Bool} {n m v p i : ℕ} {wrote : Bool} {b : machine.Why} {t : machine.Store} (c d f : Cell) {xs ys zs : List Seat} {gen : ℕ} → v ≡ suc m → CopiesPage told p ys d copied.Same zs f → Turns told e0 gen n xs c e v p wrote ys d i b t → Turns told e0 gen n xs c e m (p + 1) wrote zs f i b t
turn-same {told} {p = p} c d f {zs = zs} {gen = gen} q h a = record { place = place-after told p d f copied.Same zs h a.place; turn = λ r w us k. a.turn r w us (step-same d f q a.place h k) }

pub turn-written : {told e0 e : Bool} {n m v p i : ℕ} {wrote : Bool} {b : machine.Why} {t : machine.Store} (c d f : Cell) {xs ys zs : List Seat} {gen : ℕ} → v ≡ suc m → CopiesPage told p ys d copied.Written zs f → Turns told e0 gen n xs c e v p wrote ys d i b t → Turns told e0 gen n xs c false m (p + 1) true zs f i b t
turn-written {told} {e0} {n = n} {p = p} {i = i} {wrote = wrote} c d f {xs = xs} {zs = zs} {gen = gen} q h a = record {
  place = place-after told p d f copied.Written zs h a.place;
  turn = λ r w us k. subst (λ o. Copying told gen i e0 n 0 xs c r o us) (or-true wrote) (a.turn r true us (step-written d f q a.place h k));
}

pub or-none : (a : Bool) → (a || false) ≡ a
or-none true = refl
or-none false = refl

pub turn-left : {told e0 e : Bool} {n m v p i : ℕ} {wrote : Bool} {b : machine.Why} {t : machine.Store} (c d f : Cell) {xs ys zs : List Seat} {gen : ℕ} → v ≡ suc m → CopiesPage told p ys d copied.Left zs f → Turns told e0 gen n xs c e v p wrote ys d i b t → Copying told gen i e0 n 0 xs c (Done false) wrote (set zs i (In false f))
turn-left {told} {e0} {n = n} {i = i} {wrote = wrote} c d f {xs = xs} {zs = zs} {gen = gen} q h a =
    subst (λ o. Copying told gen i e0 n 0 xs c (Done false) o (set zs i (In false f))) (or-none wrote) (a.turn (Done false) false (set zs i (In false f)) (step-left d f q a.place h))

pub turn-gone : {told e0 e : Bool} {n m v p i : ℕ} {wrote : Bool} {b : machine.Why} {t : machine.Store} (c d f : Cell) {g : StoreFault} {xs ys zs : List Seat} {gen : ℕ} → v ≡ suc m → CopiesPage told p ys d (copied.Gone g) zs f → Turns told e0 gen n xs c e v p wrote ys d i b t
    → Copying told gen i e0 n 0 xs c (Fault g.disk g.count) wrote (set zs i (In false f))
turn-gone {told} {e0} {n = n} {i = i} {wrote = wrote} c d f {g = g} {xs = xs} {zs = zs} {gen = gen} q h a =
    subst (λ o. Copying told gen i e0 n 0 xs c (Fault g.disk g.count) o (set zs i (In false f))) (or-none wrote) (a.turn (Fault g.disk g.count) false (set zs i (In false f)) (step-gone d f q a.place h))

pub turn-even : {told e0 e : Bool} {n v p i : ℕ} {wrote : Bool} {b : machine.Why} {t : machine.Store} (c d : Cell) {xs ys : List Seat} {gen : ℕ} → v ≡ 0 → e ≡ true → Turns told e0 gen n xs c e v p wrote ys d i b t → Copying told gen i e0 n 0 xs c (Done true) wrote (set ys i (In true d))
turn-even {told} {e0} {n = n} {i = i} {wrote = wrote} c d {xs = xs} {ys = ys} {gen = gen} q z a =
    subst (λ o. Copying told gen i e0 n 0 xs c (Done true) o (set ys i (In true d))) (or-none wrote) (a.turn (Done true) false (set ys i (In true d)) (step-even d q z a.place))

pub turn-settled : {told e0 e w o : Bool} {n v p i : ℕ} {wrote : Bool} {b : machine.Why} {t : machine.Store} (c d f : Cell) {r : Result Bool StoreFault} {xs ys : List Seat} {gen : ℕ} → v ≡ 0 → e ≡ false → (wrote || w) ≡ o → Settles gen d r w f
    → Turns told e0 gen n xs c e v p wrote ys d i b t → Copying told gen i e0 n 0 xs c (said r) o (set ys i (In (joined r) f))
turn-settled {told} {e0} {w = w} {n = n} {i = i} c d f {r = r} {xs = xs} {ys = ys} {gen = gen} q z u h a =
    subst (λ o. Copying told gen i e0 n 0 xs c (said r) o (set ys i (In (joined r) f))) u (a.turn (said r) w (set ys i (In (joined r) f)) (step-settled d f q z a.place h))

pub tells-after : {told : Bool} {bs cs : List Beside} (d e : Disk) → cs ≡ bs → beside_of e ≡ beside_of d → Tells told bs d → Tells told cs e
tells-after d e c b h t = (ap all_told c ∙ (h t).0, ap (λ (v : Beside). v.told) b ∙ (h t).1)
