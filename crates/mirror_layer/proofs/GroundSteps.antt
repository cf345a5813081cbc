-- The exits of a ground's loops, over plain variables.
use Rattle.std.proofs.Common.{◌≡◌, ℕ, ◌<◌, Bool, true, false, List, refl, sym, subst}
use Rattle.mirror_rules.specs.Tree.{Seat, Tree, seats, is_live, next, lives}
use Rattle.mirror_rules.specs.Steps.{Act, Write, Raise, Flush, Says, Done, Fault, is_fault, Passes, Raised, raised_whole, raised_again, raised_none, Pays, Flushes, flush_owed, flush_even, flush_lost, flush_none, Puts, put_whole, put_lost, put_refused}
use Rattle.mirror_layer.specs.Ground.{outcome}
use Rattle.mirror_rules.proofs.RoundLaws.{passes-round, live-tree, raised-live}

at-next : {t u : Tree} {g : ℕ} {s : Says} (l : ℕ) → Passes (Raise g) t s u → g ≡ next l → Passes (Raise (next l)) t s u
at-next {t} {u} {s = s} l h q = subst (λ v. Passes (Raise v) t s u) q h

says : {a : Act} {t u : Tree} {v w : Bool} → Passes a t (Done v) u → v ≡ w → Passes a t (Done w) u
says {a} {t} {u} h e = subst (λ b. Passes a t (Done b) u) e h

-- a round of raises, in a ground of the generation l
pub whole : {t u : Tree} {g l : ℕ} {w : Bool} → Passes (Raise g) t (Done w) u → w ≡ true → g ≡ next l → Raised l (seats t) (Done true) g (seats u)
whole {t} {u} {l = l} h e q = subst (λ v. Raised l (seats t) (Done true) v (seats u)) (sym q) (raised_whole (passes-round (at-next l (says h e) q)))

pub again : {t u : Tree} {g h l : ℕ} {w : Bool} {s : Says} {ys : List Seat} → Passes (Raise g) t (Done w) u → w ≡ false → g ≡ next l → Raised g (seats u) s h ys → Raised l (seats t) s h ys
again {u = u} {h = h} {l = l} {s = s} {ys = ys} p e q r = raised_again (passes-round (at-next l (says p e) q)) (subst (λ v. Raised v (seats u) s h ys) q r)

pub none : {t u : Tree} {g l d n : ℕ} → Passes (Raise g) t (Fault d n) u → g ≡ next l → Raised l (seats t) (Fault d n) l (seats u)
none {l = l} h q = raised_none (passes-round (at-next l h q))

-- a round that made a side stale left a live disk, and fewer
pub fell : {a : Act} {t u : Tree} {w : Bool} → Passes a t (Done w) u → w ≡ false → (is_live u ≡ true) × (lives (seats u) < lives (seats t))
fell {u = u} h e = let r = (passes-round h).answer in (live-tree u r.0, r.1 e)

-- raises that were taken left a live disk
pub raised-tree : {g h : ℕ} {xs : List Seat} (u : Tree) → Raised g xs (Done true) h (seats u) → is_live u ≡ true
raised-tree u h = live-tree u (raised-live h refl)

-- a flush
pub owed-paid : {o q : Bool} {g h : ℕ} {s : Says} {xs ys : List Seat} → o ≡ true → q ≡ is_fault s → Pays g xs s h ys → Flushes o g xs s q h ys
owed-paid {o} {q} {g} {h} {s} {xs} {ys} e i p = subst (λ v. Flushes v g xs s q h ys) (sym e) (subst (λ v. Flushes true g xs s v h ys) (sym i) (flush_owed p))

pub flushed : {o w : Bool} {g : ℕ} {t u : Tree} → o ≡ false → Passes Flush t (Done w) u → w ≡ true → Flushes o g (seats t) (Done true) o g (seats u)
flushed {g = g} {t = t} {u = u} o h e = subst (λ v. Flushes v g (seats t) (Done true) v g (seats u)) (sym o) (flush_even (passes-round (says h e)))

pub lost-paid : {o w q : Bool} {g h : ℕ} {s : Says} {ys : List Seat} {t u : Tree} → o ≡ false → Passes Flush t (Done w) u → w ≡ false → q ≡ is_fault s → Pays g (seats u) s h ys → Flushes o g (seats t) s q h ys
lost-paid {q = q} {g = g} {h = h} {s = s} {ys = ys} {t = t} o p e i r = subst (λ v. Flushes v g (seats t) s q h ys) (sym o) (subst (λ v. Flushes false g (seats t) s v h ys) (sym i) (flush_lost (passes-round (says p e)) r))

pub refused-all : {o : Bool} {g d n : ℕ} {t u : Tree} → o ≡ false → Passes Flush t (Fault d n) u → Flushes o g (seats t) (Fault d n) o g (seats u)
refused-all {g = g} {d = d} {n = n} {t = t} {u = u} o h = subst (λ v. Flushes v g (seats t) (Fault d n) v g (seats u)) (sym o) (flush_none (passes-round h))

-- a write
pub wrote-whole : {p : ℕ} {x : List ℕ} {o w : Bool} {t u : Tree} → Passes (Write p x) t (Done w) u → w ≡ true → (s : Says) × (outcome s ≡ Done true) × Puts p x o (seats t) s o (seats u)
wrote-whole h e = (Done true, refl, put_whole (passes-round (says h e)))

pub wrote-lost : {p : ℕ} {x : List ℕ} {o w : Bool} {t u : Tree} → Passes (Write p x) t (Done w) u → w ≡ false → (s : Says) × (outcome s ≡ Done true) × Puts p x o (seats t) s true (seats u)
wrote-lost h e = (Done false, refl, put_lost (passes-round (says h e)))

pub wrote-none : {p : ℕ} {x : List ℕ} {o : Bool} {d n : ℕ} {t u : Tree} → Passes (Write p x) t (Fault d n) u → (s : Says) × (outcome s ≡ Fault d n) × Puts p x o (seats t) s o (seats u)
wrote-none {d = d} {n = n} h = (Fault d n, refl, put_refused (passes-round h))
