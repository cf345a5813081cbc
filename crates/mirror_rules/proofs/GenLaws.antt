-- Generations: the live disks have the ground's, or the next one, and no opened disk has more; once what was owed is paid, each
-- other is below.
use Rattle.std.proofs.Common.{◌≡◌, ℕ, ◌+◌, ◌≤◌, ◌⊎◌, inl, inr, min, Bool, true, false, List, Option, Some, None, refl, sym, ◌∙◌, ap, subst, arith}
use Rattle.mirror_rules.specs.Tree.{Image, Cell, Seat, In, next, limit}
use Rattle.mirror_rules.specs.Claims.{Pairs, Every, every_none, every_more, Has, IsLive}
use Rattle.mirror_rules.specs.Steps.{Write, Raise, Flush, Says, Done, Fault, is_done, is_fault, write_taken, raise_taken, flush_taken, Refuses, refused, raise_unkept, raise_kept, flush_kept, faulted, headed, kept_now, written, Asked, asked_out, asked_stale, asked_took, asked_lost, asked_none, Looked, looked_out, looked_stale, looked_same, looked_refused, Round, Raised, raised_whole, raised_again, raised_none, Pays, pays_twice, pays_unraised, Flushes, flush_owed, flush_even, flush_lost, flush_none, Puts, put_whole, put_lost, put_refused, cut_before, cut_taken, cut_refused, Halted, halted_out, halted_stale, halted_live, RaiseStops, stops_here, stops_later, FlushStops, stops_owed, stops_even, stops_lost}
use Rattle.mirror_rules.specs.Guards.{Medium, Shows, shows_now, shows_kept}
use Rattle.mirror_rules.specs.Levels.{Near, near_in, near_out, Level, level_in, level_out, HasLevel, has_live, has_left, has_out, Even}
use Rattle.mirror_rules.proofs.RoundLaws.{raised-live}
use Rattle.mirror_rules.proofs.PageLaws.{pairs-every}

-- what a disk shows
pub shows-any : {v : Medium} {a b : Bool} {c : Cell} {i : Image} → Shows v (In a c) i → Shows v (In b c) i
shows-any shows_now = shows_now
shows-any (shows_kept e k) = shows_kept e k

pub some-same : (c d : Image) → ◌≡◌ {A = Option Image} (Some c) (Some d) → c ≡ d
some-same c d e = cc

pub some-none : (c : Image) → ◌≡◌ {A = Option Image} (Some c) None → ⊥
some-none c e = cc

pub flushed-shows : {v : Medium} {b : Bool} {c : Cell} (i : Image) → Shows v (In b (kept_now c)) i → Shows v (In b c) i
flushed-shows i shows_now = shows_now
flushed-shows {v} {b} {c} i (shows_kept e k) = subst (λ j. Shows v (In b c) j) (some-same c.now i k) shows_now

pub raised-shows : {v : Medium} {b : Bool} {k : ℕ} (c : Cell) (i : Image) → Shows v (In b (kept_now (headed k c))) i → i.generation ≡ k
raised-shows c i shows_now = refl
raised-shows {k = k} c i (shows_kept e q) = sym (ap (λ (j : Image). j.generation) (some-same (headed k c).now i q))

pub faulted-shows : {v : Medium} {b : Bool} {c : Cell} (n : ℕ) (i : Image) → Shows v (In b (faulted n c)) i → Shows v (In b c) i
faulted-shows n i shows_now = shows_now
faulted-shows n i (shows_kept e k) = shows_kept e k

pub unraised-shows : {v : Medium} {b : Bool} {k : ℕ} {c d : Cell} → Refuses (Raise k) c d → (i : Image) → Shows v (In b d) i → Shows v (In b c) i ⊎ (i.generation ≡ k)
unraised-shows (refused l) i shows_now = inl shows_now
unraised-shows (refused l) i (shows_kept e q) = inl (shows_kept e q)
unraised-shows (raise_unkept l) i shows_now = inr refl
unraised-shows (raise_unkept l) i (shows_kept e q) = inl (shows_kept e q)
unraised-shows {v} {b} {k} {c} (raise_kept {n = n} l) i z = inr (raised-shows {v = v} {b = b} c i (faulted-shows n i z))

pub unflushed-shows : {v : Medium} {b : Bool} {c d : Cell} → Refuses Flush c d → (i : Image) → Shows v (In b d) i → Shows v (In b c) i
unflushed-shows (refused {n = n} l) i z = faulted-shows n i z
unflushed-shows (flush_kept {n = n} l) i z = flushed-shows i (faulted-shows n i z)

-- a round of raises
done-level : {v : Medium} {g : ℕ} {w : Bool} {x y : Seat} → Near v g x → Asked (Raise (next g)) (Done w) x y → Level v (next g) y
done-level near_out asked_out = level_out
done-level (near_in most least) asked_stale = level_in most (λ e. cc)
done-level (near_in most least) (asked_took (raise_taken {c = c})) = level_in (λ i z. omega (arith, raised-shows c i z)) (λ e i z. omega (arith, raised-shows c i z))
done-level (near_in most least) (asked_lost h) = level_in {b = false} (λ i z. elim (unraised-shows h i z) [ inl q ↦ most i (shows-any q) | inr q ↦ omega (arith, q) ]) (λ e. cc)

none-near : {v : Medium} {g d n : ℕ} {x y : Seat} → g ≤ limit → Near v g x → Asked (Raise (next g)) (Fault d n) x y → Near v g y
none-near l near_out asked_out = near_out
none-near l (near_in most least) asked_stale = near_in most (λ e. cc)
none-near l (near_in most least) (asked_none h) = near_in (λ i z. elim (unraised-shows h i z) [ inl q ↦ most i q | inr q ↦ omega (arith, q) ]) (λ e i z. elim (unraised-shows h i z) [ inl q ↦ least refl i q | inr q ↦ omega (arith, q) ])

pub level-near : {v : Medium} {g : ℕ} {x : Seat} → g ≤ limit → Level v g x → Near v g x
level-near l level_out = near_out
level-near l (level_in most least) = near_in (λ i z. let k = most i z in omega arith) least

pub every-map : {A : Type 0} {P Q : A → Type 0} {xs : List A} → ((x : A) → P x → Q x) → Every P xs → Every Q xs
every-map f every_none = every_none
every-map f (every_more {x = x} p i) = every_more (f x p) (every-map f i)

pub levels-near : {v : Medium} {g : ℕ} {xs : List Seat} → g ≤ limit → Every (Level v g) xs → Every (Near v g) xs
levels-near l h = every-map (λ x. level-near l) h

round-level : {v : Medium} {g : ℕ} {w : Bool} {xs ys : List Seat} → Round (Raise (next g)) xs (Done w) ys → Every (Near v g) xs → Every (Level v (next g)) ys
round-level h i = pairs-every (λ x y k n. done-level n k) h.each i

-- a round that was taken leaves the disks near to the next generation
pub taken-near : {v : Medium} {g : ℕ} {w : Bool} {xs ys : List Seat} → Round (Raise (next g)) xs (Done w) ys → g ≤ limit → Every (Near v g) xs → Every (Near v (next g)) ys
taken-near h l n = levels-near (omega arith) (round-level h n)

round-none : {v : Medium} {g d n : ℕ} {xs ys : List Seat} → Round (Raise (next g)) xs (Fault d n) ys → g ≤ limit → Every (Near v g) xs → Every (Near v g) ys
round-none h l i = pairs-every (λ x y k n. none-near l n k) h.each i

-- a second round that made no side stale
whole-level : {v : Medium} {g : ℕ} {x y : Seat} → Level v g x → Asked (Raise (next g)) (Done true) x y → HasLevel v (next g) y
whole-level level_out asked_out = has_out
whole-level (level_in most least) asked_stale = has_left (λ i z. let k = most i z in omega arith)
whole-level (level_in most least) (asked_took (raise_taken {c = c})) = has_live (λ i z. raised-shows c i z)

-- raises
pub raised-bound : {g h : ℕ} {s : Says} {xs ys : List Seat} → Raised g xs s h ys → g ≤ limit → (g ≤ h) × (h ≤ limit)
raised-bound (raised_whole h) l = (omega arith, omega arith)
raised-bound (raised_again h i) l = let a = raised-bound i (omega arith) in (omega (arith, a.0), a.1)
raised-bound (raised_none h) l = (omega arith, l)

pub raised-up : {g h : ℕ} {s : Says} {xs ys : List Seat} → Raised g xs s h ys → is_done s ≡ true → g ≤ limit → next g ≤ h
raised-up (raised_whole h) e l = omega arith
raised-up (raised_again h i) e l = (raised-bound i (omega arith)).0
raised-up (raised_none h) e l = cc

pub raised-level : {v : Medium} {g h : ℕ} {s : Says} {xs ys : List Seat} → Raised g xs s h ys → is_done s ≡ true → g ≤ limit → Every (Near v g) xs → Every (Level v h) ys
raised-level (raised_whole h) e l n = round-level h n
raised-level (raised_again h i) e l n = raised-level i e (omega arith) (levels-near (omega arith) (round-level h n))
raised-level (raised_none h) e l n = cc

pub raised-near : {v : Medium} {g h : ℕ} {s : Says} {xs ys : List Seat} → Raised g xs s h ys → g ≤ limit → Every (Near v g) xs → Every (Near v h) ys
raised-near (raised_whole h) l n = levels-near (omega arith) (round-level h n)
raised-near (raised_again h i) l n = raised-near i (omega arith) (levels-near (omega arith) (round-level h n))
raised-near (raised_none h) l n = round-none h l n

raised-has : {v : Medium} {g h : ℕ} {s : Says} {xs ys : List Seat} → Raised g xs s h ys → is_done s ≡ true → g ≤ limit → Every (Level v g) xs → Every (HasLevel v h) ys
raised-has (raised_whole h) e l n = pairs-every (λ x y k m. whole-level m k) h.each n
raised-has (raised_again h i) e l n = raised-has i e (omega arith) (round-level h (levels-near l n))
raised-has (raised_none h) e l n = cc

-- what is paid
pub pays-bound : {g h : ℕ} {s : Says} {xs ys : List Seat} → Pays g xs s h ys → g ≤ limit → (g ≤ h) × (h ≤ limit)
pays-bound (pays_twice h i) l = let a = raised-bound h l in let b = raised-bound i a.1 in (omega (arith, a.0, b.0), b.1)
pays-bound (pays_unraised h) l = raised-bound h l

pub pays-near : {v : Medium} {g h : ℕ} {s : Says} {xs ys : List Seat} → Pays g xs s h ys → g ≤ limit → Every (Near v g) xs → Every (Near v h) ys
pays-near (pays_twice h i) l n = raised-near i (raised-bound h l).1 (raised-near h l n)
pays-near (pays_unraised h) l n = raised-near h l n

pub pays-up : {g h : ℕ} {s : Says} {xs ys : List Seat} → Pays g xs s h ys → is_done s ≡ true → g ≤ limit → min (g + 2) limit ≤ h
pays-up (pays_twice h i) e l = omega (arith, raised-up h refl l, raised-up i e (raised-bound h l).1)
pays-up (pays_unraised h) e l = cc

pub pays-has : {v : Medium} {g h : ℕ} {s : Says} {xs ys : List Seat} → Pays g xs s h ys → is_done s ≡ true → g ≤ limit → Every (Near v g) xs → Every (HasLevel v h) ys
pays-has (pays_twice h i) e l n = raised-has i e (raised-bound h l).1 (raised-level h refl l n)
pays-has (pays_unraised h) e l n = cc

pub pays-live : {g h : ℕ} {s : Says} {xs ys : List Seat} → Pays g xs s h ys → is_done s ≡ true → Has IsLive ys
pays-live (pays_twice h i) e = raised-live i e
pays-live (pays_unraised h) e = cc

-- flushes
flushed-near : {v : Medium} {g : ℕ} {s : Says} {x y : Seat} → Near v g x → Asked Flush s x y → Near v g y
flushed-near near_out asked_out = near_out
flushed-near (near_in most least) asked_stale = near_in most least
flushed-near (near_in most least) (asked_took flush_taken) = near_in (λ i z. most i (flushed-shows i z)) (λ e i z. least e i (flushed-shows i z))
flushed-near (near_in most least) (asked_lost h) = near_in (λ i z. most i (shows-any (unflushed-shows h i z))) (λ e. cc)
flushed-near (near_in most least) (asked_none h) = near_in (λ i z. most i (unflushed-shows h i z)) (λ e i z. least e i (unflushed-shows h i z))

flushed-has : {v : Medium} {g : ℕ} {x y : Seat} → HasLevel v g x → Asked Flush (Done true) x y → HasLevel v g y
flushed-has has_out asked_out = has_out
flushed-has (has_left f) asked_stale = has_left f
flushed-has (has_live f) (asked_took flush_taken) = has_live (λ i z. f i (flushed-shows i z))

unflushed-has : {v : Medium} {g d n : ℕ} {x y : Seat} → HasLevel v g x → Asked Flush (Fault d n) x y → HasLevel v g y
unflushed-has has_out asked_out = has_out
unflushed-has (has_left f) asked_stale = has_left f
unflushed-has (has_live f) (asked_none h) = has_live (λ i z. f i (unflushed-shows h i z))

pub flush-round-near : {v : Medium} {g : ℕ} {s : Says} {xs ys : List Seat} → Round Flush xs s ys → Every (Near v g) xs → Every (Near v g) ys
flush-round-near h n = pairs-every (λ x y k m. flushed-near m k) h.each n

pub flush-bound : {o q : Bool} {g h : ℕ} {s : Says} {xs ys : List Seat} → Flushes o g xs s q h ys → g ≤ limit → (g ≤ h) × (h ≤ limit)
flush-bound (flush_owed h) l = pays-bound h l
flush-bound (flush_even h) l = (omega arith, l)
flush-bound (flush_lost h i) l = pays-bound i l
flush-bound (flush_none h) l = (omega arith, l)

pub flush-near : {v : Medium} {o q : Bool} {g h : ℕ} {s : Says} {xs ys : List Seat} → Flushes o g xs s q h ys → g ≤ limit → Every (Near v g) xs → Every (Near v h) ys
flush-near (flush_owed h) l n = pays-near h l n
flush-near (flush_even h) l n = flush-round-near h n
flush-near (flush_lost h i) l n = pays-near i l (flush-round-near h n)
flush-near (flush_none h) l n = flush-round-near h n

-- after a flush that answers Ok nothing is owed, and a disk is live
pub flush-paid : {o q : Bool} {g h : ℕ} {s : Says} {xs ys : List Seat} → Flushes o g xs s q h ys → is_done s ≡ true → q ≡ false
flush-paid (flush_owed {s = Done w} h) e = refl
flush-paid (flush_owed {s = Fault d n} h) e = cc
flush-paid (flush_even h) e = refl
flush-paid (flush_lost {s = Done w} h i) e = refl
flush-paid (flush_lost {s = Fault d n} h i) e = cc
flush-paid (flush_none h) e = refl

pub flush-live : {o q : Bool} {g h : ℕ} {s : Says} {xs ys : List Seat} → Flushes o g xs s q h ys → is_done s ≡ true → Has IsLive ys
flush-live (flush_owed h) e = pays-live h e
flush-live (flush_even h) e = h.answer.0
flush-live (flush_lost h i) e = pays-live i e
flush-live (flush_none h) e = cc

-- what is not owed is paid
is-paid : (s : Says) → is_fault s ≡ false → is_done s ≡ true
is-paid (Done w) e = refl
is-paid (Fault d n) e = cc

pub flush-even : {v : Medium} {o q : Bool} {g h : ℕ} {s : Says} {xs ys : List Seat} → Flushes o g xs s q h ys → g ≤ limit → Every (Near v g) xs → Even v o g xs → Even v q h ys
flush-even (flush_owed {s = s} h) l n v e = pays-has h (is-paid s e) l n
flush-even (flush_even h) l n v e = pairs-every (λ x y k m. flushed-has m k) h.each (v refl)
flush-even (flush_lost {s = s} h i) l n v e = pays-has i (is-paid s e) l (flush-round-near h n)
flush-even (flush_none h) l n v e = pairs-every (λ x y k m. unflushed-has m k) h.each (v refl)

pub flush-levels : {v : Medium} {o q w : Bool} {g h : ℕ} {xs ys : List Seat} → Flushes o g xs (Done w) q h ys → g ≤ limit → Every (Near v g) xs → Even v o g xs → Every (HasLevel v h) ys
flush-levels h l n v = flush-even h l n v (flush-paid h refl)

-- a write
pub written-shows : {v : Medium} {b : Bool} (p : ℕ) (x : List ℕ) (c : Cell) (i : Image) → Shows v (In b (written p x c)) i → (j : Image) × Shows v (In b c) j × (i.generation ≡ j.generation)
written-shows p x c i shows_now = (c.now, shows_now, refl)
written-shows p x c i (shows_kept e k) = (i, shows_kept e k, refl)

pub unwritten-shows : {v : Medium} {b : Bool} {p : ℕ} {x : List ℕ} {c d : Cell} → Refuses (Write p x) c d → (i : Image) → Shows v (In b d) i → Shows v (In b c) i
unwritten-shows (refused {n = n} l) i z = faulted-shows n i z

write-near : {v : Medium} {g p : ℕ} {u : List ℕ} {s : Says} {x y : Seat} → Near v g x → Asked (Write p u) s x y → Near v g y
write-near near_out asked_out = near_out
write-near (near_in most least) asked_stale = near_in most least
write-near (near_in most least) (asked_took (write_taken {p = p} {x = x} {c = c})) = near_in (λ i z. let r = written-shows p x c i z in let k = most r.0 r.1 in omega (arith, r.2)) (λ e i z. let r = written-shows p x c i z in let k = least e r.0 r.1 in omega (arith, r.2))
write-near (near_in most least) (asked_lost h) = near_in (λ i z. most i (shows-any (unwritten-shows h i z))) (λ e. cc)
write-near (near_in most least) (asked_none h) = near_in (λ i z. most i (unwritten-shows h i z)) (λ e i z. least e i (unwritten-shows h i z))

write-has : {v : Medium} {g p : ℕ} {u : List ℕ} {x y : Seat} → HasLevel v g x → Asked (Write p u) (Done true) x y → HasLevel v g y
write-has has_out asked_out = has_out
write-has (has_left f) asked_stale = has_left f
write-has (has_live f) (asked_took (write_taken {p = p} {x = x} {c = c})) = has_live (λ i z. let r = written-shows p x c i z in r.2 ∙ f r.0 r.1)

unwritten-has : {v : Medium} {g p d n : ℕ} {u : List ℕ} {x y : Seat} → HasLevel v g x → Asked (Write p u) (Fault d n) x y → HasLevel v g y
unwritten-has has_out asked_out = has_out
unwritten-has (has_left f) asked_stale = has_left f
unwritten-has (has_live f) (asked_none h) = has_live (λ i z. f i (unwritten-shows h i z))

pub puts-near : {v : Medium} {g p : ℕ} {x : List ℕ} {o q : Bool} {s : Says} {xs ys : List Seat} → Puts p x o xs s q ys → Every (Near v g) xs → Every (Near v g) ys
puts-near (put_whole h) n = pairs-every (λ x y k m. write-near m k) h.each n
puts-near (put_lost h) n = pairs-every (λ x y k m. write-near m k) h.each n
puts-near (put_refused h) n = pairs-every (λ x y k m. write-near m k) h.each n

pub puts-even : {v : Medium} {g p : ℕ} {x : List ℕ} {o q : Bool} {s : Says} {xs ys : List Seat} → Puts p x o xs s q ys → Even v o g xs → Even v q g ys
puts-even (put_whole h) v e = pairs-every (λ x y k m. write-has m k) h.each (v e)
puts-even (put_lost h) v e = cc
puts-even (put_refused h) v e = pairs-every (λ x y k m. unwritten-has m k) h.each (v e)

-- a write owes, or leaves what is owed
pub puts-owes : {p : ℕ} {x : List ℕ} {o q : Bool} {s : Says} {xs ys : List Seat} → Puts p x o xs s q ys → q ≡ false → o ≡ false
puts-owes (put_whole h) e = e
puts-owes (put_lost h) e = cc
puts-owes (put_refused h) e = e

-- a read
look-near : {v : Medium} {g : ℕ} {s : Says} {x y : Seat} → Near v g x → Looked s x y → Near v g y
look-near near_out looked_out = near_out
look-near (near_in most least) looked_stale = near_in most least
look-near (near_in most least) (looked_same e) = near_in most least
look-near (near_in most least) (looked_refused {n = n} l) = near_in (λ i z. most i (faulted-shows n i z)) (λ e i z. least e i (faulted-shows n i z))

look-has : {v : Medium} {g : ℕ} {s : Says} {x y : Seat} → HasLevel v g x → Looked s x y → HasLevel v g y
look-has has_out looked_out = has_out
look-has (has_left f) looked_stale = has_left f
look-has (has_live f) (looked_same e) = has_live f
look-has (has_live f) (looked_refused {n = n} l) = has_live (λ i z. f i (faulted-shows n i z))

pub looks-near : {v : Medium} {g : ℕ} {s : Says} {xs ys : List Seat} → Pairs (Looked s) xs ys → Every (Near v g) xs → Every (Near v g) ys
looks-near h n = pairs-every (λ x y k m. look-near m k) h n

pub looks-even : {v : Medium} {o : Bool} {g : ℕ} {s : Says} {xs ys : List Seat} → Pairs (Looked s) xs ys → Even v o g xs → Even v o g ys
looks-even h v e = pairs-every (λ x y k m. look-has m k) h (v e)

-- a call that was stopped
halted-near : {v : Medium} {g : ℕ} {x y : Seat} → g ≤ limit → Near v g x → Halted (Raise (next g)) x y → Near v g y
halted-near l near_out halted_out = near_out
halted-near l (near_in most least) halted_stale = near_in most least
halted-near l (near_in most least) (halted_live cut_before) = near_in (λ i z. most i (shows-any z)) (λ e i z. least refl i (shows-any z))
halted-near l (near_in most least) (halted_live (cut_taken (raise_taken {c = c}))) = near_in (λ i z. omega (arith, raised-shows c i z)) (λ e i z. omega (arith, raised-shows c i z))
halted-near l (near_in most least) (halted_live {b = b} (cut_refused h)) = near_in {b = b} (λ i z. elim (unraised-shows h i z) [ inl q ↦ most i (shows-any q) | inr q ↦ omega (arith, q) ]) (λ e i z. elim (unraised-shows h i z) [ inl q ↦ least refl i (shows-any q) | inr q ↦ omega (arith, q) ])

halted-flush-near : {v : Medium} {g : ℕ} {x y : Seat} → Near v g x → Halted Flush x y → Near v g y
halted-flush-near near_out halted_out = near_out
halted-flush-near (near_in most least) halted_stale = near_in most least
halted-flush-near (near_in most least) (halted_live cut_before) = near_in (λ i z. most i (shows-any z)) (λ e i z. least refl i (shows-any z))
halted-flush-near (near_in most least) (halted_live (cut_taken flush_taken)) = near_in (λ i z. most i (shows-any (flushed-shows i z))) (λ e i z. least refl i (shows-any (flushed-shows i z)))
halted-flush-near (near_in most least) (halted_live (cut_refused h)) = near_in (λ i z. most i (shows-any (unflushed-shows h i z))) (λ e i z. least refl i (shows-any (unflushed-shows h i z)))

halted-write-near : {v : Medium} {g p : ℕ} {u : List ℕ} {x y : Seat} → Near v g x → Halted (Write p u) x y → Near v g y
halted-write-near near_out halted_out = near_out
halted-write-near (near_in most least) halted_stale = near_in most least
halted-write-near (near_in most least) (halted_live cut_before) = near_in (λ i z. most i (shows-any z)) (λ e i z. least refl i (shows-any z))
halted-write-near (near_in most least) (halted_live (cut_taken (write_taken {p = p} {x = x} {c = c}))) = near_in (λ i z. let r = written-shows p x c i z in let k = most r.0 (shows-any r.1) in omega (arith, r.2)) (λ e i z. let r = written-shows p x c i z in let k = least refl r.0 (shows-any r.1) in omega (arith, r.2))
halted-write-near (near_in most least) (halted_live (cut_refused h)) = near_in (λ i z. most i (shows-any (unwritten-shows h i z))) (λ e i z. least refl i (shows-any (unwritten-shows h i z)))

pub write-stops-near : {v : Medium} {g p : ℕ} {x : List ℕ} {xs ys : List Seat} → Pairs (Halted (Write p x)) xs ys → Every (Near v g) xs → Every (Near v g) ys
write-stops-near h n = pairs-every (λ x y k m. halted-write-near m k) h n

pub raise-stops-bound : {g h : ℕ} {xs ys : List Seat} → RaiseStops g xs h ys → g ≤ limit → (g ≤ h) × (h ≤ limit)
raise-stops-bound (stops_here h) l = (omega arith, l)
raise-stops-bound (stops_later h i) l = let a = raise-stops-bound i (omega arith) in (omega (arith, a.0), a.1)

pub raise-stops-near : {v : Medium} {g h : ℕ} {xs ys : List Seat} → RaiseStops g xs h ys → g ≤ limit → Every (Near v g) xs → Every (Near v h) ys
raise-stops-near (stops_here h) l n = pairs-every (λ x y k m. halted-near l m k) h n
raise-stops-near (stops_later h i) l n = raise-stops-near i (omega arith) (levels-near (omega arith) (round-level h n))

pub flush-stops-bound : {o : Bool} {g h : ℕ} {xs ys : List Seat} → FlushStops o g xs h ys → g ≤ limit → (g ≤ h) × (h ≤ limit)
flush-stops-bound (stops_owed h) l = raise-stops-bound h l
flush-stops-bound (stops_even h) l = (omega arith, l)
flush-stops-bound (stops_lost h i) l = raise-stops-bound i l

pub flush-stops-near : {v : Medium} {o : Bool} {g h : ℕ} {xs ys : List Seat} → FlushStops o g xs h ys → g ≤ limit → Every (Near v g) xs → Every (Near v h) ys
flush-stops-near (stops_owed h) l n = raise-stops-near h l n
flush-stops-near (stops_even h) l n = pairs-every (λ x y k m. halted-flush-near m k) h n
flush-stops-near (stops_lost h i) l n = raise-stops-near i l (flush-round-near h n)
