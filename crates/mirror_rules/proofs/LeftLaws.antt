-- Which disks an opening leaves out: those that refused a call in it, and those that were found bad.
use Rattle.std.proofs.Common.{◌≡◌, ℕ, zero, suc, ◌+◌, ◌<◌, ◌≤◌, Bool, true, false, List, ◌∷◌, length, None, refl, sym, ◌∙◌, subst, arith}
use Rattle.mirror_rules.specs.Tree.{Image, Cell, Store, Blank, Bad, Down, Seat, In, Out}
use Rattle.mirror_rules.specs.Claims.{Pairs, pairs_none, pairs_more, Nth, nth_here, nth_later}
use Rattle.mirror_rules.specs.Steps.{Says, is_done, faulted, written, Looked, looked_out, looked_stale, looked_same, looked_refused}
use Rattle.mirror_rules.specs.Opening.{Meets, meets_good, meets_blank, meets_bad, meets_down, Wins, wins_here, wins_later, wins_out, Only, only_here, only_later, settled, Copies, copy_same, copy_differs, copy_left, copy_gone, copy_even, copy_settled, copy_unflushed, copy_unraised, Passed, passed_live, passed_out, Enters, enter_end, enter_next, enter_joins, enter_gone, Fills, fill_end, fill_next, fill_gone, Makes, Unmade, unmade_blank, unmade_whole, NotBlank, filled_in, filled_bad, filled_down, Renews, renew_end, renew_next, renew_made, renew_left, renew_gone, Good, Opens, open_good, open_again}
use Rattle.mirror_rules.specs.Fates.{Excused, excused_live, excused_left, excused_bad}
use Rattle.mirror_rules.proofs.PageLaws.{pairs-then}
use Rattle.mirror_rules.proofs.RoundLaws.{pairs-map, refuses-fault}
use Rattle.mirror_rules.proofs.GivesLaws.{way-meets}

-- counts rise; v: a disk that is left out refused a call; w: none is blank
data Fine (v w : Bool) (s : Store) : Seat → Type 0 where
  fine_live : {c : Cell} → s.faults ≤ c.faults → Fine v w s (In true c)
  fine_left : {c : Cell} → s.faults ≤ c.faults → (v ≡ true → s.faults < c.faults) → Fine v w s (In false c)
  fine_blank : {t : Store} → s.faults ≤ t.faults → w ≡ false → Fine v w s (Out Blank t)
  fine_bad : s.image ≡ None → s.blank ≡ false → Fine v w s (Out Bad s)
  fine_down : {t : Store} → s.faults < t.faults → Fine v w s (Out Down t)

-- P of the first i, Q of the others
pub data Fines (P Q : Store → Seat → Type 0) : ℕ → List Store → List Seat → Type 0 where
  fines_rest : {ss : List Store} {xs : List Seat} → Pairs Q ss xs → Fines P Q zero ss xs
  fines_more : {i : ℕ} {s : Store} {x : Seat} {ss : List Store} {xs : List Seat} → P s x → Fines P Q i ss xs → Fines P Q (suc i) (s ∷ ss) (x ∷ xs)

-- P of the first i, R of the next, Q of the others
pub data Around (P R Q : Store → Seat → Type 0) : ℕ → List Store → List Seat → Type 0 where
  around_here : {s : Store} {x : Seat} {ss : List Store} {xs : List Seat} → R s x → Pairs Q ss xs → Around P R Q zero (s ∷ ss) (x ∷ xs)
  around_later : {i : ℕ} {s : Store} {x : Seat} {ss : List Store} {xs : List Seat} → P s x → Around P R Q i ss xs → Around P R Q (suc i) (s ∷ ss) (x ∷ xs)

look-fine : {v w : Bool} {a : Says} {s : Store} {x y : Seat} → Fine v w s x → Looked a x y → Fine v w s y
look-fine (fine_live l) (looked_same e) = fine_live l
look-fine (fine_live l) (looked_refused b) = fine_live (omega arith)
look-fine (fine_left l f) looked_stale = fine_left l f
look-fine (fine_blank l e) looked_out = fine_blank l e
look-fine (fine_bad e b) looked_out = fine_bad e b
look-fine (fine_down l) looked_out = fine_down l

pub fines-step : {T : Seat → Seat → Type 0} {P Q : Store → Seat → Type 0} {i : ℕ} {ss : List Store} {xs ys : List Seat} → ((s : Store) (x y : Seat) → P s x → T x y → P s y) → ((s : Store) (x y : Seat) → Q s x → T x y → Q s y) → Fines P Q i ss xs → Pairs T xs ys → Fines P Q i ss ys
fines-step f g (fines_rest h) m = fines_rest (pairs-then g h m)
fines-step f g (fines_more {s = s} {x = x} p h) (pairs_more {y = y} t m) = fines_more (f s x y p t) (fines-step f g h m)

pub around-step : {T : Seat → Seat → Type 0} {P R Q : Store → Seat → Type 0} {i : ℕ} {ss : List Store} {xs ys : List Seat} → ((s : Store) (x y : Seat) → P s x → T x y → P s y) → ((s : Store) (x y : Seat) → R s x → T x y → R s y)
    → ((s : Store) (x y : Seat) → Q s x → T x y → Q s y) → Around P R Q i ss xs → Pairs T xs ys → Around P R Q i ss ys
around-step f k g (around_here {s = s} {x = x} r h) (pairs_more {y = y} t m) = around_here (k s x y r t) (pairs-then g h m)
around-step f k g (around_later {s = s} {x = x} p h) (pairs_more {y = y} t m) = around_later (f s x y p t) (around-step f k g h m)

pub around-only : {P R S Q : Store → Seat → Type 0} {x y : Seat} {i : ℕ} {ss : List Store} {xs ys : List Seat} → Only x y i xs ys → ((s : Store) → R s x → S s y) → Around P R Q i ss xs → Around P S Q i ss ys
around-only only_here f (around_here {s = s} r h) = around_here (f s r) h
around-only (only_later k) f (around_later p h) = around_later p (around-only k f h)

-- begin with the next place, and end with it
pub begin : {P R Q : Store → Seat → Type 0} {x : Seat} {i : ℕ} {ss : List Store} {xs : List Seat} → Nth i xs x → ((s : Store) → Q s x → R s x) → Fines P Q i ss xs → Around P R Q i ss xs
begin nth_here f (fines_rest (pairs_more {x = s} q h)) = around_here (f s q) h
begin (nth_later n) f (fines_more p h) = around_later p (begin n f h)

pub only-begin : {P R Q : Store → Seat → Type 0} {x y : Seat} {i : ℕ} {ss : List Store} {xs ys : List Seat} → Only x y i xs ys → ((s : Store) → Q s x → R s y) → Fines P Q i ss xs → Around P R Q i ss ys
only-begin only_here f (fines_rest (pairs_more {x = s} q h)) = around_here (f s q) h
only-begin (only_later k) f (fines_more p h) = around_later p (only-begin k f h)

pub end : {P R Q : Store → Seat → Type 0} {i : ℕ} {ss : List Store} {xs : List Seat} → ((s : Store) (x : Seat) → R s x → P s x) → Around P R Q i ss xs → Fines P Q (suc i) ss xs
end f (around_here {s = s} {x = x} r h) = fines_more (f s x r) (fines_rest h)
end f (around_later p h) = fines_more p (end f h)

-- a disk joins, or refuses a call
abbrev Mid : Store → Seat → Type 0
Mid = Fine false true

abbrev Met : Store → Seat → Type 0
Met = Fine true true

mid-left : {c : Cell} (d : Cell) → c.faults ≤ d.faults → (s : Store) → Mid s (In false c) → Mid s (In false d)
mid-left d l s (fine_left k f) = fine_left (omega arith) (λ e. cc)

mid-met : {c : Cell} (d : Cell) → c.faults < d.faults → (s : Store) → Mid s (In false c) → Met s (In false d)
mid-met d l s (fine_left k f) = fine_left (omega arith) (λ e. omega arith)

mid-live : {c : Cell} (d : Cell) → c.faults ≤ d.faults → (s : Store) → Mid s (In false c) → Met s (In true d)
mid-live d l s (fine_left k f) = fine_live (omega arith)

copies-met : {told : Bool} {v w a b : Bool} {g i n p : ℕ} {e : Bool} {s : Says} {ss : List Store} {xs ys : List Seat} {wrote : Bool} → Copies told g i e n p xs s wrote ys → is_done s ≡ true → Around (Fine v w) Mid (Fine a b) i ss xs → Around (Fine v w) Met (Fine a b) i ss ys
copies-met (copy_same h k q r) e f = copies-met r e (around-step (λ s x y. look-fine) (λ s x y. look-fine) (λ s x y. look-fine) f h.each)
copies-met (copy_differs {p = p} {z = x} {c = c} h ne q k r) e f = copies-met r e (around-only k (mid-left (written p x c) (omega arith)) (around-step (λ s x y. look-fine) (λ s x y. look-fine) (λ s x y. look-fine) f h.each))
copies-met (copy_left {m = m} {c = c} h l k) e f = around-only k (mid-met (faulted m c) l) (around-step (λ s x y. look-fine) (λ s x y. look-fine) (λ s x y. look-fine) f h.each)
copies-met (copy_gone h) e f = cc
copies-met (copy_even {c = c} k) e f = around-only k (mid-live c (omega arith)) f
copies-met {g = g} (copy_settled {c = c} k) e f = around-only k (mid-live (settled g c) (omega arith)) f
copies-met (copy_unflushed {d = d} h k) e f = let r = (refuses-fault h).1 in around-only k (mid-met d (omega arith)) f
copies-met (copy_unraised {d = d} h q k) e f = let r = (refuses-fault h).1 in around-only k (mid-met d (omega arith)) f

met-any : {w : Bool} (s : Store) (x : Seat) → Met s x → Fine true w s x
met-any s (In true c) (fine_live l) = fine_live l
met-any s (In false c) (fine_left l f) = fine_left l f
met-any s (Out Blank t) (fine_blank l e) = cc
met-any s (Out Bad t) (fine_bad e b) = fine_bad e b
met-any s (Out Down t) (fine_down l) = fine_down l

left-mid : {v w : Bool} {c : Cell} (s : Store) → Fine v w s (In false c) → Mid s (In false c)
left-mid s (fine_left l f) = fine_left l (λ e. cc)

passed-met : {x : Seat} → Passed x → (s : Store) → Fine false false s x → Fine true false s x
passed-met passed_live s (fine_live l) = fine_live l
passed-met passed_out s (fine_blank l e) = fine_blank l e
passed-met passed_out s (fine_bad e b) = fine_bad e b
passed-met passed_out s (fine_down l) = fine_down l

-- the place after i
abbrev Entering : ℕ → List Store → List Seat → Type 0
Entering i ss xs = Fines (Fine true false) (Fine false false) i ss xs

abbrev Renewing : ℕ → List Store → List Seat → Type 0
Renewing i ss xs = Fines Met (Fine true false) i ss xs

enters-met : {told : Bool} {g n i m : ℕ} {s : Says} {ss : List Store} {xs ys : List Seat} {wrote : Bool} → Enters told g n i m xs s wrote ys → is_done s ≡ true → Entering i ss xs → Entering (i + m) ss ys
enters-met {i = i} {ss = ss} (enter_end {xs = xs}) e f = let q : i ≡ i + 0 = omega arith in subst (λ v. Entering v ss xs) q f
enters-met {ss = ss} (enter_next {i = i} {m = m} {xs = xs} {ys = ys} h p r) e f =
    let q : (i + 1) + m ≡ i + suc m = omega arith in let t : suc i ≡ i + 1 = omega arith in
    subst (λ v. Entering v ss ys) q (enters-met r e (subst (λ v. Entering v ss xs) t (end {R = Fine true false} (λ s x k. k) (begin h (passed-met p) f))))
enters-met {ss = ss} (enter_joins {i = i} {m = m} {ys = ys} {zs = zs} h q k r) e f =
    let o : (i + 1) + m ≡ i + suc m = omega arith in let t : suc i ≡ i + 1 = omega arith in
    subst (λ v. Entering v ss zs) o (enters-met r e (subst (λ v. Entering v ss ys) t (end met-any (copies-met k refl (begin h left-mid f)))))
enters-met (enter_gone h q k) e f = cc

-- the blank disks
fills-met : {i n p : ℕ} {s : Says} {G : List (List ℕ)} {ss : List Store} {xs ys : List Seat} → Fills n p xs s G ys → Renewing i ss xs → Renewing i ss ys
fills-met fill_end f = f
fills-met (fill_next h r) f = fills-met r (fines-step (λ s x y. look-fine) (λ s x y. look-fine) f h.each)
fills-met (fill_gone h) f = fines-step (λ s x y. look-fine) (λ s x y. look-fine) f h.each

not-blank-met : {x : Seat} → NotBlank x → (s : Store) → Fine true false s x → Met s x
not-blank-met filled_in s (fine_live l) = fine_live l
not-blank-met filled_in s (fine_left l f) = fine_left l f
not-blank-met filled_bad s (fine_bad e b) = fine_bad e b
not-blank-met filled_down s (fine_down l) = fine_down l

unmade-met : {told : Bool} {n g : ℕ} {G : List (List ℕ)} {b t : Store} → Unmade told n g G b t → (s : Store) → Fine true false s (Out Blank b) → Met s (Out Down t)
unmade-met (unmade_blank d e i z) s (fine_blank l q) = fine_down (omega arith)
unmade-met (unmade_whole d e i z) s (fine_blank l q) = fine_down (omega arith)

made-met : {told : Bool} {g : ℕ} {G : List (List ℕ)} {b : Store} {c : Cell} → Makes told g G b c → (s : Store) → Fine true false s (Out Blank b) → Met s (In true c)
made-met m s (fine_blank l q) = fine_live (omega (arith, m.faults))

renews-met : {told : Bool} {g n i m : ℕ} {s : Says} {ss : List Store} {xs ys : List Seat} → Renews told g n i m xs s ys → is_done s ≡ true → Renewing i ss xs → Renewing (i + m) ss ys
renews-met {i = i} {ss = ss} (renew_end {xs = xs}) e f = let q : i ≡ i + 0 = omega arith in subst (λ v. Renewing v ss xs) q f
renews-met {ss = ss} (renew_next {i = i} {m = m} {xs = xs} {ys = ys} h p r) e f =
    let q : (i + 1) + m ≡ i + suc m = omega arith in let t : suc i ≡ i + 1 = omega arith in
    subst (λ v. Renewing v ss ys) q (renews-met r e (subst (λ v. Renewing v ss xs) t (end {R = Met} (λ s x k. k) (begin h (not-blank-met p) f))))
renews-met {ss = ss} (renew_made {i = i} {m = m} {zs = zs} {us = us} h c k r) e f =
    let o : (i + 1) + m ≡ i + suc m = omega arith in let t : suc i ≡ i + 1 = omega arith in
    subst (λ v. Renewing v ss us) o (renews-met r e (subst (λ v. Renewing v ss zs) t (end {R = Met} (λ s x k. k) (only-begin k (made-met c) (fills-met h f)))))
renews-met {ss = ss} (renew_left {i = i} {m = m} {zs = zs} {us = us} q h u k r) e f =
    let o : (i + 1) + m ≡ i + suc m = omega arith in let t : suc i ≡ i + 1 = omega arith in
    subst (λ v. Renewing v ss us) o (renews-met r e (subst (λ v. Renewing v ss zs) t (end {R = Met} (λ s x k. k) (only-begin k (unmade-met u) (fills-met h f)))))
renews-met (renew_gone h b k) e f = cc

-- at the start, and at the end
started : {w : Image} {ss : List Store} {xs ys : List Seat} → Pairs Meets ss xs → Wins w xs ys → Pairs (Fine false false) ss ys
started pairs_none h = elim h [ ]
started (pairs_more (meets_good e) m) (wins_here q a) = pairs_more (fine_live (omega arith)) (all m) where
  all : {ss : List Store} {xs : List Seat} → Pairs Meets ss xs → Pairs (Fine false false) ss xs
  all pairs_none = pairs_none
  all (pairs_more (meets_good e) m) = pairs_more (fine_left (omega arith) (λ q. cc)) (all m)
  all (pairs_more (meets_blank e b) m) = pairs_more (fine_blank (omega arith) refl) (all m)
  all (pairs_more (meets_bad e b) m) = pairs_more (fine_bad e b) (all m)
  all (pairs_more (meets_down a b f) m) = pairs_more (fine_down (omega arith)) (all m)
started (pairs_more (meets_good e) m) (wins_later l h) = pairs_more (fine_left (omega arith) (λ q. cc)) (started m h)
started (pairs_more (meets_blank e b) m) (wins_out h) = pairs_more (fine_blank (omega arith) refl) (started m h)
started (pairs_more (meets_bad e b) m) (wins_out h) = pairs_more (fine_bad e b) (started m h)
started (pairs_more (meets_down a b f) m) (wins_out h) = pairs_more (fine_down (omega arith)) (started m h)

pub fines-length : {P Q : Store → Seat → Type 0} {ss : List Store} {xs : List Seat} (i : ℕ) → Fines P Q i ss xs → i ≡ length xs → Pairs P ss xs
fines-length i (fines_rest pairs_none) e = pairs_none
fines-length i (fines_rest (pairs_more {xs = ss} {ys = xs} h m)) e = absurd (omega (arith, e))
fines-length i (fines_more {i = j} {xs = xs} p h) e = pairs_more p (fines-length j h (omega (arith, e)))

pub pairs-length : {A : Type 0} {P : A → Seat → Type 0} {ss : List A} {xs : List Seat} → Pairs P ss xs → length xs ≡ length ss
pairs-length pairs_none = refl
pairs-length (pairs_more h m) = omega (arith, pairs-length m)

pub fines-size : {P Q : Store → Seat → Type 0} {i : ℕ} {ss : List Store} {xs : List Seat} → Fines P Q i ss xs → length xs ≡ length ss
fines-size (fines_rest h) = pairs-length h
fines-size (fines_more p h) = omega (arith, fines-size h)

met-excused : (s : Store) (x : Seat) → Met s x → Excused s x
met-excused s (In true c) h = excused_live
met-excused s (In false c) (fine_left l f) = excused_left (f refl)
met-excused s (Out Blank t) (fine_blank l e) = cc
met-excused s (Out Bad t) (fine_bad e b) = excused_bad e b
met-excused s (Out Down t) (fine_down l) = excused_left l

-- after an opening that answers Ok each disk is live, or refused a call in it, or was found bad and is as it was
pub opens-excused : {told : Bool} {n g : ℕ} {owed : Bool} {ss : List Store} {xs us : List Seat} → Opens told n xs (Good owed g) us → Pairs Meets ss xs → Pairs Excused ss us
opens-excused {ss = ss} (open_good {ys = ys} {zs = zs} {us = us} h e r) m =
    let a = enters-met e refl (fines_rest (started m h)) in
    let la : length zs ≡ length ys = fines-size a ∙ sym (pairs-length (started m h)) in
    let b = fines-length (0 + length ys) a (omega (arith, la)) in
    let c = renews-met r refl (fines_rest b) in
    let lc : length us ≡ length zs = fines-size c ∙ sym (fines-size a) in
    pairs-map met-excused (fines-length (0 + length zs) c (omega (arith, lc)))
opens-excused (open_again h e y r) m = opens-excused r (way-meets m y.way)
