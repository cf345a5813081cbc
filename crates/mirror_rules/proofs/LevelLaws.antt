-- The live disks of an opening have the ground's generation, and no other opened disk is above them, whether or not they tell
-- what they hold.
use Rattle.std.proofs.Common.{◌≡◌, ℕ, ◌≤◌, Bool, true, false, ◌||◌, List, ◌∷◌, length, refl, sym, ◌∙◌, ap, subst, arith}
use Rattle.std.specs.Prelude.{eqb, ltb}
use Rattle.std.proofs.lemmas.Bool.{eqb-true, ltb-false}
use Rattle.mirror_rules.specs.Tree.{Image, Cell, Store, Seat, In, owes}
use Rattle.mirror_rules.specs.Claims.{Pairs, pairs_none, pairs_more, Every, every_none, every_more, Has, has_here, has_later, Nth, IsLive, live_in}
use Rattle.mirror_rules.specs.Steps.{Raise, Says, faulted, refused, raise_unkept, raise_kept, flush_kept, Refuses, Flush, kept_now, Looked, looked_out, looked_stale, looked_same, looked_refused}
use Rattle.mirror_rules.specs.Opening.{Meets, meets_good, meets_blank, meets_bad, meets_down, AtMost, most_in, Wins, wins_here, wins_later, wins_out, Only, only_here, only_later, Copies, copy_same, copy_differs, copy_left, copy_gone, copy_even, copy_settled, copy_unflushed, copy_unraised, Enters, enter_end, enter_next, enter_joins, enter_gone, Fills, fill_end, fill_next, fill_gone, Renews, renew_end, renew_next, renew_made, renew_left, renew_gone, Good, Opens, open_good, open_again}
use Rattle.mirror_rules.specs.Guards.{Medium, Direct, Settled, Shows, shows_now, shows_kept}
use Rattle.mirror_rules.specs.Levels.{Level, level_in, level_out, HasLevel, has_live, Even}
use Rattle.mirror_rules.specs.Fates.{Sized, State, state_blank, state_bad, state_down, state_unmade, state_left, state_live}
use Rattle.mirror_rules.proofs.GenLaws.{some-same}
use Rattle.mirror_rules.proofs.PageLaws.{pairs-every}
use Rattle.mirror_rules.proofs.OpenLaws.{only-from, only-live, blank-live, blank-made, same-cell, look-live, look-nth, fate-most}
use Rattle.mirror_rules.proofs.GivesLaws.{way-meets, opens-answer}

-- where what is written is there at once
now-level : {b : Bool} {g : ℕ} {c : Cell} → c.now.generation ≤ g → (b ≡ true → g ≤ c.now.generation) → Level Direct g (In b c)
now-level {b} {g} {c} l m = level_in (λ i z. most i z) (λ e i z. least e i z) where
  most : (i : Image) → Shows Direct (In b c) i → i.generation ≤ g
  most i shows_now = l
  most i (shows_kept e k) = cc

  least : b ≡ true → (i : Image) → Shows Direct (In b c) i → g ≤ i.generation
  least e i shows_now = m e
  least e i (shows_kept q k) = cc

level-now : {b : Bool} {g : ℕ} {c : Cell} → Level Direct g (In b c) → c.now.generation ≤ g
level-now (level_in most least) = most _ shows_now

level-least : {g : ℕ} {c : Cell} → Level Direct g (In true c) → g ≤ c.now.generation
level-least (level_in most least) = least refl _ shows_now

look-level : {g : ℕ} {s : Says} {xs ys : List Seat} → Pairs (Looked s) xs ys → Every (Level Direct g) xs → Every (Level Direct g) ys
look-level h m = pairs-every (λ x y. one) h m where
  one : {g : ℕ} {s : Says} {x y : Seat} → Looked s x y → Level Direct g x → Level Direct g y
  one looked_out l = level_out
  one looked_stale l = l
  one (looked_same e) l = l
  one (looked_refused k) l = now-level (level-now l) (λ e. level-least l)

only-level : {g : ℕ} {x y : Seat} {n : ℕ} {xs ys : List Seat} → Only x y n xs ys → (Level Direct g x → Level Direct g y) → Every (Level Direct g) xs → Every (Level Direct g) ys
only-level only_here f (every_more l h) = every_more (f l) h
only-level (only_later k) f (every_more l h) = every_more l (only-level k f h)

-- a disk that stays left out, and is no higher than the ground
left-level : {g : ℕ} {c : Cell} (d : Cell) → d.now.generation ≡ c.now.generation → Level Direct g (In false c) → Level Direct g (In false d)
left-level d e l = let m = level-now l in now-level (omega (arith, e)) (λ q. cc)

flush-left : {g : ℕ} {c d : Cell} → Refuses Flush c d → Level Direct g (In false c) → Level Direct g (In false d)
flush-left (refused {n = n} {c = c} l) h = left-level (faulted n c) refl h
flush-left (flush_kept {n = n} {c = c} l) h = left-level (faulted n (kept_now c)) refl h

raise-left : {g : ℕ} {c d : Cell} → Refuses (Raise g) (kept_now c) d → Level Direct g (In false c) → Level Direct g (In false d)
raise-left (refused {n = n} l) h = let m = level-now h in now-level (omega arith) (λ q. cc)
raise-left (raise_unkept l) h = now-level (omega arith) (λ q. cc)
raise-left (raise_kept l) h = now-level (omega arith) (λ q. cc)

copies-level : {told : Bool} {g i n p : ℕ} {e : Bool} {s : Says} {xs ys : List Seat} {wrote : Bool} → Copies told g i e n p xs s wrote ys → Every (Level Direct g) xs → Has IsLive xs → (e ≡ true → (c : Cell) → Nth i xs (In false c) → c.now.generation ≡ g)
    → Every (Level Direct g) ys × Has IsLive ys
copies-level (copy_same h k q r) f lv j = copies-level r (look-level h.each f) (look-live h.each lv) (λ t c z. j t c (look-nth h.each z))
copies-level (copy_differs h ne q k r) f lv j = copies-level r (only-level k (left-level _ refl) (look-level h.each f)) (only-live k (look-live h.each lv)) (λ t c z. cc)
copies-level (copy_left h l k) f lv j = (only-level k (left-level _ refl) (look-level h.each f), only-live k (look-live h.each lv))
copies-level (copy_gone h) f lv j = (look-level h.each f, look-live h.each lv)
copies-level (copy_even {c = c} k) f lv j = let e = j refl c (only-from k) in (only-level k (λ l. now-level (omega (arith, e)) (λ q. omega (arith, e))) f, only-live k lv)
copies-level (copy_settled k) f lv j = (only-level k (λ l. now-level (omega arith) (λ q. omega arith)) f, only-live k lv)
copies-level (copy_unflushed h k) f lv j = (only-level k (flush-left h) f, only-live k lv)
copies-level (copy_unraised h q k) f lv j = (only-level k (raise-left h) f, only-live k lv)

joined : {e : Bool} {g i : ℕ} {c : Cell} {xs : List Seat} → Nth i xs (In false c) → eqb c.now.generation g ≡ e → e ≡ true → (d : Cell) → Nth i xs (In false d) → d.now.generation ≡ g
joined {g = g} {c = c} h q t d z = ap (λ (v : Cell). v.now.generation) (same-cell z h) ∙ eqb-true c.now.generation g (q ∙ t)

enters-level : {told : Bool} {g n i m : ℕ} {s : Says} {xs ys : List Seat} {wrote : Bool} → Enters told g n i m xs s wrote ys → Every (Level Direct g) xs → Has IsLive xs → Every (Level Direct g) ys × Has IsLive ys
enters-level enter_end f lv = (f, lv)
enters-level (enter_next h p r) f lv = enters-level r f lv
enters-level (enter_joins h q k r) f lv = let a = copies-level k f lv (joined h q) in enters-level r a.0 a.1
enters-level (enter_gone h q k) f lv = copies-level k f lv (joined h q)

fills-level : {g n p : ℕ} {s : Says} {G : List (List ℕ)} {xs ys : List Seat} → Fills n p xs s G ys → Every (Level Direct g) xs → Has IsLive xs → Every (Level Direct g) ys × Has IsLive ys
fills-level fill_end f lv = (f, lv)
fills-level (fill_next h r) f lv = fills-level r (look-level h.each f) (look-live h.each lv)
fills-level (fill_gone h) f lv = (look-level h.each f, look-live h.each lv)

renews-level : {told : Bool} {g n i m : ℕ} {s : Says} {xs ys : List Seat} → Renews told g n i m xs s ys → Every (Level Direct g) xs → Has IsLive xs → Every (Level Direct g) ys × Has IsLive ys
renews-level renew_end f lv = (f, lv)
renews-level (renew_next h p r) f lv = renews-level r f lv
renews-level (renew_made h m k r) f lv = let a = fills-level h f lv in renews-level r (only-level k (λ l. now-level (omega (arith, m.generation)) (λ e. omega (arith, m.generation))) a.0) (blank-made k)
renews-level (renew_left q h u k r) f lv = let a = fills-level h f lv in renews-level r (only-level k (λ l. level_out) a.0) (blank-live k a.1)
renews-level (renew_gone h b k) f lv = let a = fills-level h f lv in (only-level k (λ l. level_out) a.0, blank-live k a.1)

met-level : {g : ℕ} {ss : List Store} {xs : List Seat} → Pairs Meets ss xs → Every (AtMost g) xs → Every (Level Direct g) xs
met-level pairs_none every_none = every_none
met-level (pairs_more (meets_good e) m) (every_more (most_in l) a) = every_more (now-level l (λ q. cc)) (met-level m a)
met-level (pairs_more (meets_blank e b) m) (every_more l a) = every_more level_out (met-level m a)
met-level (pairs_more (meets_bad e b) m) (every_more l a) = every_more level_out (met-level m a)
met-level (pairs_more (meets_down a b f) m) (every_more l h) = every_more level_out (met-level m h)

wins-level : {w : Image} {ss : List Store} {xs ys : List Seat} → Pairs Meets ss xs → Wins w xs ys → Every (Level Direct w.generation) ys × Has IsLive ys
wins-level pairs_none h = elim h [ ]
wins-level (pairs_more k m) (wins_here q a) = let e = ap (λ (v : Image). v.generation) q in (every_more (now-level (omega (arith, e)) (λ t. omega (arith, e))) (met-level m a), has_here live_in)
wins-level (pairs_more k m) (wins_later q h) = let r = wins-level m h in (every_more (now-level (omega (arith, q)) (λ e. cc)) r.0, has_later r.1)
wins-level (pairs_more k m) (wins_out h) = let r = wins-level m h in (every_more level_out r.0, has_later r.1)

-- after an opening that answers Ok
pub opens-level : {told : Bool} {n : ℕ} {owed : Bool} {g : ℕ} {ss : List Store} {xs us : List Seat} → Opens told n xs (Good owed g) us → Pairs Meets ss xs → Every (Level Direct g) us × Has IsLive us × (owed ≡ owes us g)
opens-level (open_good {w = w} h e r) m =
    let a = wins-level m h in
    let b = enters-level e a.0 a.1 in
    let c = renews-level r b.0 b.1 in
    (c.0, c.1, refl)
opens-level (open_again h e y r) m = opens-level r (way-meets m y.way)

-- a ground that owes nothing is one disk
or-none : (a b : Bool) → (a || b) ≡ false → a ≡ false
or-none true b e = cc
or-none false b e = refl

alone-level : {v : Medium} {g : ℕ} {us : List Seat} → Every (Level v g) us → Has IsLive us → owes us g ≡ false → Every (HasLevel v g) us
alone-level every_none h e = every_none
alone-level (every_more (level_in {b = true} most least) every_none) h e = every_more (has_live (λ i z. let a = most i z in let b = least refl i z in omega arith)) every_none
alone-level (every_more (level_in {b = false} most least) every_none) (has_here h) e = elim h [ ]
alone-level (every_more (level_in {b = false} most least) every_none) (has_later h) e = elim h [ ]
alone-level (every_more level_out every_none) (has_here h) e = elim h [ ]
alone-level (every_more level_out every_none) (has_later h) e = elim h [ ]
alone-level {g = g} (every_more {x = x} k (every_more {x = y} {xs = ys} l m)) h e = let z = ltb-false 1 (length (x ∷ y ∷ ys)) (or-none (ltb 1 (length (x ∷ y ∷ ys))) (ltb 1 g) e) in absurd (omega (arith, z))

pub opens-even : {told : Bool} {n : ℕ} {owed : Bool} {g : ℕ} {ss : List Store} {xs us : List Seat} → Opens told n xs (Good owed g) us → Pairs Meets ss xs → Even Direct owed g us
opens-even h m q = let a = opens-level h m in alone-level a.0 a.1 (sym a.2 ∙ q)

-- of disks that tell what they hold, what they keep too
state-level : {v : Medium} {F : List (List ℕ)} {g : ℕ} {s : Store} {x : Seat} → State v F g s x → Level v g x
state-level (state_blank a b) = level_out
state-level (state_bad a b) = level_out
state-level (state_down a) = level_out
state-level (state_unmade a b f) = level_out
state-level {v} {F} {g} (state_left {c = c} a f) = level_in (λ i z. most i z) (λ e. cc) where
  most : (i : Image) → Shows v (In false c) i → i.generation ≤ g
  most i shows_now = fate-most f.now
  most i (shows_kept e k) = fate-most (f.kept e i k)
state-level {v} {F} {g} (state_live {c = c} a f e k q) = level_in (λ i z. let r = all i z in omega (arith, r)) (λ u i z. let r = all i z in omega (arith, r)) where
  all : (i : Image) → Shows v (In true c) i → i.generation ≡ g
  all i shows_now = k
  all i (shows_kept u z) = ap (λ (j : Image). j.generation) (sym (some-same c.now i (sym (q u) ∙ z))) ∙ k

pub states-level : {v : Medium} {F : List (List ℕ)} {g : ℕ} {ss : List Store} {xs : List Seat} → Pairs (State v F g) ss xs → Every (Level v g) xs
states-level pairs_none = every_none
states-level (pairs_more h m) = every_more (state-level h) (states-level m)

pub opens-kept : {v : Medium} {n : ℕ} {owed : Bool} {g : ℕ} {ss : List Store} {xs us : List Seat} → Opens true n xs (Good owed g) us → Pairs Meets ss xs → Every (Sized n) ss → Every (Settled v) ss → Every (Level v g) us
opens-kept {v} {us = us} h m z t = let r = opens-answer v h m z t in subst (λ k. Every (Level v k) us) r.1 (states-level r.2)
