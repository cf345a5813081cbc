-- The winner and those that join it, over plain variables.
use Rattle.std.proofs.Common.{◌≡◌, ℕ, ◌<◌, ◌≤◌, Bool, true, false, ◌||◌, List, [], ◌∷◌, ◌++◌, refl, arith}
use Rattle.mirror_rules.specs.Tree.{Image, Store, Seat, In, Out}
use Rattle.mirror_rules.specs.Claims.{Pairs, pairs_none, pairs_more, Every, every_none, every_more, Has, has_here, has_later, IsLive, live_in}
use Rattle.mirror_rules.specs.Steps.{Says}
use Rattle.mirror_rules.specs.Opening.{Meets, meets_good, meets_blank, meets_bad, meets_down, AtMost, most_in, most_out, Wins, wins_here, wins_later, wins_out, NotGood, not_good, Enters}
use Rattle.mirror_layer.specs.Winning.{Waits, waits_in, waits_out, Below, below_in, below_out, is_good, best, Admits}

pub good_append : (xs ys : List Seat) → is_good (xs ++ ys) ≡ (is_good xs || is_good ys)
good_append [] ys = refl
good_append (In b c ∷ xs) ys = refl
good_append (Out b s ∷ xs) ys = good_append xs ys

pub good-none : (xs : List Seat) → is_good xs ≡ false → Every NotGood xs
good-none [] e = every_none
good-none (In b c ∷ xs) e = cc
good-none (Out b s ∷ xs) e = every_more not_good (good-none xs e)

most-more : {g h : ℕ} {xs : List Seat} → g ≤ h → Every (AtMost g) xs → Every (AtMost h) xs
most-more l every_none = every_none
most-more l (every_more (most_in k) h) = every_more (most_in (omega arith)) (most-more l h)
most-more l (every_more most_out h) = every_more most_out (most-more l h)

pub most-best : (xs : List Seat) → Every (AtMost (best xs)) xs
most-best [] = every_none
most-best (In b c ∷ xs) = every_more (most_in (omega arith)) (most-more (omega arith) (most-best xs))
most-best (Out b s ∷ xs) = every_more most_out (most-best xs)

best-below : {g : ℕ} {xs : List Seat} → 0 < g → Every (Below g) xs → best xs < g
best-below l every_none = l
best-below l (every_more (below_in k) h) = let m = best-below l h in omega (arith, m)
best-below l (every_more below_out h) = best-below l h

good-above : {g : ℕ} (xs : List Seat) → Every (Below g) xs → is_good xs ≡ true → 0 < g
good-above [] h e = cc
good-above (In b c ∷ xs) (every_more (below_in k) h) e = omega arith
good-above (Out b s ∷ xs) (every_more below_out h) e = good-above xs h e

pub best-reached : (xs : List Seat) → Every (Below (best xs)) xs → is_good xs ≡ true → ⊥
best-reached xs h e = let m = best-below (good-above xs h e) h in omega (arith, m)

pub wins-live : {w : Image} {xs ys : List Seat} → Wins w xs ys → Has IsLive ys
wins-live (wins_here q a) = has_here live_in
wins-live (wins_later l h) = has_later (wins-live h)
wins-live (wins_out h) = has_later (wins-live h)

pub met-waits : {ss : List Store} {xs : List Seat} → Pairs Meets ss xs → Every Waits xs
met-waits pairs_none = every_none
met-waits (pairs_more (meets_good e) m) = every_more waits_in (met-waits m)
met-waits (pairs_more (meets_blank e z) m) = every_more waits_out (met-waits m)
met-waits (pairs_more (meets_bad e z) m) = every_more waits_out (met-waits m)
met-waits (pairs_more (meets_down a b f) m) = every_more waits_out (met-waits m)

pub admits-by : {told wrote : Bool} {g pages disks : ℕ} {s : Says} {xs ys zs : List Seat} → (w : Image) × (w.generation ≡ g) × Wins w xs ys → Enters told g pages 0 disks ys s wrote zs → Admits told g pages disks xs s wrote zs
admits-by {ys = ys} h e = record { winner = h.0; level = h.1; row = ys; wins = h.2; enters = e }
