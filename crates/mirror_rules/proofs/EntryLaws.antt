-- Durability: what an opening does to the images that guard.
use Rattle.std.proofs.Common.{◌≡◌, ℕ, zero, suc, ◌<◌, ◌≤◌, ◌⊎◌, inl, inr, Bool, true, false, List, [], ◌∷◌, Option, Some, None, refl, sym, ◌∙◌, ap, subst, arith}
use Rattle.mirror_rules.specs.Tree.{Image, Cell, Store, Why, Seat, In, Out}
use Rattle.mirror_rules.specs.Claims.{Pairs, pairs_none, pairs_more, Every, every_none, every_more, Has, has_here, has_later, Nth, nth_here, nth_later, HasPages}
use Rattle.mirror_rules.specs.Opening.{Meets, meets_good, meets_blank, meets_bad, meets_down, AtMost, most_in, most_out, Wins, wins_here, wins_later, wins_out, Outcome, Good, BadImage, Lost, Opens}
use Rattle.mirror_rules.specs.Guards.{Within, Medium, Direct, Settled, Stands, stands, Shows, shows_now, shows_kept, shows_out, At, at_place, IsIn, Guards, Placed, placed, Anywhere, in_drawer, in_place, Guarded, Guarding, live_at}
use Rattle.mirror_rules.specs.Fates.{Mixed, Fate, fate_old, fate_new, fate_made, Fates, State, state_blank, state_bad, state_down, state_unmade, state_left, state_live, Final, final_bad, final_out, final_made, final_in, Sized, Stays, stays_good, stays_blank, stays_bad, stays_down, BadKept, kept_bad, kept_down, OpeningEnd, ended_same, ended_won}
use Rattle.mirror_rules.specs.History.{Up, up, Away, either}
use Rattle.mirror_rules.proofs.PageLaws.{pairs-then}
use Rattle.mirror_rules.proofs.RoundLaws.{or-cases}
use Rattle.mirror_rules.proofs.GenLaws.{some-same, some-none}
use Rattle.mirror_rules.proofs.OpenLaws.{nth-same, nth-back, nth-on, settled-kept, state-pages, final-all}
use Rattle.mirror_rules.proofs.GivesLaws.{Won, Answered, opens-answer, opens-stay, Reaches, reaches, always}
use Rattle.mirror_rules.proofs.GuardLaws.{guards-by, guards-less, every-nth, live-nth}

-- stores
pub good-image : {s : Store} {b : Bool} {c : Cell} → Meets s (In b c) → s.image ≡ Some c.now
good-image (meets_good e) = e

pub met-image : {s t : Store} {b : Why} → Meets s (Out b t) → t.image ≡ s.image
met-image (meets_blank e b) = refl
met-image (meets_bad e b) = refl
met-image (meets_down a e f) = e

pub stood-at : {d : ℕ} {ss : List Store} {s : Store} {i : Image} → Nth d ss s → At Stands d ss i → s.image ≡ Some i
stood-at {i = i} n (at_place k (stands e)) = subst (λ (t : Store). t.image ≡ Some i) (nth-same k n) e

at-later : {d : ℕ} {s : Store} {ss : List Store} {c : Image} → At Stands d ss c → At Stands (suc d) (s ∷ ss) c
at-later (at_place n q) = at_place (nth_later n) q

pub wins-at : {w : Image} {ss : List Store} {xs ys : List Seat} → Pairs Meets ss xs → Wins w xs ys → (e : ℕ) × At Stands e ss w
wins-at pairs_none h = elim h [ ]
wins-at (pairs_more h m) (wins_here {c = c} q a) = (0, at_place nth_here (stands (good-image h ∙ ap (λ v. Some v) q)))
wins-at (pairs_more h m) (wins_later l k) = let r = wins-at m k in (suc r.0, at-later r.1)
wins-at (pairs_more h m) (wins_out k) = let r = wins-at m k in (suc r.0, at-later r.1)

-- where an opening ends
pub all-most : (g : ℕ) (xs : List Seat) → ((k : ℕ) → Has (Reaches k) xs → k ≤ g) → Every (AtMost g) xs
all-most g [] f = every_none
all-most g (In b c ∷ xs) f = every_more (most_in (f c.now.generation (has_here (reaches (omega arith))))) (all-most g xs (λ k h. f k (has_later h)))
all-most g (Out b s ∷ xs) f = every_more most_out (all-most g xs (λ k h. f k (has_later h)))

won-end : {v : Medium} {ss : List Store} {xs us : List Seat} (a : Won ss xs) → Pairs Stays xs us → Pairs (State v a.w.pages a.w.generation) ss us → OpeningEnd v ss xs us
won-end {xs = xs} a st f = ended_won {w = a.w} (wins-at a.met a.wins).1 (all-most a.w.generation xs a.reach) st (final-all f)

end-of : (v : Medium) (o : Outcome) {ss : List Store} {xs us : List Seat} → Pairs Stays xs us → Answered v o ss xs us → OpeningEnd v ss xs us
end-of v (Good owed g) st a = won-end a.0 st a.2
end-of v (BadImage d) st a = ended_same a.1
end-of v (Lost d k) st a = elim a [ inl q ↦ ended_same q.1 | inr q ↦ won-end q.0 st q.1 ]

pub opening-end : {v : Medium} {n : ℕ} {o : Outcome} {ss : List Store} {xs us : List Seat} → Opens true n xs o us → Pairs Meets ss xs → Every (Sized n) ss → Every (Settled v) ss → OpeningEnd v ss xs us
opening-end {v} {o = o} h m z t = end-of v o (opens-stay h) (opens-answer v h m z t)

-- whether a disk that counts is up
up-later : {L : ℕ → Bool} {x : Seat} {xs : List Seat} → Up (λ d. L (suc d)) xs → Up L (x ∷ xs)
up-later (up {d = d} e n) = up {d = suc d} e (nth_later n)

away-none : (L : ℕ → Bool) → Away L []
away-none L d ld b c n = elim n [ ]

away-out : (L : ℕ → Bool) {w : Why} {s : Store} {xs : List Seat} → Away (λ d. L (suc d)) xs → Away L (Out w s ∷ xs)
away-out L f zero ld b c n = elim n [ ]
away-out L f (suc d) ld b c (nth_later n) = f d ld b c n

away-in : (L : ℕ → Bool) {a : Bool} {e : Cell} {xs : List Seat} → L 0 ≡ false → Away (λ d. L (suc d)) xs → Away L (In a e ∷ xs)
away-in L q f zero ld b c n = absurd (let k : ◌≡◌ {A = Bool} true false = sym ld ∙ q in not-both k) where
  not-both : ◌≡◌ {A = Bool} true false → ⊥
  not-both k = cc
away-in L q f (suc d) ld b c (nth_later n) = f d ld b c n

pub up-or : (L : ℕ → Bool) (xs : List Seat) → Up L xs ⊎ Away L xs
up-or L [] = inr (away-none L)
up-or L (Out w s ∷ xs) = elim (up-or (λ d. L (suc d)) xs) [ inl u ↦ inl (up-later u) | inr f ↦ inr (away-out L f) ]
up-or L (In a e ∷ xs) = elim (up-or (λ d. L (suc d)) xs) [ inl u ↦ inl (up-later u) | inr f ↦ by (L 0) refl f ] where
  by : (z : Bool) → L 0 ≡ z → Away (λ d. L (suc d)) xs → Up L (In a e ∷ xs) ⊎ Away L (In a e ∷ xs)
  by true q f = inl (up {d = 0} q nth_here)
  by false q f = inr (away-in L q f)

-- pages of two images
mixed-within : (A : ℕ → List ℕ → Type 0) (F G H : List (List ℕ)) → Within A F → Mixed F G H → Within A G → Within A H
mixed-within A F G H f m g p l = elim (m.each p) [ inl e ↦ subst (A p) (sym e) (f p (omega (arith, m.len))) | inr e ↦ subst (A p) (sym e) (g p (omega (arith, m.own))) ]

-- what the fate of an image is beside an image c that guards, where the winner's pages are guarded, or below c
fate-below : (A : ℕ → List ℕ → Type 0) {F : List (List ℕ)} {g : ℕ} {o : Option Image} {b : Image} (c : Image) → Within A F ⊎ (g < c.generation) → ((i : Image) → o ≡ Some i → Within A i.pages ⊎ (i.generation < c.generation)) → Fate F g o b
    → Within A b.pages ⊎ (b.generation < c.generation)
fate-below A {F} {g} c w f (fate_old {i = i} {c = b} a l m) = both w (f i refl) where
  both : Within A F ⊎ (g < c.generation) → Within A i.pages ⊎ (i.generation < c.generation) → Within A b.pages ⊎ (b.generation < c.generation)
  both (inl p) (inl q) = inl (mixed-within A F i.pages b.pages p m q)
  both (inl p) (inr q) = inr (omega (arith, a))
  both (inr p) q = inr (omega (arith, a))
fate-below A {b = b} c w f (fate_new a l m) = elim w as (λ _. Within A b.pages ⊎ (b.generation < c.generation)) [ inl p ↦ inl (subst (Within A) (sym a) p) | inr q ↦ inr (omega arith) ]
fate-below A {b = b} c w f (fate_made a l) = elim w as (λ _. Within A b.pages ⊎ (b.generation < c.generation)) [ inl p ↦ inl (subst (Within A) (sym a) p) | inr q ↦ inr (omega (arith, l)) ]

pub shown-fate : {v : Medium} {F : List (List ℕ)} {g : ℕ} {o : Option Image} {b : Bool} {c : Cell} {e : Image} → Fates v F g o c → Shows v (In b c) e → Fate F g o e
shown-fate f shows_now = f.now
shown-fate f (shows_kept q k) = f.kept q _ k

final-below : {v : Medium} (A : ℕ → List ℕ → Type 0) {F : List (List ℕ)} {g : ℕ} {s : Store} {y : Seat} {b : Image} (c : Image) → Within A F ⊎ (g < c.generation) → ((i : Image) → s.image ≡ Some i → Within A i.pages ⊎ (i.generation < c.generation))
    → Final v F g s y → Shows v y b → Within A b.pages ⊎ (b.generation < c.generation)
final-below A c w f (final_bad e q) (shows_out z) = absurd (some-none _ (sym z ∙ e))
final-below A c w f (final_out e) (shows_out {i = i} z) = f i (sym e ∙ z)
final-below A {b = b} c w f (final_made {c = i} e q h) (shows_out z) = subst (λ (k : Image). Within A k.pages ⊎ (k.generation < c.generation)) (some-same i b (sym q ∙ z)) (fate-below A c w (λ j k. f j (e ∙ k)) h)
final-below A c w f (final_in e h) z = fate-below A c w (λ j k. f j (e ∙ k)) (shown-fate h z)

-- an image after an opening is no lower than what was found, and has such pages if the winner's are
fate-later : (A : ℕ → List ℕ → Type 0) {F : List (List ℕ)} {g : ℕ} {o : Option Image} {e : Image} (i : Image) → o ≡ Some i → Fate F g o e → (i.generation ≤ e.generation) × (Within A F → Within A i.pages → Within A e.pages)
fate-later A {F} i q (fate_old {i = j} {c = e} a l m) = let z : j ≡ i = some-same j i q in (omega (arith, a, ap (λ (k : Image). k.generation) z), λ f w. mixed-within A F j.pages e.pages f m (subst (λ (k : Image). Within A k.pages) (sym z) w))
fate-later A i q (fate_new {i = j} a l m) = let z : j ≡ i = some-same j i q in (omega (arith, ap (λ (k : Image). k.generation) z), λ f w. subst (Within A) (sym a) f)
fate-later A i q (fate_made a l) = absurd (some-none i (sym q))

pub final-later : {v : Medium} (A : ℕ → List ℕ → Type 0) {F : List (List ℕ)} {g : ℕ} {s : Store} {y : Seat} {e : Image} (i : Image) → s.image ≡ Some i → Final v F g s y → Shows v y e → (i.generation ≤ e.generation) × (Within A F → Within A i.pages → Within A e.pages)
final-later A i q (final_bad a b) z = absurd (some-none i (sym q ∙ a))
final-later A {e = e} i q (final_out a) (shows_out z) = let k : i ≡ e = some-same i e (sym q ∙ sym a ∙ z) in (omega (arith, ap (λ (u : Image). u.generation) k), λ f w. subst (λ (u : Image). Within A u.pages) k w)
final-later A i q (final_made a b h) z = absurd (some-none i (sym q ∙ a))
final-later A i q (final_in a h) z = fate-later A i (sym a ∙ q) (shown-fate h z)

-- what a disk shows as its opening found it
pub met-shows : {v : Medium} {s : Store} {x : Seat} {e : Image} → Settled v s → Meets s x → Shows v x e → s.image ≡ Some e
met-shows t (meets_good a) shows_now = a
met-shows {v} {s} t (meets_good a) (shows_kept q k) = sym (settled-kept v s t q) ∙ k
met-shows t (meets_blank a b) (shows_out z) = z
met-shows t (meets_bad a b) (shows_out z) = z
met-shows t (meets_down a b f) (shows_out z) = sym b ∙ z

-- stores, of which those at the places of L show images that guard
pub record Comers (C W : Image → Type 0) (L : ℕ → Bool) (past : List Image) (ss : List Store) : Type 0 where
  pub counts : (d : ℕ) → L d ≡ true → (i : Image) × At Stands d ss i × C i
  pub all : (e : ℕ) (i : Image) → At Stands e ss i → W i
  pub drawers : (i : Image) → IsIn past i → W i

-- an image that counts, and what its disk shows afterwards
counted : {C : Image → Type 0} {d : ℕ} {ss : List Store} {s : Store} → (i : Image) × At Stands d ss i × C i → Nth d ss s → (i : Image) × (s.image ≡ Some i) × C i
counted h n = (h.0, stood-at n h.1, h.2)

same-counts : {C : Image → Type 0} (s : Store) {e : Image} → (i : Image) × (s.image ≡ Some i) × C i → s.image ≡ Some e → C e
same-counts {C = C} s {e = e} h q = subst C (some-same h.0 e (sym h.1 ∙ q)) h.2

-- a disk that counts and is up, beside the winner: the winner's pages are guarded
pub record Chosen (A : ℕ → List ℕ → Type 0) (C : Image → Type 0) (w : Image) : Type 0 where
  pub one : Image
  pub counts : C one
  pub lower : one.generation ≤ w.generation
  pub within : Within A w.pages

pub most-at : {g : ℕ} {b : Bool} {c : Cell} → AtMost g (In b c) → c.now.generation ≤ g
most-at (most_in l) = l

pub chosen : {A : ℕ → List ℕ → Type 0} {C W : Image → Type 0} {L : ℕ → Bool} {past : List Image} {ss : List Store} {xs : List Seat} {w : Image} → Guards A C W → Comers C W L past ss → Pairs Meets ss xs → Every (AtMost w.generation) xs → W w → Up L xs → Chosen A C w
chosen {A} {C} {w = w} g k m most ww (up {c = c} ld n) =
    let s = nth-back m n in
    let h : C c.now = same-counts s.0 (counted (k.counts _ ld) s.1) (good-image s.2) in
    let l = most-at (every-nth most n) in
    record { one = c.now; counts = h; lower = l; within = elim (g.below c.now w h ww) as (λ _. Within A w.pages) [ inl p ↦ p | inr q ↦ absurd (omega arith) ] }

-- a disk that was not opened shows what it did
away-shows : {v : Medium} {s : Store} {x y : Seat} {i e : Image} → ((b : Bool) (c : Cell) → x ≡ In b c → ⊥) → s.image ≡ Some i → Meets s x → Stays x y → Shows v y e → s.image ≡ Some e
away-shows f q m (stays_good {b = b} {c = c}) z = absurd (f b c refl)
away-shows {i = i} f q (meets_blank a b) stays_blank z = absurd (some-none i (sym q ∙ a))
away-shows {i = i} f q (meets_bad a b) stays_bad z = absurd (some-none i (sym q ∙ a))
away-shows f q (meets_down a b l) stays_down (shows_out z) = sym b ∙ z

-- an opening, whatever it answers, or where it is stopped
pub open-guards : {v : Medium} {A : ℕ → List ℕ → Type 0} {C W : Image → Type 0} {L : ℕ → Bool} {past : List Image} {ss : List Store} {xs us : List Seat} → Guards A C W → Comers C W L past ss → Pairs Meets ss xs → Every (Settled v) ss → OpeningEnd v ss xs us
    → Guards A (λ e. C e ⊎ Placed (Shows v) L us e) (Anywhere (Shows v) past us)
open-guards {v} {A} {C} {W} {L} {past} {ss} {xs} g k m t (ended_same q) = subst (λ us. Guards A (λ e. C e ⊎ Placed (Shows v) L us e) (Anywhere (Shows v) past us)) (sym q) (guards-by g root each) where
  found : {d : ℕ} {x : Seat} {e : Image} → Nth d xs x → Shows v x e → (s : Store) × Nth d ss s × (s.image ≡ Some e)
  found n z = let s = nth-back m n in (s.0, s.1, met-shows (every-nth t s.1) s.2 z)

  root : (e : Image) → C e ⊎ Placed (Shows v) L xs e → (c : Image) × C c × (c.generation ≤ e.generation) × Within A e.pages
  root e (inl h) = (e, h, omega arith, g.holds e h)
  root e (inr (placed ld (at_place n z))) = let s = found n z in let h : C e = same-counts s.0 (counted (k.counts _ ld) s.1) s.2 in (e, h, omega arith, g.holds e h)

  each : (c : Image) → C c → (b : Image) → Anywhere (Shows v) past xs b → Within A b.pages ⊎ (b.generation < c.generation)
  each c h b (in_drawer i) = g.below c b h (k.drawers b i)
  each c h b (in_place (at_place n z)) = let s = found n z in g.below c b h (k.all _ b (at_place s.1 (stands s.2)))
open-guards {v} {A} {C} {W} {L} {past} {ss} {xs} {us} g k m t (ended_won {w = w} aw most st fin) = guards-by g root each where
  ww : W w
  ww = k.all _ w aw

  each : (c : Image) → C c → (b : Image) → Anywhere (Shows v) past us b → Within A b.pages ⊎ (b.generation < c.generation)
  each c h b (in_drawer i) = g.below c b h (k.drawers b i)
  each c h b (in_place (at_place n z)) = let s = nth-back fin n in final-below A c (g.below c w h ww) (λ i q. g.below c i h (k.all _ i (at_place s.1 (stands q)))) s.2 z

  here : {d : ℕ} {y : Seat} (e : Image) → L d ≡ true → Nth d us y → Shows v y e → Up L xs ⊎ Away L xs → (c : Image) × C c × (c.generation ≤ e.generation) × Within A e.pages
  here e ld n z (inl u) =
      let s = nth-back fin n in
      let h = counted (k.counts _ ld) s.1 in
      let r = final-later A h.0 h.1 s.2 z in
      (h.0, h.2, r.0, r.1 (chosen g k m most ww u).within (g.holds h.0 h.2))
  here {d} e ld n z (inr f) =
      let x = nth-back st n in
      let s = nth-back m x.1 in
      let h = counted (k.counts _ ld) s.1 in
      let c : C e = same-counts s.0 h (away-shows (λ b c q. f d ld b c (subst (Nth d xs) q x.1)) h.1 s.2 x.2 z) in
      (e, c, omega arith, g.holds e c)

  root : (e : Image) → C e ⊎ Placed (Shows v) L us e → (c : Image) × C c × (c.generation ≤ e.generation) × Within A e.pages
  root e (inl h) = (e, h, omega arith, g.holds e h)
  root e (inr (placed ld (at_place n z))) = here e ld n z (up-or L xs)

-- a disk that is live after an opening has the winner's pages and generation
pub live-shown : {v : Medium} {F : List (List ℕ)} {g : ℕ} {s : Store} {y : Seat} {c : Cell} {e : Image} → y ≡ In true c → State v F g s y → Shows v y e → (e.pages ≡ F) × (e.generation ≡ g)
live-shown q (state_blank a b) z = cc
live-shown q (state_bad a b) z = cc
live-shown q (state_down a) z = cc
live-shown q (state_unmade a b f) z = cc
live-shown q (state_left a f) z = cc
live-shown q (state_live a f p k r) shows_now = (p, k)
live-shown {e = e} q (state_live {c = c} a f p k r) (shows_kept u z) = let i : c.now ≡ e = some-same c.now e (sym (r u) ∙ z) in (ap (λ (j : Image). j.pages) (sym i) ∙ p, ap (λ (j : Image). j.generation) (sym i) ∙ k)

-- and if a disk that counts was up it guards too
pub open-joined : {v : Medium} {A : ℕ → List ℕ → Type 0} {C W : Image → Type 0} {L : ℕ → Bool} {past : List Image} {ss : List Store} {xs us : List Seat} {w : Image} → Guards A C W → Comers C W L past ss → Pairs Meets ss xs → Every (AtMost w.generation) xs → W w → Up L xs
    → Pairs (State v w.pages w.generation) ss us → Guards A (λ e. C e ⊎ Placed (Shows v) L us e) (Anywhere (Shows v) past us) → Guards A (λ e. C e ⊎ Placed (Shows v) (either L (live_at us)) us e) (Anywhere (Shows v) past us)
open-joined {v} {A} {C} {W} {L} {past} {ss} {xs} {us} {w} g k m most ww u st o = guards-by o root (λ c h b z. o.below c b h z) where
  x : Chosen A C w
  x = chosen g k m most ww u

  by : {d : ℕ} (e : Image) → (L d ≡ true) ⊎ (live_at us d ≡ true) → At (Shows v) d us e → (c : Image) × (C c ⊎ Placed (Shows v) L us c) × (c.generation ≤ e.generation) × Within A e.pages
  by e (inl ld) a = (e, inr (placed ld a), omega arith, o.holds e (inr (placed ld a)))
  by {d} e (inr ld) (at_place n z) =
      let r = live-nth us d ld in
      let s = nth-back st n in
      let q = live-shown (nth-same n r.1) s.2 z in
      (x.one, inl x.counts, omega (arith, x.lower, q.1), subst (Within A) (sym q.0) x.within)

  root : (e : Image) → C e ⊎ Placed (Shows v) (either L (live_at us)) us e → (c : Image) × (C c ⊎ Placed (Shows v) L us c) × (c.generation ≤ e.generation) × Within A e.pages
  root e (inl h) = (e, inl h, omega arith, o.holds e (inl h))
  root e (inr (placed {d = d} ld a)) = by e (or-cases (L d) (live_at us d) ld) a

-- the laws of an opening
row-comers : {A : ℕ → List ℕ → Type 0} {L : ℕ → Bool} {past : List Image} {ss : List Store} → Guarded A L past ss → Comers (Placed Stands L ss) (Anywhere Stands past ss) L past ss
row-comers g = record {
  counts = λ d ld. let h = g.there d ld in (h.0, h.1, placed ld h.1);
  all = λ e i a. in_place a;
  drawers = λ i k. in_drawer k;
}

-- a place that had an image has one
final-shows : {v : Medium} {F : List (List ℕ)} {g : ℕ} {s : Store} (y : Seat) (i : Image) → s.image ≡ Some i → Final v F g s y → (e : Image) × Shows v y e
final-shows y i q (final_bad a b) = absurd (some-none i (sym q ∙ a))
final-shows y i q (final_out a) = (i, shows_out (a ∙ q))
final-shows y i q (final_made a b h) = absurd (some-none i (sym q ∙ a))
final-shows y i q (final_in {c = c} a h) = (c.now, shows_now)

met-on : {v : Medium} {s : Store} (x : Seat) (i : Image) → s.image ≡ Some i → Meets s x → (e : Image) × Shows v x e
met-on x i q (meets_good {i = j} a) = (j, shows_now)
met-on x i q (meets_blank a b) = absurd (some-none i (sym q ∙ a))
met-on x i q (meets_bad a b) = absurd (some-none i (sym q ∙ a))
met-on x i q (meets_down a b f) = (i, shows_out (b ∙ q))

row-there : {v : Medium} {ss : List Store} {xs us : List Seat} {d : ℕ} (i : Image) → Pairs Meets ss xs → OpeningEnd v ss xs us → At Stands d ss i → (e : Image) × At (Shows v) d us e
row-there {v} {ss} {xs} {us} {d} i m (ended_same q) (at_place n (stands z)) = let x = nth-on m n in let r = met-on x.0 i z x.2 in (r.0, at_place (subst (λ u. Nth d u x.0) (sym q) x.1) r.1)
row-there i m (ended_won aw most st fin) (at_place n (stands z)) = let y = nth-on fin n in let r = final-shows y.0 i z y.2 in (r.0, at_place y.1 r.1)

only-placed : {A : ℕ → List ℕ → Type 0} {C D W : Image → Type 0} → Guards A (λ e. C e ⊎ D e) W → Guards A D W
only-placed g = guards-less g (λ e h. inr h) (λ b w. w)

-- an opening, whatever it answers: the same disks guard
pub guards-open : {v : Medium} {A : ℕ → List ℕ → Type 0} {L : ℕ → Bool} {past : List Image} {n : ℕ} {o : Outcome} {ss : List Store} {xs us : List Seat} → Opens true n xs o us → Pairs Meets ss xs → Every (Sized n) ss → Every (Settled v) ss → Guarded A L past ss → Guarding v A L past us
guards-open h m z t g = let e = opening-end h m z t in record {
  there = λ d ld. let r = g.there d ld in row-there r.0 m e r.1;
  guards = only-placed (open-guards g.guards (row-comers g) m t e);
}

-- and where it answers Ok with one of them up, all that are live do
either-there : {v : Medium} {L : ℕ → Bool} {us : List Seat} (d : ℕ) → ((d : ℕ) → L d ≡ true → (e : Image) × At (Shows v) d us e) → either L (live_at us) d ≡ true → (e : Image) × At (Shows v) d us e
either-there {L = L} {us = us} d f k = elim (or-cases (L d) (live_at us d) k) [ inl h ↦ f d h | inr h ↦ let r = live-nth us d h in (r.0.now, at_place r.1 shows_now) ]

pub guards-joined : {v : Medium} {A : ℕ → List ℕ → Type 0} {L : ℕ → Bool} {past : List Image} {n : ℕ} {owed : Bool} {g : ℕ} {ss : List Store} {xs us : List Seat} → Opens true n xs (Good owed g) us → Pairs Meets ss xs → Every (Sized n) ss → Every (Settled v) ss → Up L xs → Guarded A L past ss
    → Guarding v A (either L (live_at us)) past us
guards-joined {v} {xs = xs} h m z t u g =
    let e = opening-end h m z t in
    let r = opens-answer v h m z t in
    let at = wins-at r.0.met r.0.wins in record {
      there = λ d k. either-there d (λ j ld. let y = g.there j ld in row-there y.0 m e y.1) k;
      guards = only-placed (open-joined g.guards (row-comers g) m (all-most r.0.w.generation xs r.0.reach) (in_place at.1) u r.2 (open-guards g.guards (row-comers g) m t e));
    }

-- and the ground's pages are guarded
pub opens-within : {A : ℕ → List ℕ → Type 0} {L : ℕ → Bool} {past : List Image} {n : ℕ} {owed : Bool} {g : ℕ} {ss : List Store} {xs us : List Seat} → Opens true n xs (Good owed g) us → Pairs Meets ss xs → Every (Sized n) ss → Up L xs → Guarded A L past ss → (F : List (List ℕ)) × Every (HasPages F) us × Within A F
opens-within {xs = xs} h m z u g =
    let r = opens-answer Direct h m z (always z) in
    let at = wins-at r.0.met r.0.wins in
    (r.0.w.pages, state-pages r.2, (chosen g.guards (row-comers g) m (all-most r.0.w.generation xs r.0.reach) (in_place at.1) u).within)

-- a disk that was found without an image shows none, or all that the winner had
pub made-whole : {v : Medium} {F : List (List ℕ)} {g : ℕ} {s : Store} {y : Seat} {i : Image} → s.image ≡ None → Final v F g s y → Shows v y i → (i.pages ≡ F) × (i.generation ≡ g)
made-whole e (final_bad a b) (shows_out z) = absurd (some-none _ (sym z ∙ a))
made-whole e (final_out a) (shows_out z) = absurd (some-none _ (sym z ∙ a ∙ e))
made-whole {i = i} e (final_made {c = c} a b h) (shows_out z) = fate-whole i (some-same c i (sym b ∙ z)) h where
  fate-whole : {F : List (List ℕ)} {g : ℕ} {c : Image} (i : Image) → c ≡ i → Fate F g None c → (i.pages ≡ F) × (i.generation ≡ g)
  fate-whole i q (fate_made p k) = (ap (λ (u : Image). u.pages) (sym q) ∙ p, ap (λ (u : Image). u.generation) (sym q) ∙ k)
made-whole e (final_in a h) z = of-none (sym a ∙ e) (shown-fate h z) where
  of-none : {F : List (List ℕ)} {g : ℕ} {o : Option Image} {i : Image} → o ≡ None → Fate F g o i → (i.pages ≡ F) × (i.generation ≡ g)
  of-none q (fate_old {i = j} a l m) = absurd (some-none j q)
  of-none q (fate_new {i = j} a l m) = absurd (some-none j q)
  of-none q (fate_made p k) = (p, k)

-- a bad disk is left as it is
pub bad-kept : {ss : List Store} {xs us : List Seat} → Pairs Meets ss xs → Pairs Stays xs us → Pairs (λ s y. s.image ≡ None → s.blank ≡ false → BadKept s y) ss us
bad-kept m h = pairs-then (λ s x y. one) m h where
  one : {s : Store} {x y : Seat} → Meets s x → Stays x y → s.image ≡ None → s.blank ≡ false → BadKept s y
  one (meets_good {i = i} a) k e b = absurd (some-none i (sym a ∙ e))
  one (meets_blank a z) k e b = absurd (not-both (sym z ∙ b)) where
    not-both : ◌≡◌ {A = Bool} true false → ⊥
    not-both q = cc
  one (meets_bad a z) stays_bad e b = kept_bad
  one (meets_down a z f) stays_down e b = kept_down (z ∙ e) f
