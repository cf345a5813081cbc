-- The ground that was opened is what its disks give.
use Rattle.std.proofs.Common.{◌≡◌, ℕ, ◌<◌, ◌≤◌, ◌⊎◌, inl, inr, Bool, true, false, List, [], ◌∷◌, ◌++◌, Some, refl, sym, ◌∙◌, ap, subst, arith}
use Rattle.std.proofs.lemmas.Bool.{cases_lt}
use Rattle.mirror_rules.specs.Tree.{Image, Cell, Store, Why, Blank, Bad, Down, Seat, In, Out, Tree, Leaf, Coherent, Mirror, seats, owes}
use Rattle.mirror_rules.specs.Claims.{Pairs, pairs_none, pairs_more, Every, every_none, every_more, Has, has_here, has_later, Nth, nth_here, nth_later, IsLive, HasPages, Kind, kind_in, kind_out}
use Rattle.mirror_rules.specs.Steps.{Act, Says, Asked, asked_out, asked_stale, asked_took, asked_lost, asked_none, Looked, looked_out, looked_stale, looked_same, looked_refused}
use Rattle.mirror_rules.specs.Opening.{Meets, meets_good, meets_down, AtMost, most_in, most_out, Wins, wins_here, wins_later, wins_out, Only, only_here, only_later, Copies, copy_same, copy_differs, copy_left, copy_gone, copy_even, copy_settled, copy_unflushed, copy_unraised, Enters, enter_end, enter_next, enter_joins, enter_gone, Fills, fill_end, fill_next, fill_gone, Renews, renew_end, renew_next, renew_made, renew_left, renew_gone, Outcome, Good, BadImage, Lost, NotGood, not_good, IsBad, is_blank, is_bad, Opens, open_down, open_blank, open_bad, open_good, open_gone, open_unrenewed, open_again, IsGoodAt, good_at, GivesWay, way_none, way_out, way_waits, way_left, Yields, Downed, downed_not, downed, DownedTree, downed_leaf, downed_below, downed_mirror, Gives, gives_image, gives_below, gives_left, gives_right, gives_left_alone, gives_right_alone}
use Rattle.mirror_rules.specs.Guards.{Medium, Direct, Settled}
use Rattle.mirror_rules.specs.Fates.{State, Sized, Stays, stays_good, stays_blank, stays_bad, stays_down}
use Rattle.mirror_rules.proofs.PageLaws.{pairs-then}
use Rattle.mirror_rules.proofs.RoundLaws.{pairs-map}
use Rattle.mirror_rules.proofs.OpenLaws.{state-pages, enters-state, renews-state, wins-size, start-state, start-waits}

-- of the disks of two sides the winner is in the left one, or in the right one and above all of the left
data Below (g : ℕ) : Seat → Type 0 where
  below_in : {b : Bool} {c : Cell} → c.now.generation < g → Below g (In b c)
  below_out : {b : Why} {s : Store} → Below g (Out b s)

every-left : {A : Type 0} {P : A → Type 0} (xs ys : List A) → Every P (xs ++ ys) → Every P xs
every-left [] ys h = every_none
every-left (x ∷ xs) ys (every_more h i) = every_more h (every-left xs ys i)

every-right : {A : Type 0} {P : A → Type 0} (xs ys : List A) → Every P (xs ++ ys) → Every P ys
every-right [] ys h = h
every-right (x ∷ xs) ys (every_more h i) = every-right xs ys i

wins-split : (w : Image) (xs zs us : List Seat) → Wins w (xs ++ zs) us → ((ys : List Seat) × Wins w xs ys × Every (AtMost w.generation) zs) ⊎ ((ys : List Seat) × Wins w zs ys × Every (Below w.generation) xs)
wins-split w [] zs us h = inr (us, h, every_none)
wins-split w (In true c ∷ xs) zs us h = elim h [ ]
wins-split w (In false c ∷ xs) zs us (wins_here {c = d} q a) = inl (In true c ∷ xs, wins_here q (every-left xs zs a), every-right xs zs a)
wins-split w (In false c ∷ xs) zs us (wins_later {ys = vs} l h) = elim (wins-split w xs zs vs h) [ inl r ↦ inl (In false c ∷ r.0, wins_later l r.1, r.2) | inr r ↦ inr (r.0, r.1, every_more (below_in l) r.2) ]
wins-split w (Out b s ∷ xs) zs us (wins_out {ys = vs} h) = elim (wins-split w xs zs vs h) [ inl r ↦ inl (Out b s ∷ r.0, wins_out r.1, r.2) | inr r ↦ inr (r.0, r.1, every_more below_out r.2) ]

every-append : {A : Type 0} {P : A → Type 0} {xs ys : List A} → Every P xs → Every P ys → Every P (xs ++ ys)
every-append every_none k = k
every-append (every_more h i) k = every_more h (every-append i k)

-- what is given by a tree where each good disk's generation is such
gives-some : (Q : Seat → Type 0) (P : ℕ → Type 0) (t : Tree) → ((b : Bool) (c : Cell) → Q (In b c) → P c.now.generation) → Every Q (seats t) → Every NotGood (seats t) ⊎ ((h : ℕ) × (F : List (List ℕ)) × Gives t h F × P h)
gives-some Q P (Leaf (In b c)) f (every_more q h) = inr (c.now.generation, c.now.pages, gives_image, f b c q)
gives-some Q P (Leaf (Out b s)) f h = inl (every_more not_good every_none)
gives-some Q P (Coherent t) f h = elim (gives-some Q P t f h) [ inl n ↦ inl n | inr r ↦ inr (r.0, r.1, gives_below r.2, r.3) ]
gives-some Q P (Mirror l r) f h =
    elim (gives-some Q P l f (every-left (seats l) (seats r) h)) [
      | inl n ↦ elim (gives-some Q P r f (every-right (seats l) (seats r) h)) [ inl m ↦ inl (every-append n m) | inr y ↦ inr (y.0, y.1, gives_right_alone n y.2, y.3) ]
      | inr x ↦ elim (gives-some Q P r f (every-right (seats l) (seats r) h)) [
        | inl m ↦ inr (x.0, x.1, gives_left_alone x.2 m, x.3)
        | inr y ↦ elim (cases_lt x.0 y.0) [ inl k ↦ inr (y.0, y.1, gives_right x.2 y.2 k, y.3) | inr k ↦ inr (x.0, x.1, gives_left x.2 y.2 k, x.3) ]
      ]
    ]

at-most : (g : ℕ) (b : Bool) (c : Cell) → AtMost g (In b c) → c.now.generation ≤ g
at-most g b c (most_in l) = l

under : (g : ℕ) (b : Bool) (c : Cell) → Below g (In b c) → c.now.generation < g
under g b c (below_in l) = l

-- the winner is what the tree gives
pub wins-gives : (w : Image) (t : Tree) (us : List Seat) → Wins w (seats t) us → Gives t w.generation w.pages
wins-gives w (Leaf (In false c)) us (wins_here q a) = subst (λ (v : Image). Gives (Leaf (In false c)) v.generation v.pages) q gives_image
wins-gives w (Leaf (In false c)) us (wins_later l h) = elim h [ ]
wins-gives w (Leaf (In true c)) us h = elim h [ ]
wins-gives w (Leaf (Out b s)) us (wins_out h) = elim h [ ]
wins-gives w (Coherent t) us h = gives_below (wins-gives w t us h)
wins-gives w (Mirror l r) us h = elim (wins-split w (seats l) (seats r) us h) [
  | inl a ↦ elim (gives-some (AtMost w.generation) (λ k. k ≤ w.generation) r (at-most w.generation) a.2) [
    | inl n ↦ gives_left_alone (wins-gives w l a.0 a.1) n
    | inr y ↦ gives_left (wins-gives w l a.0 a.1) y.2 y.3
  ]
  | inr a ↦ elim (gives-some (Below w.generation) (λ k. k < w.generation) l (under w.generation) a.2) [
    | inl n ↦ gives_right_alone n (wins-gives w r a.0 a.1)
    | inr y ↦ gives_right y.2 (wins-gives w r a.0 a.1) y.3
  ]
]

-- in a call what is opened stays opened, and what is not stays as it is
pub kind-same : (xs : List Seat) → Pairs Kind xs xs
kind-same [] = pairs_none
kind-same (In b c ∷ xs) = pairs_more kind_in (kind-same xs)
kind-same (Out b s ∷ xs) = pairs_more kind_out (kind-same xs)

kind-then : {x y z : Seat} → Kind x y → Kind y z → Kind x z
kind-then kind_in kind_in = kind_in
kind-then kind_out kind_out = kind_out

pub kinds-then : {xs ys zs : List Seat} → Pairs Kind xs ys → Pairs Kind ys zs → Pairs Kind xs zs
kinds-then h i = pairs-then (λ x y z. kind-then) h i

pub look-kind : {s : Says} {xs ys : List Seat} → Pairs (Looked s) xs ys → Pairs Kind xs ys
look-kind h = pairs-map (λ x y. one) h where
  one : {s : Says} {x y : Seat} → Looked s x y → Kind x y
  one looked_out = kind_out
  one looked_stale = kind_in
  one (looked_same e) = kind_in
  one (looked_refused l) = kind_in

pub asked-kind : {a : Act} {s : Says} {xs ys : List Seat} → Pairs (Asked a s) xs ys → Pairs Kind xs ys
asked-kind h = pairs-map (λ x y. one) h where
  one : {a : Act} {s : Says} {x y : Seat} → Asked a s x y → Kind x y
  one asked_out = kind_out
  one asked_stale = kind_in
  one (asked_took h) = kind_in
  one (asked_lost h) = kind_in
  one (asked_none h) = kind_in

-- in an opening what was found bad, or refused, stays as it was
stays-same : (x : Seat) → Stays x x
stays-same (In b c) = stays_good
stays-same (Out Blank s) = stays_blank
stays-same (Out Bad s) = stays_bad
stays-same (Out Down s) = stays_down

pub stay-same : (xs : List Seat) → Pairs Stays xs xs
stay-same [] = pairs_none
stay-same (x ∷ xs) = pairs_more (stays-same x) (stay-same xs)

stays-then : {x y z : Seat} → Stays x y → Stays y z → Stays x z
stays-then stays_good k = stays_good
stays-then stays_blank k = stays_blank
stays-then stays_bad stays_bad = stays_bad
stays-then stays_down stays_down = stays_down

pub stay-then : {xs ys zs : List Seat} → Pairs Stays xs ys → Pairs Stays ys zs → Pairs Stays xs zs
stay-then h i = pairs-then (λ x y z. stays-then) h i

look-stays : {s : Says} {xs ys : List Seat} → Pairs (Looked s) xs ys → Pairs Stays xs ys
look-stays h = pairs-map (λ x y. one) h where
  one : {s : Says} {x y : Seat} → Looked s x y → Stays x y
  one (looked_out {b = b} {t = t}) = stays-same (Out b t)
  one looked_stale = stays_good
  one (looked_same e) = stays_good
  one (looked_refused l) = stays_good

only-stays : {x y : Seat} {n : ℕ} {xs ys : List Seat} → Stays x y → Only x y n xs ys → Pairs Stays xs ys
only-stays h (only_here {xs = xs}) = pairs_more h (stay-same xs)
only-stays h (only_later {z = z} k) = pairs_more (stays-same z) (only-stays h k)

copies-stay : {told : Bool} {g i n p : ℕ} {e : Bool} {s : Says} {xs ys : List Seat} {wrote : Bool} → Copies told g i e n p xs s wrote ys → Pairs Stays xs ys
copies-stay (copy_same h k q r) = stay-then (look-stays h.each) (copies-stay r)
copies-stay (copy_differs h ne z k r) = stay-then (look-stays h.each) (stay-then (only-stays stays_good k) (copies-stay r))
copies-stay (copy_left h l k) = stay-then (look-stays h.each) (only-stays stays_good k)
copies-stay (copy_gone h) = look-stays h.each
copies-stay (copy_even k) = only-stays stays_good k
copies-stay (copy_settled k) = only-stays stays_good k
copies-stay (copy_unflushed h k) = only-stays stays_good k
copies-stay (copy_unraised h q k) = only-stays stays_good k

enters-stay : {told : Bool} {g n i m : ℕ} {s : Says} {xs ys : List Seat} {wrote : Bool} → Enters told g n i m xs s wrote ys → Pairs Stays xs ys
enters-stay (enter_end {xs = xs}) = stay-same xs
enters-stay (enter_next h p r) = enters-stay r
enters-stay (enter_joins h q k r) = stay-then (copies-stay k) (enters-stay r)
enters-stay (enter_gone h q k) = copies-stay k

fills-stay : {n p : ℕ} {s : Says} {F : List (List ℕ)} {xs ys : List Seat} → Fills n p xs s F ys → Pairs Stays xs ys
fills-stay (fill_end {xs = xs}) = stay-same xs
fills-stay (fill_next h r) = stay-then (look-stays h.each) (fills-stay r)
fills-stay (fill_gone h) = look-stays h.each

renews-stay : {told : Bool} {g n i m : ℕ} {s : Says} {xs ys : List Seat} → Renews told g n i m xs s ys → Pairs Stays xs ys
renews-stay (renew_end {xs = xs}) = stay-same xs
renews-stay (renew_next h p r) = renews-stay r
renews-stay (renew_made f m k r) = stay-then (fills-stay f) (stay-then (only-stays stays_blank k) (renews-stay r))
renews-stay (renew_left q f u k r) = stay-then (fills-stay f) (stay-then (only-stays stays_blank k) (renews-stay r))
renews-stay (renew_gone f b k) = stay-then (fills-stay f) (only-stays stays_blank k)

wins-stay : {w : Image} {xs ys : List Seat} → Wins w xs ys → Pairs Stays xs ys
wins-stay (wins_here {xs = xs} q a) = pairs_more stays_good (stay-same xs)
wins-stay (wins_later l h) = pairs_more stays_good (wins-stay h)
wins-stay (wins_out {b = b} {s = s} h) = pairs_more (stays-same (Out b s)) (wins-stay h)

way-stay : {xs ys zs : List Seat} → GivesWay xs ys zs → Pairs Stays xs zs
way-stay way_none = pairs_none
way-stay (way_out {b = b} {s = s} h) = pairs_more (stays-same (Out b s)) (way-stay h)
way-stay (way_waits h) = pairs_more stays_good (way-stay h)
way-stay (way_left e f l h) = pairs_more stays_good (way-stay h)

pub opens-stay : {told : Bool} {n : ℕ} {o : Outcome} {xs us : List Seat} → Opens told n xs o us → Pairs Stays xs us
opens-stay (open_down {xs = xs} a b) = stay-same xs
opens-stay (open_blank {s = s} {xs = xs} a) = stay-same (Out Blank s ∷ xs)
opens-stay (open_bad {s = s} {xs = xs} a) = stay-same (Out Bad s ∷ xs)
opens-stay (open_good w e r) = stay-then (wins-stay w) (stay-then (enters-stay e) (renews-stay r))
opens-stay (open_gone w e y) = stay-then (wins-stay w) (enters-stay e)
opens-stay (open_again w e y r) = stay-then (way-stay y.way) (opens-stay r)
opens-stay (open_unrenewed w e r) = stay-then (wins-stay w) (stay-then (enters-stay e) (renews-stay r))

-- no good disk is above the winner
pub wins-most : {w : Image} {xs ys : List Seat} → Wins w xs ys → Every (AtMost w.generation) xs
wins-most (wins_here q a) = every_more (most_in (omega (arith, ap (λ (v : Image). v.generation) q))) a
wins-most (wins_later l h) = every_more (most_in (omega arith)) (wins-most h)
wins-most (wins_out h) = every_more most_out (wins-most h)

-- a good disk has at least the generation g
pub data Reaches (g : ℕ) : Seat → Type 0 where
  reaches : {b : Bool} {c : Cell} → g ≤ c.now.generation → Reaches g (In b c)

pub nth-reaches : {d : ℕ} {b : Bool} {c : Cell} {xs : List Seat} → Nth d xs (In b c) → Has (Reaches c.now.generation) xs
nth-reaches nth_here = has_here (reaches (omega arith))
nth-reaches (nth_later n) = has_later (nth-reaches n)

most-reach : {h : ℕ} {xs : List Seat} → Every (AtMost h) xs → (g : ℕ) → Has (Reaches g) xs → g ≤ h
most-reach every_none g h = elim h [ ]
most-reach (every_more (most_in l) a) g (has_here (reaches k)) = omega arith
most-reach (every_more most_out a) g (has_here h) = elim h [ ]
most-reach (every_more m a) g (has_later h) = most-reach a g h

good-reaches : {g : ℕ} {xs : List Seat} → Has (IsGoodAt g) xs → Has (Reaches g) xs
good-reaches (has_here (good_at e)) = has_here (reaches (omega (arith, e)))
good-reaches (has_later h) = has_later (good-reaches h)

-- nothing is pending in a medium that keeps at once
pub always : {P : Store → Type 0} {ss : List Store} → Every P ss → Every (Settled Direct) ss
always every_none = every_none
always (every_more p h) = every_more tt (always h)

-- the disks that gave way, counted as down
pub downed-row : (xs : List Seat) → Pairs Downed xs xs
downed-row [] = pairs_none
downed-row (x ∷ xs) = pairs_more downed_not (downed-row xs)

downed-one : {x y z : Seat} → Downed x y → Downed y z → Downed x z
downed-one downed_not k = k
downed-one (downed e f l) downed_not = downed e f l

pub downed-then : {xs ys zs : List Seat} → Pairs Downed xs ys → Pairs Downed ys zs → Pairs Downed xs zs
downed-then h i = pairs-then (λ x y z. downed-one) h i

pub way-downed : {xs ys zs : List Seat} → GivesWay xs ys zs → Pairs Downed xs zs
way-downed way_none = pairs_none
way-downed (way_out h) = pairs_more downed_not (way-downed h)
way-downed (way_waits h) = pairs_more downed_not (way-downed h)
way-downed (way_left e f l h) = pairs_more (downed e (ap (λ v. Some v) f) l) (way-downed h)

downed-met : {s : Store} {x y : Seat} → Meets s x → Downed x y → Meets s y
downed-met h downed_not = h
downed-met (meets_good e) (downed p q l) = meets_down p (q ∙ sym e) l

pub way-meets : {ss : List Store} {xs ys zs : List Seat} → Pairs Meets ss xs → GivesWay xs ys zs → Pairs Meets ss zs
way-meets m h = pairs-then (λ s x y. downed-met) m (way-downed h)

pub bad-not-good : {xs : List Seat} → Every IsBad xs → Every NotGood xs
bad-not-good every_none = every_none
bad-not-good (every_more is_blank h) = every_more not_good (bad-not-good h)
bad-not-good (every_more is_bad h) = every_more not_good (bad-not-good h)

pub good-not : {g : ℕ} {xs : List Seat} → Every NotGood xs → Has (IsGoodAt g) xs → ⊥
good-not (every_more not_good a) (has_here h) = elim h [ ]
good-not (every_more p a) (has_later h) = good-not a h
good-not every_none h = elim h [ ]

-- a disk won, once those that gave way are counted as down; no disk that was found good is above it
pub record Won (ss : List Store) (xs : List Seat) : Type 0 where
  pub w : Image
  pub vs : List Seat
  pub ys : List Seat
  pub down : Pairs Downed xs vs
  pub met : Pairs Meets ss vs
  pub wins : Wins w vs ys
  pub reach : (g : ℕ) → Has (Reaches g) xs → g ≤ w.generation

abbrev won : {w : Image} {ss : List Store} {xs ys : List Seat} → Pairs Meets ss xs → Wins w xs ys → Won ss xs
won {w} {xs = xs} {ys = ys} m h = record { w = w; vs = xs; ys = ys; down = downed-row xs; met = m; wins = h; reach = most-reach (wins-most h) }

abbrev won-again : {wrote : Bool} {w : Image} {ss : List Store} {xs ys zs us : List Seat} → Wins w xs ys → Yields w.generation wrote xs zs us → Won ss us → Won ss xs
won-again {w} h y r = record {
  w = r.w;
  vs = r.vs;
  ys = r.ys;
  down = downed-then (way-downed y.way) r.down;
  met = r.met;
  wins = r.wins;
  reach = λ g k. let a = most-reach (wins-most h) g k in let b = r.reach w.generation (good-reaches y.other) in omega arith;
}

-- what an opening leaves, also one that is refused: of the winner's pages and generation
abbrev pub Answered : Medium → Outcome → List Store → List Seat → List Seat → Type 0
Answered v (Good owed g) ss xs us = (a : Won ss xs) × (a.w.generation ≡ g) × Pairs (State v a.w.pages a.w.generation) ss us × Has IsLive us × (owed ≡ owes us g)
Answered v (BadImage d) ss xs us = Every NotGood xs × (us ≡ xs)
Answered v (Lost d k) ss xs us = (Every NotGood xs × (us ≡ xs)) ⊎ ((a : Won ss xs) × Pairs (State v a.w.pages a.w.generation) ss us)

answer-again : {wrote : Bool} {w : Image} (v : Medium) (o : Outcome) (ss : List Store) (xs vs us : List Seat) {ys zs : List Seat} → Wins w xs ys → Yields w.generation wrote xs zs vs → Answered v o ss vs us → Answered v o ss xs us
answer-again v (Good owed g) ss xs vs us h y a = (won-again h y a.0, a.1, a.2, a.3, a.4)
answer-again v (BadImage d) ss xs vs us h y a = absurd (good-not a.0 y.other)
answer-again v (Lost d k) ss xs vs us h y a = elim a [ inl q ↦ absurd (good-not q.0 y.other) | inr q ↦ inr (won-again h y q.0, q.1) ]

pub opens-answer : (v : Medium) {n : ℕ} {o : Outcome} {ss : List Store} {xs us : List Seat} → Opens true n xs o us → Pairs Meets ss xs → Every (Sized n) ss → Every (Settled v) ss → Answered v o ss xs us
opens-answer v (open_down h l) m z t = inl (h, refl)
opens-answer v (open_blank h) m z t = (every_more not_good (bad-not-good h), refl)
opens-answer v (open_bad h) m z t = (every_more not_good (bad-not-good h), refl)
opens-answer v (open_good h e r) m z t =
    let le = wins-size m h z in
    let a = start-state le m h z t in
    let b = enters-state e a.0 a.1 (start-waits m h t) le in
    let c = renews-state r b.0 b.1 le in
    (won m h, refl, c.0, c.1, refl)
opens-answer v (open_gone h e y) m z t =
    let le = wins-size m h z in
    let a = start-state le m h z t in
    inr (won m h, (enters-state e a.0 a.1 (start-waits m h t) le).0)
opens-answer v (open_unrenewed h e r) m z t =
    let le = wins-size m h z in
    let a = start-state le m h z t in
    let b = enters-state e a.0 a.1 (start-waits m h t) le in
    inr (won m h, (renews-state r b.0 b.1 le).0)
opens-answer v {o = o} {ss = ss} {xs = xs} {us = us} (open_again {vs = vs} h e y r) m z t = answer-again v o ss xs vs us h y (opens-answer v r (way-meets m y.way) z t)

-- the tree with those that gave way as down
pairs-split : {A B : Type 0} {R : A → B → Type 0} (xs zs : List A) (us : List B) → Pairs R (xs ++ zs) us → (ys : List B) × (vs : List B) × (ys ++ vs ≡ us) × Pairs R xs ys × Pairs R zs vs
pairs-split [] zs us h = ([], us, refl, pairs_none, h)
pairs-split (x ∷ xs) zs us (pairs_more {y = y} {ys = ts} h i) = let r = pairs-split xs zs ts i in (y ∷ r.0, r.1, ap (λ v. y ∷ v) r.2, pairs_more h r.3, r.4)

downed-tree : (t : Tree) (us : List Seat) → Pairs Downed (seats t) us → (u : Tree) × (seats u ≡ us) × DownedTree t u
downed-tree (Leaf x) us (pairs_more {y = y} h pairs_none) = (Leaf y, refl, downed_leaf h)
downed-tree (Coherent t) us h = let r = downed-tree t us h in (Coherent r.0, r.1, downed_below r.2)
downed-tree (Mirror l m) us h =
    let s = pairs-split (seats l) (seats m) us h in
    let a = downed-tree l s.0 s.3 in
    let b = downed-tree m s.1 s.4 in
    (Mirror a.0 b.0, ap (λ v. v ++ seats b.0) a.1 ∙ ap (λ v. s.0 ++ v) b.1 ∙ s.2, downed_mirror a.2 b.2)

-- the opened ground is what its disks give, once those that gave way are counted as down
pub opens-gives : {n : ℕ} {owed : Bool} {g : ℕ} {ss : List Store} {us : List Seat} (t : Tree) → Opens true n (seats t) (Good owed g) us → Pairs Meets ss (seats t) → Every (Sized n) ss
    → (F : List (List ℕ)) × (u : Tree) × DownedTree t u × Every (HasPages F) us × Gives u g F
opens-gives {g = g} t h m z =
    let a = opens-answer Direct h m z (always z) in
    let d = downed-tree t a.0.vs a.0.down in
    (a.0.w.pages, d.0, d.2, state-pages a.2, subst (λ k. Gives d.0 k a.0.w.pages) a.1 (wins-gives a.0.w d.0 a.0.ys (subst (λ v. Wins a.0.w v a.0.ys) (sym d.1) a.0.wins)))

pub opens-bad : {told : Bool} {n d : ℕ} {xs us : List Seat} → Opens told n xs (BadImage d) us → Every NotGood xs × (us ≡ xs)
opens-bad (open_blank h) = (every_more not_good (bad-not-good h), refl)
opens-bad (open_bad h) = (every_more not_good (bad-not-good h), refl)
opens-bad (open_again h e y r) = absurd (good-not (opens-bad r).0 y.other)
