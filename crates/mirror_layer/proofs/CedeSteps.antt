-- A winner gives way, over plain variables.
use Rattle.std.proofs.Common.{◌≡◌, ℕ, ◌+◌, ◌<◌, ◌≤◌, Bool, true, false, not, ◌||◌, List, [], ◌∷◌, ◌++◌, refl, ap, ◌∙◌, arith}
use Rattle.std.specs.Prelude.{eqb}
use Rattle.std.proofs.lemmas.Bool.{eqb-true}
use Rattle.mirror_rules.specs.Tree.{Image, Cell, Store, Why, Down, Seat, In, Out, lives, closed}
use Rattle.mirror_rules.specs.Claims.{Pairs, pairs_none, pairs_more}
use Rattle.mirror_rules.specs.Steps.{Says, Fault, is_fault, refused, raise_unkept, raise_kept, flush_kept, Looked, looked_out, looked_stale, looked_same, looked_refused}
use Rattle.mirror_rules.specs.Opening.{Wins, wins_here, wins_later, wins_out, GivesWay, way_none, way_out, way_waits, way_left, Only, only_here, only_later, Copies, copy_same, copy_differs, copy_left, copy_gone, copy_even, copy_settled, copy_unflushed, copy_unraised, Enters, enter_end, enter_next, enter_joins, enter_gone}
use Rattle.mirror_rules.proofs.PageLaws.{pairs-then}
use Rattle.mirror_layer.specs.declared.node.Mark.{Mark}
use Rattle.mirror_layer.specs.declared.node.Mark.TheVariants as mark
use Rattle.mirror_layer.specs.View.{Beside, seat_of}
use Rattle.mirror_layer.specs.Ceding.{AtFirst, first_in, first_out, Cede, cede_out, cede_failed, cede_calm, Cedes, cedes_none, cedes_more}

-- a disk in an opening in which no image has changed: its image is as it was, and if it is left out its count rose; or it joined. If the
-- ground refused a read at the end, the count of each live disk rose
pub data Spared (f : Bool) : Seat → Seat → Type 0 where
  spared_out : {b : Why} {s : Store} → Spared f (Out b s) (Out b s)
  spared_waits : {c : Cell} → Spared f (In false c) (In false c)
  spared_left : {c d : Cell} → d.disk ≡ c.disk → d.now ≡ c.now → c.faults < d.faults → Spared f (In false c) (In false d)
  spared_joined : {c d : Cell} → Spared f (In false c) (In true d)
  spared_live : {c d : Cell} → d.disk ≡ c.disk → d.now ≡ c.now → c.faults ≤ d.faults → (f ≡ true → c.faults < d.faults) → Spared f (In true c) (In true d)

spared-row : (xs : List Seat) → Pairs (Spared false) xs xs
spared-row [] = pairs_none
spared-row (In true c ∷ xs) = pairs_more (spared_live refl refl (omega arith) (λ e. cc)) (spared-row xs)
spared-row (In false c ∷ xs) = pairs_more spared_waits (spared-row xs)
spared-row (Out b s ∷ xs) = pairs_more spared_out (spared-row xs)

spared-look : {f : Bool} {a : Says} {x y z : Seat} → Looked a x y → Spared f y z → Spared f x z
spared-look looked_out k = k
spared-look looked_stale k = k
spared-look (looked_same e) k = k
spared-look (looked_refused l) (spared_live a b m g) = spared_live a b (omega arith) (λ e. omega arith)

looks : {f : Bool} {a : Says} {xs ys zs : List Seat} → Pairs (Looked a) xs ys → Pairs (Spared f) ys zs → Pairs (Spared f) xs zs
looks h k = pairs-then (λ x y z. spared-look) h k

gone : {d k : ℕ} {xs ys : List Seat} → Pairs (Looked (Fault d k)) xs ys → Pairs (Spared true) xs ys
gone pairs_none = pairs_none
gone (pairs_more looked_out h) = pairs_more spared_out (gone h)
gone (pairs_more looked_stale h) = pairs_more spared_waits (gone h)
gone (pairs_more (looked_same e) h) = cc
gone (pairs_more (looked_refused l) h) = pairs_more (spared_live refl refl (omega arith) (λ e. l)) (gone h)

spared-then : {f : Bool} {x y z : Seat} → Spared false x y → Spared f y z → Spared f x z
spared-then spared_out k = k
spared-then spared_waits k = k
spared-then (spared_left a b l) spared_waits = spared_left a b l
spared-then (spared_left a b l) (spared_left c d m) = spared_left (c ∙ a) (d ∙ b) (omega arith)
spared-then (spared_left a b l) spared_joined = spared_joined
spared-then spared_joined (spared_live a b l g) = spared_joined
spared-then (spared_live a b l g) (spared_live c d m h) = spared_live (c ∙ a) (d ∙ b) (omega arith) (λ e. let n = h e in omega arith)

spareds : {f : Bool} {xs ys zs : List Seat} → Pairs (Spared false) xs ys → Pairs (Spared f) ys zs → Pairs (Spared f) xs zs
spareds h k = pairs-then (λ x y z. spared-then) h k

only-spared : {x y : Seat} {i : ℕ} {xs ys : List Seat} → Only x y i xs ys → Spared false x y → Pairs (Spared false) xs ys
only-spared (only_here {xs = xs}) s = pairs_more s (spared-row xs)
only-spared (only_later {z = In true c} o) s = pairs_more (spared_live refl refl (omega arith) (λ e. cc)) (only-spared o s)
only-spared (only_later {z = In false c} o) s = pairs_more spared_waits (only-spared o s)
only-spared (only_later {z = Out b t} o) s = pairs_more spared_out (only-spared o s)

same-image : (i j : Image) → i.pages ≡ j.pages → eqb i.generation j.generation ≡ true → i ≡ j
same-image i j p g = ap (λ v. record { generation = v; pages = i.pages }) (eqb-true i.generation j.generation g) ∙ ap (λ v. record { generation = j.generation; pages = v }) p

not-not : (b : Bool) → not b ≡ false → b ≡ true
not-not true e = refl
not-not false e = cc

copies-spared : {told : Bool} {g i n p : ℕ} {e w : Bool} {s : Says} {xs ys : List Seat} → Copies told g i e n p xs s w ys → w ≡ false → Pairs (Spared (is_fault s)) xs ys
copies-spared (copy_same h k q r) z = looks h.each (copies-spared r z)
copies-spared (copy_differs h ne q k r) z = cc
copies-spared (copy_left {c = c} h l k) z = looks h.each (only-spared k (spared_left refl refl l))
copies-spared (copy_gone h) z = gone h.each
copies-spared (copy_even k) z = only-spared k spared_joined
copies-spared (copy_settled k) z = cc
copies-spared (copy_unflushed (refused l) k) z = only-spared k (spared_left refl refl l)
copies-spared (copy_unflushed (flush_kept l) k) z = only-spared k (spared_left refl refl l)
copies-spared (copy_unraised (refused l) q k) z = only-spared k (spared_left refl refl l)
copies-spared (copy_unraised {same = same} {c = c} {d = d} (raise_unkept l) q k) z = only-spared k (spared_left refl (same-image d.now c.now refl (q ∙ not-not same z)) l)
copies-spared (copy_unraised {same = same} {c = c} {d = d} (raise_kept l) q k) z = only-spared k (spared_left refl (same-image d.now c.now refl (q ∙ not-not same z)) l)

none-left : (a b : Bool) → (a || b) ≡ false → a ≡ false
none-left false b e = refl
none-left true b e = cc

none-right : (a b : Bool) → (a || b) ≡ false → b ≡ false
none-right false b e = e
none-right true b e = cc

-- the disks that join, where no image has changed
pub enters-spared : {told : Bool} {g n i m : ℕ} {w : Bool} {s : Says} {xs ys : List Seat} → Enters told g n i m xs s w ys → w ≡ false → Pairs (Spared (is_fault s)) xs ys
enters-spared (enter_end {xs = xs}) z = spared-row xs
enters-spared (enter_next h p r) z = enters-spared r z
enters-spared (enter_joins {w = w} {z = y} h q k r) z = spareds (copies-spared k (none-left y w z)) (enters-spared r (none-right y w z))
enters-spared (enter_gone h q k) z = copies-spared k z

way-rest : {bs : List Beside} {xs zs vs : List Seat} → Pairs AtFirst bs xs → Pairs (Spared true) xs zs → Cedes bs zs vs → lives zs ≡ 0 → GivesWay xs zs vs
way-rest pairs_none pairs_none cedes_none e = way_none
way-rest (pairs_more first_out p) (pairs_more spared_out q) (cedes_more cede_out r) e = way_out (way-rest p q r e)
way-rest (pairs_more (first_in f) p) (pairs_more spared_waits q) (cedes_more (cede_calm l) r) e = way_waits (way-rest p q r e)
way-rest (pairs_more (first_in f) p) (pairs_more spared_waits q) (cedes_more (cede_failed l) r) e = absurd (omega (arith, f))
way-rest (pairs_more (first_in f) p) (pairs_more (spared_left a b m) q) (cedes_more (cede_failed l) r) e = way_left a b m (way-rest p q r e)
way-rest (pairs_more (first_in f) p) (pairs_more (spared_left a b m) q) (cedes_more (cede_calm l) r) e = absurd (omega (arith, f))
way-rest (pairs_more (first_in f) p) (pairs_more spared_joined q) (cedes_more k r) e = absurd (omega (arith, e))

winner-lives : {f : Bool} {w : Image} {xs ys zs : List Seat} → Wins w xs ys → Pairs (Spared f) ys zs → 1 ≤ lives zs
winner-lives (wins_here q a) (pairs_more (spared_live x y l g) h) = omega arith
winner-lives (wins_later l h) (pairs_more spared_waits k) = winner-lives h k
winner-lives (wins_later l h) (pairs_more (spared_left a b m) k) = winner-lives h k
winner-lives (wins_later l h) (pairs_more spared_joined k) = omega arith
winner-lives (wins_out h) (pairs_more spared_out k) = winner-lives h k

-- the winner gives way where it alone is live: it and those that were left out count as down
pub gives-way : {w : Image} {bs : List Beside} {xs ys zs vs : List Seat} → Wins w xs ys → Pairs AtFirst bs xs → Pairs (Spared true) ys zs → Cedes bs zs vs → lives zs ≡ 1 → GivesWay xs zs vs
gives-way (wins_here q a) (pairs_more (first_in f) p) (pairs_more (spared_live x y l g) h) (cedes_more (cede_failed m) r) e = let n = g refl in way_left x y n (way-rest p h r (omega (arith, e)))
gives-way (wins_here q a) (pairs_more (first_in f) p) (pairs_more (spared_live x y l g) h) (cedes_more (cede_calm m) r) e = let n = g refl in absurd (omega (arith, f))
gives-way (wins_later l h) (pairs_more (first_in f) p) (pairs_more spared_waits k) (cedes_more (cede_calm m) r) e = way_waits (gives-way h p k r e)
gives-way (wins_later l h) (pairs_more (first_in f) p) (pairs_more spared_waits k) (cedes_more (cede_failed m) r) e = absurd (omega (arith, f))
gives-way (wins_later l h) (pairs_more (first_in f) p) (pairs_more (spared_left a b n) k) (cedes_more (cede_failed m) r) e = way_left a b n (gives-way h p k r e)
gives-way (wins_later l h) (pairs_more (first_in f) p) (pairs_more (spared_left a b n) k) (cedes_more (cede_calm m) r) e = absurd (omega (arith, f))
gives-way (wins_later l h) (pairs_more (first_in f) p) (pairs_more spared_joined k) (cedes_more c r) e = let n = winner-lives h k in absurd (omega (arith, e))
gives-way (wins_out h) (pairs_more first_out p) (pairs_more spared_out k) (cedes_more cede_out r) e = way_out (gives-way h p k r e)

pub cedes-both : {bs cs : List Beside} {xs ys zs us : List Seat} → Cedes bs xs ys → Cedes cs zs us → Cedes (bs ++ cs) (xs ++ zs) (ys ++ us)
cedes-both cedes_none k = k
cedes-both (cedes_more h i) k = cedes_more h (cedes-both i k)

pub lives_append : (xs ys : List Seat) → lives (xs ++ ys) ≡ lives xs + lives ys
lives_append [] ys = omega arith
lives_append (In true c ∷ xs) ys = omega (arith, lives_append xs ys)
lives_append (In false c ∷ xs) ys = lives_append xs ys
lives_append (Out b s ∷ xs) ys = lives_append xs ys

pub cede-then : (m : Mark) (b : Beside) (c : Cell) → b.opened < c.faults → Cede b (seat_of m c) (Out Down (closed (In false c)))
cede-then mark.Live b c l = cede_failed l
cede-then mark.Left b c l = cede_failed l
cede-then mark.Down b c l = cede_out

pub cede-else : (m : Mark) (b : Beside) (c : Cell) → c.faults ≤ b.opened → Cede b (seat_of m c) (seat_of m c)
cede-else mark.Live b c l = cede_calm l
cede-else mark.Left b c l = cede_calm l
cede-else mark.Down b c l = cede_out
