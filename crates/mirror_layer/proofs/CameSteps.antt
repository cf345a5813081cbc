-- What an opening makes of each disk, over plain variables.
use Rattle.std.proofs.Common.{◌≡◌, ◌≢◌, ℕ, zero, suc, ◌+◌, ◌<◌, ◌≤◌, inl, inr, Bool, true, false, ◌||◌, List, [], ◌∷◌, ◌++◌, set, length, take, get_or, Option, None, Result, Ok, Err, refl, sym, ◌∙◌, ap, subst, arith, get_or-set_same, get_or-set_other}
use Rattle.std.specs.Prelude.{eqb, OnOk}
use Rattle.std.proofs.Math.Seq.{take-append_seam}
use Rattle.std.proofs.lemmas.Bool.Decides.{eqb_tells}
use Rattle.mirror_rules.specs.Tree.{Image, Cell, Store, Why, Blank, Bad, Down, Seat, In, Out}
use Rattle.mirror_rules.specs.Claims.{Pairs, pairs_none, pairs_more, Every, every_none, every_more, Nth, nth_here, nth_later}
use Rattle.mirror_rules.specs.Steps.{Says, Done, faulted, written, Looked, looked_out, looked_stale, looked_same, looked_refused}
use Rattle.mirror_rules.specs.Fates.{Sized}
use Rattle.mirror_rules.specs.Opening.{opened, Meets, meets_good, meets_blank, meets_bad, meets_down, Wins, wins_here, wins_later, wins_out, Only, only_here, only_later, settled, Copies, copy_same, copy_differs, copy_left, copy_gone, copy_even, copy_settled, copy_unflushed, copy_unraised, Passed, passed_live, passed_out, Enters, enter_end, enter_next, enter_joins, GivesWay, way_none, way_out, way_waits, way_left, Fills, fill_end, fill_next, fill_gone, Renews, renew_end, renew_next, renew_made, renew_left}
use Rattle.mirror_rules.proofs.OpenLaws.{nth-same, nth-back, nth-on, only-from, same-cell}
use Rattle.page_ground.specs.declared.fault.StoreFault.{StoreFault}
use Rattle.disk_layer.specs.Disk.{Disk}
use Rattle.mirror_layer.specs.declared.node.Mark.{Mark}
use Rattle.mirror_layer.specs.Shut.{ShutSeen}
use Rattle.mirror_layer.specs.View.{Beside, beside_of, beside_of_shut, seat_of, cell_of, why_of, store_of}
use Rattle.mirror_layer.specs.Calls.{answered, all_told}
use Rattle.mirror_layer.specs.Ground.{Differ}
use Rattle.mirror_layer.specs.Came.{CameAs, came_bad, came_made, came_copied, came_level, came_left, left_in, left_blank, left_down, AreCame}
use Rattle.mirror_layer.proofs.CloseSteps.{Apart, apart}
use Rattle.mirror_layer.proofs.EnterSteps.{every-nth}
use Rattle.mirror_layer.specs.declared.came.Notice.{Notice}
use Rattle.mirror_layer.specs.Coming.{IsWord, joining_word, Unmoved, unmoved_in, unmoved_out, Comes, comes_copied, comes_level, comes_left, comes_blank, comes_made, comes_bad, comes_down, AllCome, Coming, came_of, Listed, listed_none, listed_more}

-- images that are as they were
unmoved-same : (x : Seat) → Unmoved x x
unmoved-same (In b c) = unmoved_in refl
unmoved-same (Out b s) = unmoved_out

unmoved-then : {x y z : Seat} → Unmoved x y → Unmoved y z → Unmoved x z
unmoved-then (unmoved_in e) (unmoved_in f) = unmoved_in (f ∙ e)
unmoved-then unmoved_out unmoved_out = unmoved_out

looked-unmoved : {s : Says} {x y : Seat} → Looked s x y → Unmoved x y
looked-unmoved looked_out = unmoved_out
looked-unmoved looked_stale = unmoved_in refl
looked-unmoved (looked_same e) = unmoved_in refl
looked-unmoved (looked_refused l) = unmoved_in refl

-- the same at all places but one
abbrev pub UnmovedBut : ℕ → List Seat → List Seat → Type 0
UnmovedBut i xs ys = (k : ℕ) (y : Seat) → k ≢ i → Nth k ys y → (x : Seat) × Nth k xs x × Unmoved x y

but-then : {i : ℕ} (xs ys zs : List Seat) → UnmovedBut i xs ys → UnmovedBut i ys zs → UnmovedBut i xs zs
but-then xs ys zs f g k z ne m =
    let b = g k z ne m in
    let a = f k b.0 ne b.1 in
    (a.0, a.1, unmoved-then a.2 b.2)

but-same : (i : ℕ) (xs : List Seat) → UnmovedBut i xs xs
but-same i xs k y ne m = (y, m, unmoved-same y)

but-look : {s : Says} {xs ys : List Seat} (i : ℕ) → Pairs (Looked s) xs ys → UnmovedBut i xs ys
but-look i h k y ne m = let a = nth-back h m in (a.0, a.1, looked-unmoved a.2)

but-only : {x y : Seat} {i : ℕ} {xs ys : List Seat} → Only x y i xs ys → UnmovedBut i xs ys
but-only (only_here) zero z ne nth_here = absurd (ne refl)
but-only (only_here {xs = xs}) (suc k) z ne (nth_later m) = (z, nth_later m, unmoved-same z)
but-only (only_later {z = v} h) zero z ne nth_here = (z, nth_here, unmoved-same z)
but-only (only_later h) (suc k) z ne (nth_later m) = let a = but-only h k z (λ e. ne (ap (λ v. suc v) e)) m in (a.0, nth_later a.1, a.2)

only-on : {x y : Seat} {n : ℕ} {xs ys : List Seat} → Only x y n xs ys → Nth n ys y
only-on only_here = nth_here
only-on (only_later h) = nth_later (only-on h)

look-on : {s : Says} {n : ℕ} {xs ys : List Seat} {c : Cell} → Pairs (Looked s) xs ys → Nth n xs (In false c) → Nth n ys (In false c)
look-on (pairs_more looked_stale i) nth_here = nth_here
look-on (pairs_more h i) (nth_later k) = nth_later (look-on i k)
look-on pairs_none k = elim k [ ]

-- a disk that joins changes no other
copies-but : {told : Bool} {g i n p : ℕ} {e w : Bool} {s : Says} {xs ys : List Seat} → Copies told g i e n p xs s w ys → UnmovedBut i xs ys
copies-but {i = i} (copy_same {xs = xs} {ys = ys} {zs = zs} h k q r) = but-then xs ys zs (but-look i h.each) (copies-but r)
copies-but {i = i} (copy_differs {xs = xs} {ys = ys} {zs = zs} {us = us} h ne q k r) = but-then xs ys us (but-look i h.each) (but-then ys zs us (but-only k) (copies-but r))
copies-but {i = i} (copy_left {xs = xs} {ys = ys} {zs = zs} h m k) = but-then xs ys zs (but-look i h.each) (but-only k)
copies-but {i = i} (copy_gone h) = but-look i h.each
copies-but (copy_even k) = but-only k
copies-but (copy_settled k) = but-only k
copies-but (copy_unflushed h k) = but-only k
copies-but (copy_unraised h q k) = but-only k

-- and is left out
copies-left : {told : Bool} {g i n p : ℕ} {e w : Bool} {xs ys : List Seat} → Copies told g i e n p xs (Done false) w ys → (d : Cell) × Nth i ys (In false d)
copies-left (copy_same h k q r) = copies-left r
copies-left (copy_differs h ne q k r) = copies-left r
copies-left (copy_left {m = m} {c = c} h l k) = (faulted m c, only-on k)
copies-left (copy_unflushed {d = d} h k) = (d, only-on k)
copies-left (copy_unraised {d = d} h q k) = (d, only-on k)

-- or is live: the pages before p stay, and its image is another if one was written
record Ends (told : Bool) (g n p : ℕ) (e w : Bool) (c d : Cell) : Type 0 where
  low : (q : ℕ) → q < p → get_or d.now.pages q [] ≡ get_or c.now.pages q []
  level : w ≡ false → d.now ≡ c.now
  other : w ≡ true → told ≡ true → p + n ≤ length c.now.pages → (e ≡ false → c.now.generation ≢ g) → d.now ≢ c.now

ends-same : {told e w : Bool} {g n p : ℕ} (c d : Cell) → Ends told g n (p + 1) e w c d → Ends told g (suc n) p e w c d
ends-same {p = p} c d h = record { low = λ q l. h.low q (omega arith); level = h.level; other = λ a t l f. h.other a t (omega arith) f }

ends-differs : {told e v w : Bool} {g n p : ℕ} (x z : List ℕ) (c d : Cell) → (told ≡ true → get_or c.now.pages p [] ≢ x) → (told ≡ true → z ≡ x) → Ends told g n (p + 1) v w (written p z c) d → Ends told g (suc n) p e true c d
ends-differs {n = n} {p = p} x z c d ne q h = record {
  low = λ k l. let other : k ≢ p = omega arith in h.low k (omega arith) ∙ get_or-set_other c.now.pages p k z [] other;
  level = λ e. cc;
  other = λ a t l f same.
      let lt : p < length c.now.pages = omega (arith, l) in
      ne t (ap (λ (i : Image). get_or i.pages p []) (sym same) ∙ (h.low p (omega arith) ∙ (get_or-set_same c.now.pages p z [] lt ∙ q t)));
}

copies-ends : {told : Bool} {g i n p : ℕ} {e w : Bool} {c : Cell} {xs ys : List Seat} → Copies told g i e n p xs (Done true) w ys → Nth i xs (In false c) → (d : Cell) × Nth i ys (In true d) × Ends told g n p e w c d
copies-ends {c = c} (copy_same h k q r) m = let a = copies-ends r (look-on h.each m) in (a.0, a.1, ends-same c a.0 a.2)
copies-ends {told} {g} {i} {n = suc n} {p = p} {e} {c = c} (copy_differs {x = x} {z = z} {c = b} h ne q k r) m =
    let a = copies-ends r (only-on k) in
    let at : b ≡ c = same-cell (only-from k) (look-on h.each m) in
    (a.0, a.1, subst (λ (v : Cell). Ends told g (suc n) p e true v a.0) at (ends-differs x z b a.0 ne q a.2))
copies-ends {told} {g} {n = n} {p = p} {e} {c = c} (copy_even {c = b} k) m =
    let at : b ≡ c = same-cell (only-from k) m in
    (b, only-on k, subst (λ (v : Cell). Ends told g 0 p true false v b) at (record { low = λ q l. refl; level = λ q. refl; other = λ a t l f. cc }))
copies-ends {told} {g} {n = n} {p = p} {e} {c = c} (copy_settled {c = b} k) m =
    let at : b ≡ c = same-cell (only-from k) m in (
      settled g b,
      only-on k,
      subst (λ (v : Cell). Ends told g 0 p false true v (settled g b)) at (record {
        low = λ q l. refl;
        level = λ q. cc;
        other = λ a t l f same. f refl (ap (λ (i : Image). i.generation) (sym same));
      }),
    )

-- the disk whose turn it was to join, before and after
pub data Took (told : Bool) (n : ℕ) : Bool → Seat → Seat → Type 0 where
  took_none : {x : Seat} → Passed x → Took told n false x x
  took_live : {w : Bool} {c d : Cell} → (w ≡ false → d.now ≡ c.now) → (w ≡ true → told ≡ true → length c.now.pages ≡ n → d.now ≢ c.now) → Took told n w (In false c) (In true d)
  took_left : {w : Bool} {c d : Cell} → Took told n w (In false c) (In false d)

-- a turn: at its place, and at the others
pub record Turn (told : Bool) (n i : ℕ) (w : Bool) (xs zs : List Seat) : Type 0 where
  pub before : Seat
  pub after : Seat
  pub was : Nth i xs before
  pub is : Nth i zs after
  pub took : Took told n w before after
  pub but : UnmovedBut i xs zs

level-not : {e : Bool} (a g : ℕ) → eqb a g ≡ e → e ≡ false → a ≢ g
level-not a g q f = elim (eqb_tells a g) [ inl t ↦ cc | inr t ↦ t.1 ]

turn-joins : {told e z : Bool} {g n i : ℕ} {c : Cell} {xs ys : List Seat} (v : Bool) → Nth i xs (In false c) → eqb c.now.generation g ≡ e → Copies told g i e n 0 xs (Done v) z ys → Turn told n i z xs ys
turn-joins {g = g} {c = c} true h q k =
    let a = copies-ends k h in record {
      before = In false c;
      after = In true a.0;
      was = h;
      is = a.1;
      took = took_live a.2.level (λ w t l. a.2.other w t (omega (arith, l)) (level-not c.now.generation g q));
      but = copies-but k;
    }
turn-joins {c = c} false h q k = let a = copies-left k in record { before = In false c; after = In false a.0; was = h; is = a.1; took = took_left; but = copies-but k }

or-false : (b : Bool) → (b || false) ≡ b
or-false true = refl
or-false false = refl

pub enter-turn : {told w : Bool} {g n i : ℕ} {xs zs : List Seat} → Enters told g n i 1 xs (Done true) w zs → Turn told n i w xs zs
enter-turn {i = i} {xs = xs} (enter_next {x = x} h p enter_end) = record { before = x; after = x; was = h; is = h; took = took_none p; but = but-same i xs }
enter-turn {told} {n = n} {i} {xs = xs} {zs = zs} (enter_joins {v = v} {z = z} h q k enter_end) = subst (λ b. Turn told n i b xs zs) (sym (or-false z)) (turn-joins v h q k)

-- its word
copied-word : {told : Bool} {n : ℕ} {b : Bool} (w : Bool) (a c d : Cell) (o : Option Notice) → c.now ≡ a.now → o ≡ joining_word w → (w ≡ false → d.now ≡ c.now) → (w ≡ true → told ≡ true → length c.now.pages ≡ n → d.now ≢ c.now) → Comes told n (In b a) (In true d) o
copied-word {told} {n} {b} true a c d o e q f k =
    subst (λ (v : Option Notice). Comes told n (In b a) (In true d) v) (sym q) (comes_copied (λ t l s. k refl t (ap (λ (v : Image). length v.pages) e ∙ l) (s ∙ sym e)))
copied-word {told} {n} {b} false a c d o e q f k = subst (λ (v : Option Notice). Comes told n (In b a) (In true d) v) (sym q) (comes_level (f refl ∙ e))

out-word : {told : Bool} {n : ℕ} (b : Why) (s : Store) (o : Option Notice) → IsWord (Out b s) false o → Comes told n (Out b s) (Out b s) o
out-word {told} {n} Blank s o q = subst (λ (v : Option Notice). Comes told n (Out Blank s) (Out Blank s) v) (sym q) comes_blank
out-word Bad s o q = comes_bad
out-word Down s o q = comes_down

took-word : {told w : Bool} {n : ℕ} {x y z : Seat} (o : Option Notice) → Unmoved x y → Took told n w y z → IsWord y w o → Comes told n x z o
took-word {told} {n = n} o (unmoved_in {b = b} {c = a} {d = c} e) (took_none passed_live) q = subst (λ (v : Option Notice). Comes told n (In b a) (In true c) v) (sym q) (comes_level e)
took-word o (unmoved_out {b = b} {s = s}) (took_none passed_out) q = out-word b s o q
took-word {w = w} o (unmoved_in {c = a} {d = c} e) (took_live {d = d} f k) q = copied-word w a c d o e q f k
took-word o h took_left q = comes_left

comes-unmoved : {told : Bool} {n : ℕ} {x y z : Seat} {o : Option Notice} → Comes told n x y o → Unmoved y z → Comes told n x z o
comes-unmoved (comes_copied f) (unmoved_in e) = comes_copied (λ t l s. f t l (sym e ∙ s))
comes-unmoved (comes_level e) (unmoved_in f) = comes_level (f ∙ e)
comes-unmoved comes_left (unmoved_in f) = comes_left
comes-unmoved comes_made (unmoved_in f) = comes_made
comes-unmoved comes_blank unmoved_out = comes_blank
comes-unmoved comes_bad unmoved_out = comes_bad
comes-unmoved comes_down unmoved_out = comes_down

-- the loop over the places
pub come-none : {told : Bool} {n : ℕ} (xs : List Seat) (o : List (Option Notice)) → Coming told n 0 xs xs o
come-none xs o = record { done = λ i x y l h k. absurd (omega arith); rest = λ i x y l h k. subst (λ v. Unmoved x v) (nth-same h k) (unmoved-same x) }

pub come-more : {told w : Bool} {g n p : ℕ} {xs ys zs : List Seat} (words : List (Option Notice)) (o : Option Notice) → Enters told g n p 1 ys (Done true) w zs → ((x : Seat) → Nth p ys x → IsWord x w o) → p < length words → Coming told n p xs ys words
    → Coming told n (p + 1) xs zs (set words p o)
come-more {told} {w} {n = n} {p} {xs} {ys} {zs} words o enters word lt c =
    let t = enter-turn enters in record {
      done = λ i x z l h k. elim (eqb_tells i p) as (λ _. Comes told n x z (get_or (set words p o) i None)) [
        | inl e ↦ at t i x z e.1 h k
        | inr e ↦ let ne : i ≢ p = e.1 in
            let b = t.but i z ne k in
            let a : Comes told n x b.0 (get_or words i None) = c.done i x b.0 (omega arith) h b.1 in
            subst (λ (v : Option Notice). Comes told n x z v) (sym (get_or-set_other words p i o None ne)) (comes-unmoved a b.2)
      ];
      rest = λ i x z l h k. let ne : i ≢ p = omega arith in let b = t.but i z ne k in unmoved-then (c.rest i x b.0 (omega arith) h b.1) b.2;
    } where
      at : Turn told n p w ys zs → (i : ℕ) (x z : Seat) → i ≡ p → Nth i xs x → Nth i zs z → Comes told n x z (get_or (set words p o) i None)
      at t i x z e h k =
          let h2 : Nth p xs x = subst (λ v. Nth v xs x) e h in
          let k2 : Nth p zs z = subst (λ v. Nth v zs z) e k in
          let a : Comes told n x t.after o = took-word o (c.rest p x t.before (omega arith) h2 t.was) t.took (word t.before t.was) in
          let b : Comes told n x z o = subst (λ v. Comes told n x v o) (nth-same t.is k2) a in
          subst (λ (v : ℕ). Comes told n x z (get_or (set words p o) v None)) (sym e) (subst (λ (v : Option Notice). Comes told n x z v) (sym (get_or-set_same words p o None lt)) b)

pub come-turn : {told w : Bool} {g n p : ℕ} {xs ys zs : List Seat} (words : List (Option Notice)) (o : Option Notice) (r : Result (Unit {0}) StoreFault) (u : Unit {0}) → r ≡ Ok u → Enters told g n p 1 ys (answered r) w zs → ((x : Seat) → Nth p ys x → IsWord x w o) → p < length words
    → Coming told n p xs ys words → Coming told n (p + 1) xs zs (set words p o)
come-turn {told} {w} {g} {n} {p} {ys = ys} {zs = zs} words o r u q h word lt c = come-more words o (subst (λ (v : Result (Unit {0}) StoreFault). Enters told g n p 1 ys (answered v) w zs) q h) word lt c

nth-below : {A : Type 0} {i : ℕ} {x : A} {xs : List A} → Nth i xs x → i < length xs
nth-below nth_here = omega arith
nth-below (nth_later h) = let k = nth-below h in omega arith

pub come-all : {told : Bool} {n : ℕ} {xs ys : List Seat} {words : List (Option Notice)} (p : ℕ) → length xs ≤ p → Coming told n p xs ys words → AllCome told n xs ys words
come-all p l c = record { each = λ i x y h k. let b = nth-below h in c.done i x y (omega arith) h k }

-- the winner
data Won : Seat → Seat → Type 0 where
  won_in : {b v : Bool} {c : Cell} → Won (In b c) (In v c)
  won_out : {b : Why} {s : Store} → Won (Out b s) (Out b s)

won-same : (x : Seat) → Won x x
won-same (In b c) = won_in
won-same (Out b s) = won_out

won-rest : (xs : List Seat) → Pairs Won xs xs
won-rest [] = pairs_none
won-rest (x ∷ xs) = pairs_more (won-same x) (won-rest xs)

wins-won : {w : Image} {xs ys : List Seat} → Wins w xs ys → Pairs Won xs ys
wins-won (wins_here {xs = xs} q a) = pairs_more won_in (won-rest xs)
wins-won (wins_later l h) = pairs_more won_in (wins-won h)
wins-won (wins_out h) = pairs_more won_out (wins-won h)

comes-won : {told : Bool} {n : ℕ} {x y z : Seat} {o : Option Notice} → Won x y → Comes told n y z o → Comes told n x z o
comes-won won_in (comes_copied f) = comes_copied f
comes-won won_in (comes_level e) = comes_level e
comes-won w comes_left = comes_left
comes-won won_out comes_blank = comes_blank
comes-won won_out comes_made = comes_made
comes-won w comes_bad = comes_bad
comes-won w comes_down = comes_down

pub wins-come : {told : Bool} {n : ℕ} {w : Image} {xs ys zs : List Seat} {words : List (Option Notice)} → Wins w xs ys → AllCome told n ys zs words → AllCome told n xs zs words
wins-come h a = record { each = λ i x z k m. let r = nth-on (wins-won h) k in comes-won r.2 (a.each i r.0 z r.1 m) }

-- a winner that gave way
data Ways : Seat → Seat → Type 0 where
  ways_same : {x : Seat} → Ways x x
  ways_down : {x : Seat} {s : Store} → Ways x (Out Down s)

way-ways : {xs zs vs : List Seat} → GivesWay xs zs vs → Pairs Ways xs vs
way-ways way_none = pairs_none
way-ways (way_out k) = pairs_more ways_same (way-ways k)
way-ways (way_waits k) = pairs_more ways_same (way-ways k)
way-ways (way_left a b m k) = pairs_more ways_down (way-ways k)

comes-ways : {told : Bool} {n : ℕ} {x y z : Seat} {o : Option Notice} → Ways x y → Comes told n y z o → Comes told n x z o
comes-ways ways_same c = c
comes-ways ways_down comes_left = comes_left
comes-ways ways_down comes_bad = comes_bad
comes-ways ways_down comes_down = comes_down

pub way-come : {told : Bool} {n : ℕ} {xs zs vs us : List Seat} {words : List (Option Notice)} → GivesWay xs zs vs → AllCome told n vs us words → AllCome told n xs us words
way-come h a = record { each = λ i x z k m. let r = nth-on (way-ways h) k in comes-ways r.2 (a.each i r.0 z r.1 m) }

-- the blank disks are made
data Renewed : Seat → Seat → Type 0 where
  renewed_not : {x y : Seat} → Unmoved x y → Renewed x y
  renewed_made : {s : Store} {c : Cell} → Renewed (Out Blank s) (In true c)
  renewed_down : {s t : Store} → Renewed (Out Blank s) (Out Down t)

comes-renewed : {told : Bool} {n : ℕ} {x y z : Seat} {o : Option Notice} → Comes told n x y o → Renewed y z → Comes told n x z o
comes-renewed c (renewed_not h) = comes-unmoved c h
comes-renewed comes_blank renewed_made = comes_made
comes-renewed comes_blank renewed_down = comes_down

renewed-come : {told : Bool} {n : ℕ} {xs ys zs : List Seat} {words : List (Option Notice)} → Pairs Renewed ys zs → AllCome told n xs ys words → AllCome told n xs zs words
renewed-come h a = record { each = λ i x z k m. let r = nth-back h m in comes-renewed (a.each i x r.0 k r.1) r.2 }

renewed-rest : (xs : List Seat) → Pairs Renewed xs xs
renewed-rest [] = pairs_none
renewed-rest (x ∷ xs) = pairs_more (renewed_not (unmoved-same x)) (renewed-rest xs)

renewed-only : {x y : Seat} {i : ℕ} {xs ys : List Seat} → Renewed x y → Only x y i xs ys → Pairs Renewed xs ys
renewed-only r (only_here {xs = xs}) = pairs_more r (renewed-rest xs)
renewed-only r (only_later {z = z} h) = pairs_more (renewed_not (unmoved-same z)) (renewed-only r h)

renewed-look : {s : Says} {xs ys : List Seat} → Pairs (Looked s) xs ys → Pairs Renewed xs ys
renewed-look pairs_none = pairs_none
renewed-look (pairs_more h k) = pairs_more (renewed_not (looked-unmoved h)) (renewed-look k)

fills-come : {told : Bool} {k n p : ℕ} {s : Says} {F : List (List ℕ)} {xs ys zs : List Seat} {words : List (Option Notice)} → Fills n p ys s F zs → AllCome told k xs ys words → AllCome told k xs zs words
fills-come fill_end a = a
fills-come (fill_next h r) a = fills-come r (renewed-come (renewed-look h.each) a)
fills-come (fill_gone h) a = renewed-come (renewed-look h.each) a

pub renews-come : {told : Bool} {g n i m : ℕ} {xs ys us : List Seat} (words : List (Option Notice)) → Renews told g n i m ys (Done true) us → AllCome told n xs ys words → AllCome told n xs us words
renews-come words renew_end a = a
renews-come words (renew_next h p r) a = renews-come words r a
renews-come words (renew_made f k o r) a = renews-come words r (renewed-come (renewed-only renewed_made o) (fills-come f a))
renews-come words (renew_left l f k o r) a = renews-come words r (renewed-come (renewed-only renewed_down o) (fills-come f a))

-- what an answer ensures
pub ok-then : {A B T E : Type 0} (r : Result T E) → (A → B) → OnOk r A → OnOk r B
ok-then (Ok u) f h = f h
ok-then (Err e) f h = tt

pub ok-is : {A T E : Type 0} (r : Result T E) (u : T) → r ≡ Ok u → OnOk r A → A
ok-is (Ok v) u q h = h
ok-is (Err e) u q h = cc

pub admits-come : {ys : List Seat} (n : ℕ) (bs cs : List Beside) (xs zs : List Seat) (words : List (Option Notice)) (r : Result (Unit {0}) StoreFault) → bs ≡ cs → (w : Image) × Wins w xs ys → OnOk r (AllCome (all_told bs) n ys zs words) → OnOk r (AllCome (all_told cs) n xs zs words)
admits-come {ys} n bs cs xs zs words r e w h = ok-then r (λ (a : AllCome (all_told bs) n ys zs words). subst (λ v. AllCome (all_told v) n xs zs words) e (wins-come w.1 a)) h

pub again-come : {xs zs vs : List Seat} (n : ℕ) (bs cs : List Beside) (us : List Seat) (words : List (Option Notice)) (r : Result ℕ StoreFault) → bs ≡ cs → GivesWay xs zs vs → OnOk r (AllCome (all_told bs) n vs us words) → OnOk r (AllCome (all_told cs) n xs us words)
again-come {xs} {zs} {vs} n bs cs us words r e w h = ok-then r (λ (a : AllCome (all_told bs) n vs us words). subst (λ v. AllCome (all_told v) n xs us words) e (way-come w a)) h

-- a list that was given back whole
pub whole-list : {A : Type 0} (n : ℕ) (xs ys : List A) → n ≡ length xs → take n (xs ++ ys) ≡ xs
whole-list n xs ys e = ap (λ k. take k (xs ++ ys)) e ∙ take-append_seam xs ys

-- what is told of the disks of two sides
listed-at : {out words : List (Option Notice)} {bs : List Beside} {ys : List Seat} {p : ℕ} (q : ℕ) → p ≡ q → Listed out words p bs ys → Listed out words q bs ys
listed-at {out} {words} {bs} {ys} q e h = subst (λ v. Listed out words v bs ys) e h

listed-append : {out words : List (Option Notice)} {p q : ℕ} {bs cs : List Beside} {xs ys : List Seat} → q ≡ p + length bs → Listed out words p bs xs → Listed out words q cs ys → Listed out words p (bs ++ cs) (xs ++ ys)
listed-append {p = p} e listed_none k = listed-at p (omega (arith, e)) k
listed-append {p = p} e (listed_more h r) k = listed_more h (listed-append (omega (arith, e)) r k)

listed-kept : {out new words : List (Option Notice)} (cs : List Beside) → ((d : ℕ) → Every (λ (b : Beside). b.disk ≢ d) cs → get_or new d None ≡ get_or out d None) → {bs : List Beside} {p : ℕ} {ys : List Seat} → Apart cs bs → Listed out words p bs ys → Listed new words p bs ys
listed-kept cs f every_none listed_none = listed_none
listed-kept cs f (every_more {x = b} a r) (listed_more h k) = listed_more (f b.disk a ∙ h) (listed-kept cs f r k)

pub listed-both : {out new words : List (Option Notice)} {p q : ℕ} (bs cs : List Beside) (xs ys : List Seat) → q ≡ p + length bs → Differ (bs ++ cs) → ((d : ℕ) → Every (λ (b : Beside). b.disk ≢ d) cs → get_or new d None ≡ get_or out d None) → Listed out words p bs xs → Listed new words q cs ys
    → Listed new words p (bs ++ cs) (xs ++ ys)
listed-both bs cs xs ys e d f h k = listed-append e (listed-kept cs f (apart bs cs d) h) k

listed-one : {out words : List (Option Notice)} {p : ℕ} (b : Beside) (y : Seat) → get_or out b.disk None ≡ came_of y (get_or words p None) → Listed out words p (b ∷ []) (y ∷ [])
listed-one b y h = listed_more h listed_none

pub listed-opened : (out words : List (Option Notice)) (p : ℕ) (m : Mark) (d h : Disk) (n : ℕ) (o : Option Notice) → d ≡ h → n ≡ d.disk → get_or out n None ≡ o → ((c : Cell) → o ≡ came_of (seat_of m c) (get_or words p None)) → Listed out words p (beside_of h ∷ []) (seat_of m (cell_of h) ∷ [])
listed-opened out words p m d h n o v q at f =
    subst (λ (k : Disk). Listed out words p (beside_of k ∷ []) (seat_of m (cell_of k) ∷ [])) v
    (listed-one (beside_of d) (seat_of m (cell_of d)) (subst (λ k. get_or out k None ≡ came_of (seat_of m (cell_of d)) (get_or words p None)) q (at ∙ f (cell_of d))))

pub listed-shut : (out words : List (Option Notice)) (p : ℕ) (d h : ShutSeen) (n : ℕ) (o : Option Notice) → d ≡ h → n ≡ d.disk → get_or out n None ≡ o → ((s : Store) (word : Option Notice) → o ≡ came_of (Out (why_of d) s) word) → Listed out words p (beside_of_shut h ∷ []) (Out (why_of h) (store_of h) ∷ [])
listed-shut out words p d h n o v q at f =
    subst (λ (k : ShutSeen). Listed out words p (beside_of_shut k ∷ []) (Out (why_of k) (store_of k) ∷ [])) v
    (listed-one (beside_of_shut d) (Out (why_of d) (store_of d)) (subst (λ k. get_or out k None ≡ came_of (Out (why_of d) (store_of d)) (get_or words p None)) q (at ∙ f (store_of d) (get_or words p None))))

listed-nth : {out words : List (Option Notice)} {b : Beside} {y : Seat} {bs : List Beside} {p i : ℕ} {ys : List Seat} (k : ℕ) → k ≡ p + i → Listed out words p bs ys → Nth i bs b → Nth i ys y → get_or out b.disk None ≡ came_of y (get_or words k None)
listed-nth k e listed_none m n = elim m [ ]
listed-nth {out} {words} {b} {y} {p = p} k e (listed_more h r) nth_here nth_here = let q : p ≡ k = omega (arith, e) in subst (λ v. get_or out b.disk None ≡ came_of y (get_or words v None)) q h
listed-nth k e (listed_more h r) (nth_later a) (nth_later b) = listed-nth k (omega (arith, e)) r a b

-- at the end of the opening
cell-in : Cell → Seat → Cell
cell-in c (In b d) = d
cell-in c (Out b s) = c

met-size : {s : Store} {x : Seat} {n : ℕ} → Meets s x → Sized n s → (b : Bool) (c : Cell) → x ≡ In b c → length c.now.pages ≡ n
unfolding cell-in
met-size {s} (meets_good {i = i} e) z b c q = let k : c ≡ opened s i = ap (cell-in c) (sym q) in ap (λ (v : Cell). length v.now.pages) k ∙ z i e
met-size (meets_blank e z) k b c q = cc
met-size (meets_bad e z) k b c q = cc
met-size (meets_down a e l) k b c q = cc

came-as : {told : Bool} {n : ℕ} {x y : Seat} {o : Option Notice} → (told ≡ true → (b : Bool) (c : Cell) → x ≡ In b c → length c.now.pages ≡ n) → Comes told n x y o → CameAs told x y (came_of y o)
came-as size (comes_copied {b = b} {c = c} f) = came_copied (λ t. f t (size t b c refl))
came-as size (comes_level e) = came_level e
came-as size comes_left = came_left left_in
came-as size comes_blank = came_left left_blank
came-as size comes_made = came_made
came-as size comes_bad = came_bad
came-as size comes_down = came_left left_down

pub are-came : {told : Bool} {n : ℕ} {ss : List Store} {bs : List Beside} {xs ys : List Seat} (out words : List (Option Notice)) → (told ≡ true → Every (Sized n) ss) → Pairs Meets ss xs → Listed out words 0 bs ys → AllCome told n xs ys words → AreCame told bs xs ys out
are-came {told} {n} out words z m t a i b x y hb hx hy =
    let s = nth-back m hx in
    let e : get_or out b.disk None ≡ came_of y (get_or words i None) = listed-nth i (omega arith) t hb hy in
    subst (λ (v : Option Notice). CameAs told x y v) (sym e) (came-as (λ q. met-size s.2 (every-nth s.1 (z q))) (a.each i x y hx hy))
