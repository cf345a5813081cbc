-- A disk wins, and a winner gives way, over plain variables.
use Rattle.std.proofs.Common.{◌≡◌, ℕ, suc, ◌+◌, ◌<◌, ◌≤◌, Bool, true, false, List, ◌++◌, length, Result, Ok, Err, refl, sym, ap, ◌∙◌, subst, arith}
use Rattle.page_ground.specs.declared.fault.StoreFault.{StoreFault}
use Rattle.mirror_rules.specs.Tree.{Image, Seat, In, Out, lives}
use Rattle.mirror_rules.specs.Claims.{Pairs, pairs_none, pairs_more, Every, every_none, every_more, Has, has_here, has_later}
use Rattle.mirror_rules.specs.Steps.{Says, Done, Fault}
use Rattle.mirror_rules.specs.Opening.{AtMost, most_in, most_out, Wins, wins_here, wins_later, wins_out, IsGoodAt, good_at, GivesWay, way_none, way_out, way_waits, way_left, Yields, Enters}
use Rattle.mirror_layer.specs.View.{Beside}
use Rattle.mirror_layer.specs.Calls.{answered}
use Rattle.mirror_layer.specs.Winning.{Waits, waits_in, waits_out, Admits, is_good, best}
use Rattle.mirror_layer.specs.Ceding.{AtFirst, first_in, first_out, cede_out, cede_failed, cede_calm, Cedes, cedes_none, cedes_more}
use Rattle.mirror_layer.specs.Choosing.{Chooses, chosen, chosen_gone, chosen_again, goods, other, NotOther, not_calm, HasOther, other_here, other_later}
use Rattle.mirror_layer.proofs.CedeSteps.{enters-spared, gives-way}

-- the winner has the greatest generation
most-bounds : {g : ℕ} {xs : List Seat} → Every (AtMost g) xs → best xs ≤ g
most-bounds every_none = omega arith
most-bounds (every_more (most_in l) h) = let m = most-bounds h in omega arith
most-bounds (every_more most_out h) = most-bounds h

pub wins-best : {w : Image} {xs ys : List Seat} → Wins w xs ys → w.generation ≡ best xs
wins-best {w} (wins_here {c = c} q a) = let m = most-bounds a in omega (arith, ap (λ (v : Image). v.generation) q)
wins-best (wins_later l h) = let e = wins-best h in omega arith
wins-best (wins_out h) = wins-best h

wins-length : {w : Image} {xs ys : List Seat} → Wins w xs ys → length ys ≡ length xs
wins-length (wins_here q a) = refl
wins-length (wins_later l h) = ap (λ n. suc n) (wins-length h)
wins-length (wins_out h) = ap (λ n. suc n) (wins-length h)

pairs-length : {A B : Type 0} {R : A → B → Type 0} {xs : List A} {ys : List B} → Pairs R xs ys → length ys ≡ length xs
pairs-length pairs_none = refl
pairs-length (pairs_more h k) = ap (λ n. suc n) (pairs-length k)

-- a disk that remains, at one of two sides
pub other-left : {g : ℕ} {bs : List Beside} {xs : List Seat} (cs : List Beside) (ys : List Seat) → HasOther g bs xs → HasOther g (bs ++ cs) (xs ++ ys)
other-left cs ys (other_here h) = other_here h
other-left cs ys (other_later h) = other_later (other-left cs ys h)

pub other-right : {g : ℕ} {bs cs : List Beside} {xs ys : List Seat} → Pairs (NotOther g) bs xs → HasOther g cs ys → HasOther g (bs ++ cs) (xs ++ ys)
other-right pairs_none h = h
other-right (pairs_more a k) h = other_later (other-right k h)

-- it is there after the winner gave way; and where none is, none is there then
pub remains : {g : ℕ} {bs : List Beside} {zs vs : List Seat} → Cedes bs zs vs → HasOther g bs zs → Has (IsGoodAt g) vs
remains (cedes_more (cede_calm l) k) (other_here (other e m)) = has_here (good_at e)
remains (cedes_more (cede_failed l) k) (other_here (other e m)) = absurd (omega arith)
remains cedes_none h = elim h [ ]
remains (cedes_more cede_out k) (other_here h) = elim h [ ]
remains (cedes_more c k) (other_later h) = has_later (remains k h)

pub none-remains : {g : ℕ} {bs : List Beside} {xs zs vs : List Seat} → Pairs AtFirst bs xs → Pairs (NotOther g) bs zs → GivesWay xs zs vs → Has (IsGoodAt g) vs → ⊥
none-remains pairs_none pairs_none way_none h = elim h [ ]
none-remains (pairs_more f p) (pairs_more n q) (way_out k) (has_here h) = elim h [ ]
none-remains (pairs_more f p) (pairs_more n q) (way_out k) (has_later h) = none-remains p q k h
none-remains (pairs_more (first_in f) p) (pairs_more (not_calm n) q) (way_waits k) (has_here (good_at e)) = let l = n e in omega (arith, f)
none-remains (pairs_more f p) (pairs_more n q) (way_waits k) (has_later h) = none-remains p q k h
none-remains (pairs_more f p) (pairs_more n q) (way_left a b m k) (has_here h) = elim h [ ]
none-remains (pairs_more f p) (pairs_more n q) (way_left a b m k) (has_later h) = none-remains p q k h

-- the disks after a winner gave way are as an opening finds them, and fewer of them are good
way-waits : {xs zs vs : List Seat} → GivesWay xs zs vs → Every Waits vs
way-waits way_none = every_none
way-waits (way_out k) = every_more waits_out (way-waits k)
way-waits (way_waits k) = every_more waits_in (way-waits k)
way-waits (way_left a b m k) = every_more waits_out (way-waits k)

way-first : {bs : List Beside} {xs zs vs : List Seat} → GivesWay xs zs vs → Pairs AtFirst bs xs → Pairs AtFirst bs vs
way-first way_none pairs_none = pairs_none
way-first (way_out k) (pairs_more first_out p) = pairs_more first_out (way-first k p)
way-first (way_waits k) (pairs_more (first_in f) p) = pairs_more (first_in f) (way-first k p)
way-first (way_left a b m k) (pairs_more f p) = pairs_more first_out (way-first k p)

way-goods : {xs zs vs : List Seat} → GivesWay xs zs vs → goods vs + lives zs ≤ goods xs
way-goods way_none = omega arith
way-goods (way_out k) = way-goods k
way-goods (way_waits k) = omega (arith, way-goods k)
way-goods (way_left {b = true} a b m k) = omega (arith, way-goods k)
way-goods (way_left {b = false} a b m k) = omega (arith, way-goods k)

has-good : {g : ℕ} {vs : List Seat} → Has (IsGoodAt g) vs → is_good vs ≡ true
has-good (has_here (good_at e)) = refl
has-good (has_later {x = In b c} h) = refl
has-good (has_later {x = Out b s} h) = has-good h

-- a winner gives way: what was asked before, and what was done
pub record Ceded (wrote : Bool) (g : ℕ) (bs : List Beside) (zs vs : List Seat) : Type 0 where
  pub quiet : wrote ≡ false
  pub alone : lives zs ≡ 1
  pub found : HasOther g bs zs
  pub cedes : Cedes bs zs vs

pub ceded : {wrote : Bool} {n m : ℕ} {bs cs : List Beside} {zs vs : List Seat} → n ≡ m → cs ≡ bs → wrote ≡ false → lives zs ≡ 1 → HasOther n cs zs → Cedes cs zs vs → Ceded wrote m bs zs vs
ceded {n = n} {bs = bs} {zs = zs} {vs = vs} e b q a f c = record {
  quiet = q;
  alone = a;
  found = subst (λ k. HasOther k bs zs) e (subst (λ ds. HasOther n ds zs) b f);
  cedes = subst (λ ds. Cedes ds zs vs) b c;
}

-- the ground refused a read
pub at-fault : {told wrote : Bool} {g n m : ℕ} {xs zs : List Seat} (r : Result (Unit {0}) StoreFault) (f : StoreFault) → r ≡ Err f → Admits told g n m xs (answered r) wrote zs → Admits told g n m xs (Fault f.disk f.count) wrote zs
at-fault {told} {wrote} {g} {n} {m} {xs} {zs} r f e h = subst (λ (x : Result (Unit {0}) StoreFault). Admits told g n m xs (answered x) wrote zs) e h

pub yields : {told wrote : Bool} {g n m d k : ℕ} {bs : List Beside} {xs zs vs : List Seat} (h : Admits told g n m xs (Fault d k) wrote zs) → Pairs AtFirst bs xs → Ceded wrote (best xs) bs zs vs → Yields h.winner.generation wrote xs zs vs
yields {vs = vs} h f c = record {
  quiet = c.quiet;
  alone = c.alone;
  way = gives-way h.wins f (enters-spared h.enters c.quiet) c.cedes c.alone;
  other = subst (λ g. Has (IsGoodAt g) vs) (sym (wins-best h.wins)) (remains c.cedes c.found);
}

entered : {told wrote : Bool} {g n m : ℕ} {s : Says} {bs : List Beside} {xs zs : List Seat} → m ≡ length bs → Pairs AtFirst bs xs → (h : Admits told g n m xs s wrote zs) → Enters told h.winner.generation n 0 (length h.row) h.row s wrote zs
entered {told} {wrote} {g} {n} {m} {s} {zs = zs} e f h =
    subst (λ v. Enters told v n 0 (length h.row) h.row s wrote zs) (sym h.level) (subst (λ k. Enters told g n 0 k h.row s wrote zs) (e ∙ sym (pairs-length f) ∙ sym (wins-length h.wins)) h.enters)

-- the opening's first part, by its ends
pub chose : {told wrote : Bool} {g n m : ℕ} {bs : List Beside} {xs zs : List Seat} (r : Result (Unit {0}) StoreFault) (u : Unit {0}) → r ≡ Ok u → m ≡ length bs → Pairs AtFirst bs xs → Admits told g n m xs (answered r) wrote zs → Chooses told n xs (Ok g) zs
chose {told} {wrote} {g} {n} {m} {bs} {xs} {zs} r u q e f h =
    let a : Admits told g n m xs (Done true) wrote zs = subst (λ (x : Result (Unit {0}) StoreFault). Admits told g n m xs (answered x) wrote zs) q h in
    subst (λ (v : ℕ). Chooses told n xs (Ok v) zs) a.level (chosen a.wins (entered e f a))

pub chose-none : {told wrote : Bool} {g n m : ℕ} {f : StoreFault} {bs : List Beside} {xs zs : List Seat} → m ≡ length bs → Pairs AtFirst bs xs → ((us vs : List Seat) → Pairs AtFirst bs us → Yields (best xs) wrote us zs vs → ⊥) → Admits told g n m xs (Fault f.disk f.count) wrote zs → Chooses told n xs (Err f) zs
chose-none {wrote = wrote} {xs = xs} {zs = zs} e f k h = chosen_gone h.wins (entered e f h) (λ vs y. k xs vs f (subst (λ k. Yields k wrote xs zs vs) (wins-best h.wins) y))

pub stays-at : {wrote : Bool} {n m : ℕ} {bs cs : List Beside} {zs : List Seat} → n ≡ m → cs ≡ bs → ((us vs : List Seat) → Pairs AtFirst cs us → Yields n wrote us zs vs → ⊥) → (us vs : List Seat) → Pairs AtFirst bs us → Yields m wrote us zs vs → ⊥
stays-at {wrote = wrote} {zs = zs} e b f us vs p y = f us vs (subst (λ ds. Pairs AtFirst ds us) (sym b) p) (subst (λ k. Yields k wrote us zs vs) (sym e) y)

pub chose-again : {told wrote : Bool} {g n m : ℕ} {f : StoreFault} {r : Result ℕ StoreFault} {bs : List Beside} {xs zs vs us : List Seat} → m ≡ length bs → Pairs AtFirst bs xs → Ceded wrote (best xs) bs zs vs → Admits told g n m xs (Fault f.disk f.count) wrote zs → Chooses told n vs r us → Chooses told n xs r us
chose-again e f c h r = chosen_again h.wins (entered e f h) (yields h f c) r

-- the disks after a winner gave way are as an opening finds them
pub record Again (bs : List Beside) (xs vs : List Seat) : Type 0 where
  pub waits : Every Waits vs
  pub good : is_good vs ≡ true
  pub first : Pairs AtFirst bs vs
  pub fewer : goods vs < goods xs

pub again : {told wrote : Bool} {g n m d k : ℕ} {bs : List Beside} {xs zs vs : List Seat} → Pairs AtFirst bs xs → Ceded wrote (best xs) bs zs vs → Admits told g n m xs (Fault d k) wrote zs → Again bs xs vs
again f c h =
    let y = yields h f c in
    record {
      waits = way-waits y.way;
      good = has-good y.other;
      first = way-first y.way f;
      fewer = omega (arith, way-goods y.way, y.alone);
    }

-- no winner may give way
pub none-stays : {g : ℕ} {wrote : Bool} {bs : List Beside} {xs zs vs : List Seat} → Pairs (NotOther g) bs zs → Pairs AtFirst bs xs → Yields g wrote xs zs vs → ⊥
none-stays q p y = none-remains p q y.way y.other
