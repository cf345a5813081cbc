-- The good disks join, over plain variables.
use Rattle.std.proofs.Common.{◌≡◌, ℕ, suc, ◌+◌, Bool, true, false, ◌&&◌, ◌||◌, List, [], ◌∷◌, set, Result, Ok, Err, refl, sym, ap, ◌∙◌, subst}
use Rattle.std.specs.Prelude.{eqb}
use Rattle.std.proofs.lemmas.Bool.{and_parts}
use Rattle.page_ground.specs.declared.fault.StoreFault.{StoreFault}
use Rattle.mirror_rules.specs.Tree.{Cell, Seat, In, Out, seats, is_live}
use Rattle.mirror_rules.specs.Tree as machine
use Rattle.mirror_rules.specs.Claims.{Nth, nth_here, nth_later, Every, every_none, every_more, Has, has_here, has_later, IsLive}
use Rattle.mirror_rules.specs.Steps.{Says, Done, Fault}
use Rattle.mirror_rules.specs.Opening.{Copies, copy_same, copy_differs, copy_left, copy_gone, copy_even, copy_settled, copy_unflushed, copy_unraised, Enters, enter_end, enter_next, enter_joins, enter_gone, Passed}
use Rattle.disk_format.specs.declared.shape.ImageShape.{ImageShape}
use Rattle.mirror_rules.proofs.OpenLaws.{look-live, only-live, nth-same}
use Rattle.mirror_rules.proofs.RoundLaws.{live-tree, live-seats}
use Rattle.mirror_layer.specs.declared.node.Node.{Node}
use Rattle.mirror_layer.specs.Places.{Exchanged, IsSpare, EntersLeaf, LeafTells, first_seat, first_beside}
use Rattle.mirror_layer.specs.View.{Beside, tree_of, beside_in}
use Rattle.mirror_layer.specs.Calls.{said, answered, all_told}
use Rattle.mirror_layer.specs.Joining.{Joins, joined, ended}
use Rattle.mirror_layer.proofs.JoinSteps.{nth-plug, or-none}

entered : {told e w : Bool} {n i : ℕ} {b : machine.Why} {t : machine.Store} (c d : Cell) (r : Result Bool StoreFault) (live : Bool) {xs : List Seat} (ys : List Seat) {gen : ℕ} → r ≡ Ok live → Joins told gen e n xs c r w ys d → eqb c.now.generation gen ≡ e → Nth i xs (Out b t)
    → Enters told gen n i 1 (set xs i (In false c)) (Done true) w (set ys i (In live d))
entered {told} {e} {w} {n} {i} {b} {t} c d r live {xs = xs} ys {gen = gen} q h z k =
    let a : Copies told gen i e n 0 (set xs i (In false c)) (said (Ok live)) w (set ys i (In (joined (Ok live)) d)) = subst (λ v. Copies told gen i e n 0 (set xs i (In false c)) (said v) w (set ys i (In (joined v) d))) q (h i b t k) in
    subst (λ v. Enters told gen n i 1 (set xs i (In false c)) (Done true) v (set ys i (In live d))) (or-none w) (enter_joins (nth-plug (In false c) k) z a enter_end)

entered-gone : {told e w : Bool} {n i : ℕ} {b : machine.Why} {t : machine.Store} (c d : Cell) (r : Result Bool StoreFault) (f : StoreFault) {xs : List Seat} (ys : List Seat) {gen : ℕ} → r ≡ Err f → Joins told gen e n xs c r w ys d → eqb c.now.generation gen ≡ e → Nth i xs (Out b t)
    → Enters told gen n i 1 (set xs i (In false c)) (Fault f.disk f.count) w (set ys i (In false d))
entered-gone {told} {e} {w} {n} {i} {b} {t} c d r f {xs = xs} ys {gen = gen} q h z k =
    let a : Copies told gen i e n 0 (set xs i (In false c)) (said (Err f)) w (set ys i (In (joined (Err f)) d)) = subst (λ v. Copies told gen i e n 0 (set xs i (In false c)) (said v) w (set ys i (In (joined v) d))) q (h i b t k) in
    enter_gone (nth-plug (In false c) k) z a

pub entered-any : {told e w : Bool} {n i : ℕ} {b : machine.Why} {t : machine.Store} (c d : Cell) (r : Result Bool StoreFault) {xs : List Seat} (ys : List Seat) {gen : ℕ} → Joins told gen e n xs c r w ys d → eqb c.now.generation gen ≡ e → Nth i xs (Out b t)
    → Enters told gen n i 1 (set xs i (In false c)) (ended r) w (set ys i (In (joined r) d))
entered-any c d (Ok live) ys h z k = entered c d (Ok live) live ys refl h z k
entered-any c d (Err f) ys h z k = entered-gone c d (Err f) f ys refl h z k

pub stayed : {told : Bool} {n i : ℕ} {b : machine.Why} {t : machine.Store} (x : Seat) {xs : List Seat} {gen : ℕ} → Passed x → Nth i xs (Out b t) → Enters told gen n i 1 (set xs i x) (Done true) false (set xs i x)
stayed x p k = enter_next (nth-plug x k) p enter_end

-- one disk, and then those after it
or-both : (a b : Bool) → ((a || false) || b) ≡ (a || b)
or-both true b = refl
or-both false b = refl

pub enters-more : {told v w : Bool} {n i m : ℕ} {s : Says} {xs ys zs : List Seat} {gen : ℕ} → Enters told gen n i 1 xs (Done true) v ys → Enters told gen n (i + 1) m ys s w zs → Enters told gen n i (suc m) xs s (v || w) zs
enters-more (enter_next h p enter_end) k = enter_next h p k
enters-more {told} {w = w} {n} {i} {m} {s} {xs} {zs = zs} {gen = gen} (enter_joins {z = z} h q c enter_end) k = subst (λ o. Enters told gen n i (suc m) xs s o zs) (sym (or-both z w)) (enter_joins h q c k)

pub enters-first : {told v : Bool} {n i m d f : ℕ} {xs ys : List Seat} {gen : ℕ} → Enters told gen n i 1 xs (Fault d f) v ys → Enters told gen n i (suc m) xs (Fault d f) v ys
enters-first (enter_next h p k) = elim k [ ]
enters-first (enter_joins h q c k) = elim k [ ]
enters-first (enter_gone h q c) = enter_gone h q c

-- the rows with a leaf taken out, and put back
pub set-back : {A : Type 0} {i : ℕ} {x : A} (y : A) {xs : List A} → Nth i xs x → set (set xs i y) i x ≡ xs
set-back y nth_here = refl
set-back y (nth_later {x = z} h) = ap (λ t. z ∷ t) (set-back y h)

pub every-set : {A : Type 0} {P : A → Type 0} {i : ℕ} {x : A} (y : A) {xs : List A} → P y → Nth i xs x → Every P xs → Every P (set xs i y)
every-set y p nth_here (every_more h k) = every_more p k
every-set y p (nth_later n) (every_more h k) = every_more h (every-set y p n k)

pub every-nth : {A : Type 0} {P : A → Type 0} {i : ℕ} {x : A} {xs : List A} → Nth i xs x → Every P xs → P x
every-nth nth_here (every_more h k) = h
every-nth (nth_later n) (every_more h k) = every-nth n k

and-both : (a b : Bool) → a ≡ true → b ≡ true → (a && b) ≡ true
and-both a b p q = ap (λ v. v && b) p ∙ q

pub told-every : (bs : List Beside) → all_told bs ≡ true → Every (λ (b : Beside). b.told ≡ true) bs
told-every [] e = every_none
told-every (b ∷ bs) e = let p = and_parts b.told (all_told bs) e in every_more p.0 (told-every bs p.1)

pub every-told : {bs : List Beside} → Every (λ (b : Beside). b.told ≡ true) bs → all_told bs ≡ true
every-told every_none = refl
every-told (every_more {x = b} {xs = bs} h k) = and-both b.told (all_told bs) h (every-told k)

pub live-set : {i : ℕ} {c : Cell} (y : Seat) {xs : List Seat} → Nth i xs (In false c) → Has IsLive xs → Has IsLive (set xs i y)
live-set y nth_here (has_here h) = elim h [ ]
live-set y nth_here (has_later h) = has_later h
live-set y (nth_later k) (has_here h) = has_here h
live-set y (nth_later k) (has_later h) = has_later (live-set y k h)

pub copies-live : {told : Bool} {gen i n p : ℕ} {e w : Bool} {s : Says} {xs ys : List Seat} → Copies told gen i e n p xs s w ys → Has IsLive xs → Has IsLive ys
copies-live (copy_same h k q r) l = copies-live r (look-live h.each l)
copies-live (copy_differs h ne q k r) l = copies-live r (only-live k (look-live h.each l))
copies-live (copy_left h m k) l = only-live k (look-live h.each l)
copies-live (copy_gone h) l = look-live h.each l
copies-live (copy_even k) l = only-live k l
copies-live (copy_settled k) l = only-live k l
copies-live (copy_unflushed h k) l = only-live k l
copies-live (copy_unraised h q k) l = only-live k l

pub enters-live : {told : Bool} {gen n i m : ℕ} {w : Bool} {s : Says} {xs ys : List Seat} → Enters told gen n i m xs s w ys → Has IsLive xs → Has IsLive ys
enters-live enter_end l = l
enters-live (enter_next h p r) l = enters-live r l
enters-live (enter_joins h q k r) l = enters-live r (copies-live k l)
enters-live (enter_gone h q k) l = copies-live k l

-- a leaf is taken out, it may join, and it is put back
pub record Visit {D H : Type 0} (p : ℕ) (shape : ImageShape) (spare leaf leaf2 spare2 n m m2 k : Node D H) : Type 0 where
  pub first : Exchanged p spare leaf n m
  pub then : Exchanged p leaf2 spare2 m2 k
  pub idle : IsSpare shape spare
  pub beside : beside_in m2 ≡ beside_in m
  pub own : first_beside leaf2 ≡ first_beside leaf
  pub out : (i : ℕ) (b : machine.Why) (s : machine.Store) → Nth i (seats (tree_of m)) (Out b s) → Nth i (seats (tree_of m2)) (Out b s)

pub spare-at : {D H : Type 0} {p : ℕ} {shape : ImageShape} {spare leaf n m : Node D H} → IsSpare shape spare → Exchanged p spare leaf n m → (b : machine.Why) × (s : machine.Store) × (first_seat spare ≡ Out b s) × Nth p (seats (tree_of m)) (Out b s)
spare-at {p = p} {spare = spare} {n = n} i x =
    (i.why, i.store, i.out, subst (λ v. Nth p v (Out i.why i.store)) (sym x.row) (subst (λ v. Nth p (set (seats (tree_of n)) p (first_seat spare)) v) i.out (nth-plug (first_seat spare) x.seat)))

pub leaf-live : {D H : Type 0} {p : ℕ} {spare leaf : Node D H} {c : Cell} (n m : Node D H) → Exchanged p spare leaf n m → first_seat leaf ≡ In false c → is_live (tree_of n) ≡ true → is_live (tree_of m) ≡ true
leaf-live {p = p} {spare = spare} {c = c} n m x e l =
    let k : Nth p (seats (tree_of n)) (In false c) = subst (λ v. Nth p (seats (tree_of n)) v) e x.seat in
    live-tree (tree_of m) (subst (λ v. Has IsLive v) (sym x.row) (live-set (first_seat spare) k (live-seats (tree_of n) l)))

pub visit-row : {D H : Type 0} {p : ℕ} {shape : ImageShape} {spare leaf leaf2 spare2 n m m2 k : Node D H} → Visit p shape spare leaf leaf2 spare2 n m m2 k → set (seats (tree_of m)) p (first_seat leaf) ≡ seats (tree_of n)
visit-row {p = p} {spare = spare} {leaf = leaf} v = ap (λ r. set r p (first_seat leaf)) v.first.row ∙ set-back (first_seat spare) v.first.seat

pub visit-tells : {D H : Type 0} {p : ℕ} {shape : ImageShape} {told : Bool} {spare leaf leaf2 spare2 n m m2 k : Node D H} → Visit p shape spare leaf leaf2 spare2 n m m2 k → (told ≡ true → all_told (beside_in n) ≡ true) → LeafTells told (beside_in m) leaf
visit-tells {spare = spare} {n = n} v h t =
    let e = told-every (beside_in n) (h t) in
    (ap all_told v.first.besides ∙ every-told (every-set (first_beside spare) v.idle.tells v.first.beside e), every-nth v.first.beside e)

pub visit-enters : {D H : Type 0} {p pages : ℕ} {shape : ImageShape} {told w : Bool} (r : Result (Unit {0}) StoreFault) (spare leaf leaf2 spare2 n m m2 k : Node D H) {gen : ℕ} → Visit p shape spare leaf leaf2 spare2 n m m2 k
    → (LeafTells told (beside_in m) leaf → EntersLeaf told gen pages (seats (tree_of m)) (first_seat leaf) r w (seats (tree_of m2)) (first_seat leaf2)) → (told ≡ true → all_told (beside_in n) ≡ true) → Enters told gen pages p 1 (seats (tree_of n)) (answered r) w (seats (tree_of k))
visit-enters {p = p} {pages} {told = told} {w = w} r spare leaf leaf2 spare2 n m m2 k {gen = gen} v h t =
    let s = spare-at v.idle v.first in
    let e = h (visit-tells v t) p s.0 s.1 s.3 in
    subst (λ y. Enters told gen pages p 1 (seats (tree_of n)) (answered r) w y) (sym v.then.row)
    (subst (λ x. Enters told gen pages p 1 x (answered r) w (set (seats (tree_of m2)) p (first_seat leaf2))) (visit-row v) e)

pub visit-beside : {D H : Type 0} {p : ℕ} {shape : ImageShape} {spare leaf leaf2 spare2 n m m2 k : Node D H} → Visit p shape spare leaf leaf2 spare2 n m m2 k → beside_in k ≡ beside_in n
visit-beside {p = p} {spare = spare} {leaf = leaf} {leaf2 = leaf2} {n = n} v =
    v.then.besides ∙ ap (λ r. set r p (first_beside leaf2)) (v.beside ∙ v.first.besides) ∙ ap (λ b. set (set (beside_in n) p (first_beside spare)) p b) v.own ∙ set-back (first_beside spare) v.first.beside

pub visit-spare : {D H : Type 0} {p : ℕ} {shape : ImageShape} (spare leaf leaf2 spare2 n m m2 k : Node D H) → Visit p shape spare leaf leaf2 spare2 n m m2 k → IsSpare shape spare2
visit-spare {p = p} {shape} spare leaf leaf2 spare2 n m m2 k v =
    let s = spare-at v.idle v.first in
    let b : first_beside spare2 ≡ first_beside spare = nth-same v.then.beside (subst (λ r. Nth p r (first_beside spare)) (sym (v.beside ∙ v.first.besides)) (nth-plug (first_beside spare) v.first.beside)) in
    record {
      one = v.then.taken;
      why = s.0;
      store = s.1;
      out = nth-same v.then.seat (v.out p s.0 s.1 s.3);
      fits = ap (λ (x : Beside). x.shape) b ∙ v.idle.fits;
      tells = ap (λ (x : Beside). x.told) b ∙ v.idle.tells;
    }

-- a turn of the loop over the places
pub enter-ends : {told v : Bool} {n pages i m : ℕ} (r : Result (Unit {0}) StoreFault) (f : StoreFault) {xs ys : List Seat} {gen : ℕ} → r ≡ Err f → n ≡ suc m → Enters told gen pages i 1 xs (answered r) v ys → Enters told gen pages i n xs (Fault f.disk f.count) v ys
enter-ends {told} {v} {n} {pages} {i} {m} r f {xs} {ys} {gen = gen} e q h =
    subst (λ k. Enters told gen pages i k xs (Fault f.disk f.count) v ys) (sym q) (enters-first (subst (λ (x : Result (Unit {0}) StoreFault). Enters told gen pages i 1 xs (answered x) v ys) e h))

pub enter-goes : {told v w : Bool} {n pages i m : ℕ} (r : Result (Unit {0}) StoreFault) (u : Unit {0}) {s : Says} {xs ys zs : List Seat} {gen : ℕ} → r ≡ Ok u → n ≡ suc m → Enters told gen pages i 1 xs (answered r) v ys → Enters told gen pages (i + 1) m ys s w zs → Enters told gen pages i n xs s (v || w) zs
enter-goes {told} {v} {w} {n} {pages} {i} {m} r u {s} {xs} {ys} {zs} {gen = gen} e q h k =
    subst (λ t. Enters told gen pages i t xs s (v || w) zs) (sym q) (enters-more (subst (λ (x : Result (Unit {0}) StoreFault). Enters told gen pages i 1 xs (answered x) v ys) e h) k)

pub or-assoc : (a b c : Bool) → (a || (b || c)) ≡ ((a || b) || c)
or-assoc true b c = refl
or-assoc false b c = refl

pub enters-none : {told : Bool} {n pages i : ℕ} {xs : List Seat} {gen : ℕ} → n ≡ 0 → Enters told gen pages i n xs (Done true) false xs
enters-none {told} {n} {pages} {i} {xs} {gen = gen} q = subst (λ t. Enters told gen pages i t xs (Done true) false xs) (sym q) enter_end
