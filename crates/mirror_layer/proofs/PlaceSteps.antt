-- The exchange of a leaf, over plain variables.
use Rattle.std.proofs.Common.{◌≡◌, ℕ, zero, suc, ◌+◌, List, [], ◌∷◌, ◌++◌, length, set, refl, sym, ap, ◌∙◌, subst, arith, length-append}
use Rattle.mirror_rules.specs.Tree.{seats}
use Rattle.mirror_rules.specs.Claims.{Nth, nth_here, nth_later}
use Rattle.mirror_layer.specs.declared.node.Node.{Node, Opened, Shut, Coherency', Mirror'}
use Rattle.mirror_layer.specs.View.{tree_of, beside_in}
use Rattle.mirror_layer.specs.Places.{IsLeaf, first_seat, first_beside, Exchanged}

nth-left : {A : Type 0} {i : ℕ} {x : A} {xs : List A} (ys : List A) → Nth i xs x → Nth i (xs ++ ys) x
nth-left ys nth_here = nth_here
nth-left ys (nth_later h) = nth_later (nth-left ys h)

nth-right : {A : Type 0} {j : ℕ} {x : A} (xs : List A) {ys : List A} (i : ℕ) → i ≡ length xs + j → Nth j ys x → Nth i (xs ++ ys) x
nth-right {j = j} {x = x} [] {ys = ys} i e h = let q : j ≡ i = omega (arith, e) in subst (λ v. Nth v ys x) q h
nth-right {j = j} (y ∷ xs) zero e h = absurd (omega (arith, e))
nth-right {j = j} (y ∷ xs) (suc i) e h = nth_later (nth-right xs i (omega (arith, e)) h)

set-left : {A : Type 0} {i : ℕ} {x : A} (v : A) {xs : List A} (ys : List A) → Nth i xs x → set (xs ++ ys) i v ≡ set xs i v ++ ys
set-left v ys nth_here = refl
set-left v ys (nth_later {x = y} h) = ap (λ t. y ∷ t) (set-left v ys h)

pub set-right : {A : Type 0} (j : ℕ) (v : A) (xs ys : List A) (i : ℕ) → i ≡ length xs + j → set (xs ++ ys) i v ≡ xs ++ set ys j v
set-right j v [] ys i e = let q : i ≡ j = omega (arith, e) in ap (λ k. set ys k v) q
set-right j v (x ∷ xs) ys zero e = absurd (omega (arith, e))
set-right j v (x ∷ xs) ys (suc i) e = ap (λ t. x ∷ t) (set-right j v xs ys i (omega (arith, e)))

pub leaf-row : {D H : Type 0} (n : Node D H) → IsLeaf n → seats (tree_of n) ≡ first_seat n ∷ []
leaf-row (Opened m d) h = refl
leaf-row (Shut s) h = refl
leaf-row (Coherency' p t) h = absurd h
leaf-row (Mirror' p l q r) h = absurd h

pub leaf-beside : {D H : Type 0} (n : Node D H) → IsLeaf n → beside_in n ≡ first_beside n ∷ []
leaf-beside (Opened m d) h = refl
leaf-beside (Shut s) h = refl
leaf-beside (Coherency' p t) h = absurd h
leaf-beside (Mirror' p l q r) h = absurd h

pub row-length : {D H : Type 0} (n : Node D H) → length (seats (tree_of n)) ≡ length (beside_in n)
row-length (Opened m d) = refl
row-length (Shut s) = refl
row-length (Coherency' p t) = row-length t
row-length (Mirror' p l q r) = length-append (seats (tree_of l)) (seats (tree_of r)) ∙ ap (λ k. k + length (seats (tree_of r))) (row-length l) ∙ ap (λ k. length (beside_in l) + k) (row-length r) ∙ sym (length-append (beside_in l) (beside_in r))

here : {D H : Type 0} (n leaf : Node D H) → IsLeaf n → IsLeaf leaf → Exchanged 0 leaf n n leaf
here n leaf h k = record {
  taken = h;
  seat = subst (λ v. Nth 0 v (first_seat n)) (sym (leaf-row n h)) nth_here;
  beside = subst (λ v. Nth 0 v (first_beside n)) (sym (leaf-beside n h)) nth_here;
  row = leaf-row leaf k ∙ sym (ap (λ v. set v 0 (first_seat leaf)) (leaf-row n h));
  besides = leaf-beside leaf k ∙ sym (ap (λ v. set v 0 (first_beside leaf)) (leaf-beside n h));
}

pub exchanged-here : {D H : Type 0} {p : ℕ} (n leaf m after : Node D H) → IsLeaf n → IsLeaf leaf → p ≡ 0 → m ≡ leaf → after ≡ n → Exchanged p leaf after n m
exchanged-here n leaf m after h k e f g =
    subst (λ v. Exchanged v leaf after n m) (sym e) (subst (λ v. Exchanged 0 leaf after n v) (sym f) (subst (λ v. Exchanged 0 leaf v n leaf) (sym g) (here n leaf h k)))

-- of two sides
pub record Rows {D H : Type 0} (n l r : Node D H) : Type 0 where
  pub row : seats (tree_of n) ≡ seats (tree_of l) ++ seats (tree_of r)
  pub besides : beside_in n ≡ beside_in l ++ beside_in r

pub exchanged-left : {D H : Type 0} {p : ℕ} (leaf after n m l k r : Node D H) → Rows n l r → Rows m k r → Exchanged p leaf after l k → Exchanged p leaf after n m
exchanged-left {p = p} leaf after n m l k r a b x = record {
  taken = x.taken;
  seat = subst (λ v. Nth p v (first_seat after)) (sym a.row) (nth-left (seats (tree_of r)) x.seat);
  beside = subst (λ v. Nth p v (first_beside after)) (sym a.besides) (nth-left (beside_in r) x.beside);
  row = b.row ∙ ap (λ v. v ++ seats (tree_of r)) x.row ∙ sym (set-left (first_seat leaf) (seats (tree_of r)) x.seat) ∙ sym (ap (λ v. set v p (first_seat leaf)) a.row);
  besides = b.besides ∙ ap (λ v. v ++ beside_in r) x.besides ∙ sym (set-left (first_beside leaf) (beside_in r) x.beside) ∙ sym (ap (λ v. set v p (first_beside leaf)) a.besides);
}

pub exchanged-right : {D H : Type 0} {p j : ℕ} (leaf mid after n m l k r s : Node D H) → Rows n l r → Rows m k s → mid ≡ leaf → p ≡ length (seats (tree_of l)) + j → seats (tree_of k) ≡ seats (tree_of l) → beside_in k ≡ beside_in l → Exchanged j mid after r s → Exchanged p leaf after n m
exchanged-right {p = p} {j = j} leaf mid after n m l k r s a b e q rk bk y =
    let x : Exchanged j leaf after r s = subst (λ v. Exchanged j v after r s) e y in
    let u : p ≡ length (beside_in l) + j = q ∙ ap (λ v. v + j) (row-length l) in
    record {
      taken = x.taken;
      seat = subst (λ v. Nth p v (first_seat after)) (sym a.row) (nth-right (seats (tree_of l)) p q x.seat);
      beside = subst (λ v. Nth p v (first_beside after)) (sym a.besides) (nth-right (beside_in l) p u x.beside);
      row = b.row ∙ ap (λ v. v ++ seats (tree_of s)) rk ∙ ap (λ v. seats (tree_of l) ++ v) x.row ∙ sym (set-right j (first_seat leaf) (seats (tree_of l)) (seats (tree_of r)) p q) ∙ sym (ap (λ v. set v p (first_seat leaf)) a.row);
      besides = b.besides ∙ ap (λ v. v ++ beside_in s) bk ∙ ap (λ v. beside_in l ++ v) x.besides ∙ sym (set-right j (first_beside leaf) (beside_in l) (beside_in r) p u) ∙ sym (ap (λ v. set v p (first_beside leaf)) a.besides);
    }
