-- One disk wins, over plain variables.
use Rattle.std.proofs.Common.{◌≡◌, ℕ, max, ◌<◌, ◌≤◌, true, false, List, [], ◌∷◌, ◌++◌, refl, sym, ap, ◌∙◌, subst, arith}
use Rattle.mirror_rules.specs.Tree.{Image, Cell, Seat, In, Out, seats}
use Rattle.mirror_rules.specs.Claims.{Every, every_none, every_more}
use Rattle.mirror_rules.specs.Opening.{AtMost, most_in, most_out, Wins, wins_here, wins_later, wins_out}
use Rattle.mirror_layer.proofs.CloseSteps.{every_left, every_right, every_both}
use Rattle.mirror_layer.specs.Winning.{Waits, waits_in, waits_out, Below, below_in, below_out, WaitsUnder, best}
use Rattle.mirror_layer.specs.declared.node.Node.{Node, Opened, Shut, Coherency', Mirror'}
use Rattle.mirror_layer.specs.View.{tree_of}

-- the greatest generation of two rows
pub best_append : (xs ys : List Seat) → best (xs ++ ys) ≡ max (best xs) (best ys)
best_append [] ys = omega arith
best_append (In b c ∷ xs) ys = omega (arith, best_append xs ys)
best_append (Out b s ∷ xs) ys = best_append xs ys

pub wins-left : {w : Image} {xs ys : List Seat} (zs : List Seat) → Wins w xs ys → Every (AtMost w.generation) zs → Wins w (xs ++ zs) (ys ++ zs)
wins-left zs (wins_here {xs = xs} q a) m = wins_here q (both a m) where
  both : {P : Seat → Type 0} {xs ys : List Seat} → Every P xs → Every P ys → Every P (xs ++ ys)
  both every_none k = k
  both (every_more h i) k = every_more h (both i k)
wins-left zs (wins_later l h) m = wins_later l (wins-left zs h m)
wins-left zs (wins_out h) m = wins_out (wins-left zs h m)

pub wins-right : {w : Image} {xs ys zs : List Seat} → Every (Below w.generation) xs → Every Waits xs → Wins w ys zs → Wins w (xs ++ ys) (xs ++ zs)
wins-right every_none every_none h = h
wins-right (every_more (below_in l) a) (every_more waits_in b) h = wins_later l (wins-right a b h)
wins-right (every_more below_out a) (every_more waits_out b) h = wins_out (wins-right a b h)

-- of two sides
pub won-left : {g : ℕ} {xs ys : List Seat} (zs : List Seat) → Every (AtMost g) (xs ++ zs) → (w : Image) × (w.generation ≡ g) × Wins w xs ys → (w : Image) × (w.generation ≡ g) × Wins w (xs ++ zs) (ys ++ zs)
won-left {xs = xs} zs m h = (h.0, h.1, wins-left zs h.2 (subst (λ v. Every (AtMost v) zs) (sym h.1) (every_right xs zs m)))

pub won-right : {g : ℕ} {ys zs : List Seat} (xs us : List Seat) → Every Waits (xs ++ ys) → Every (Below g) xs × (us ≡ xs) → (w : Image) × (w.generation ≡ g) × Wins w ys zs → (w : Image) × (w.generation ≡ g) × Wins w (xs ++ ys) (us ++ zs)
won-right {ys = ys} {zs = zs} xs us a l h =
    (h.0, h.1, subst (λ v. Wins h.0 (xs ++ ys) (v ++ zs)) (sym l.1) (wins-right (subst (λ v. Every (Below v) xs) (sym h.1) l.0) (every_left xs ys a) h.2))

pub lost-both : {g : ℕ} (xs ys us zs : List Seat) → Every (Below g) xs × (us ≡ xs) → Every (Below g) ys × (zs ≡ ys) → Every (Below g) (xs ++ ys) × (us ++ zs ≡ xs ++ ys)
lost-both xs ys us zs l r = (every_both xs ys l.0 r.0, ap (λ v. v ++ zs) l.1 ∙ ap (λ v. xs ++ v) r.1)

pub win-leaf : {g : ℕ} (c : Cell) (x y : Seat) → x ≡ In false c → y ≡ In true c → c.now.generation ≡ g → (w : Image) × (w.generation ≡ g) × Wins w (x ∷ []) (y ∷ [])
win-leaf c x y e f q = (c.now, q, subst (λ v. Wins c.now (v ∷ []) (y ∷ [])) (sym e) (subst (λ v. Wins c.now (In false c ∷ []) (v ∷ [])) (sym f) (wins_here refl every_none)))

below-one : {g : ℕ} (x : Seat) → Waits x → AtMost g x → ((c : Cell) → x ≡ In false c → c.now.generation ≡ g → ⊥) → Below g x
below-one (In false c) w (most_in l) f = below_in (omega (arith, ne c f l))
  where
    ne : {g : ℕ} (c : Cell) → ((d : Cell) → In false c ≡ In false d → d.now.generation ≡ g → ⊥) → c.now.generation ≤ g → c.now.generation < g
    ne c f l = let n : c.now.generation ≡ _ → ⊥ = f c refl in omega (arith, n)
below-one (In true c) w m f = elim w [ ]
below-one (Out b s) w m f = below_out

pub lose-leaf : {g : ℕ} (x : Seat) → Every Waits (x ∷ []) → Every (AtMost g) (x ∷ []) → ((c : Cell) → x ≡ In false c → c.now.generation ≡ g → ⊥) → Every (Below g) (x ∷ [])
lose-leaf x (every_more w k) (every_more m l) f = every_more (below-one x w m f) every_none

pub lost-leaf : {g : ℕ} (x y : Seat) → Every Waits (x ∷ []) → Every (AtMost g) (x ∷ []) → y ≡ x → ((c : Cell) → x ≡ In false c → c.now.generation ≡ g → ⊥) → Every (Below g) (x ∷ []) × (y ∷ [] ≡ x ∷ [])
lost-leaf x y a m e f = (lose-leaf x a m f, ap (λ v. v ∷ []) e)

pub waits-row : {D H : Type 0} (g : ℕ) (n : Node D H) → WaitsUnder g n → Every (AtMost g) (seats (tree_of n)) × Every Waits (seats (tree_of n))
waits-row g (Opened m d) h = (every_more h.1 every_none, every_more h.0 every_none)
waits-row g (Shut s) h = (every_more most_out every_none, every_more waits_out every_none)
waits-row g (Coherency' p t) h = waits-row g t h
waits-row g (Mirror' p l q r) h =
    let a = waits-row g l h.0 in
    let b = waits-row g r h.1 in
    (every_both (seats (tree_of l)) (seats (tree_of r)) a.0 b.0, every_both (seats (tree_of l)) (seats (tree_of r)) a.1 b.1)

pub row-waits : {D H : Type 0} (g : ℕ) (n : Node D H) → Every (AtMost g) (seats (tree_of n)) → Every Waits (seats (tree_of n)) → WaitsUnder g n
row-waits g (Opened m d) (every_more a h) (every_more w k) = (w, a)
row-waits g (Shut s) a w = tt
row-waits g (Coherency' p t) a w = row-waits g t a w
row-waits g (Mirror' p l q r) a w = (row-waits g l (every_left (seats (tree_of l)) (seats (tree_of r)) a) (every_left (seats (tree_of l)) (seats (tree_of r)) w), row-waits g r (every_right (seats (tree_of l)) (seats (tree_of r)) a) (every_right (seats (tree_of l)) (seats (tree_of r)) w))
