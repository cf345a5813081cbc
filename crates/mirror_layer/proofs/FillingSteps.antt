-- A disk in the making gets the pages of a ground, over plain variables.
use Rattle.std.proofs.Common.{◌≡◌, ℕ, zero, suc, ◌+◌, ◌-◌, ◌<◌, Bool, true, false, List, [], ◌∷◌, ◌++◌, length, set, replicate, Option, Some, None, IfSome, Ok, Err, refl, sym, ap, ◌∙◌, subst, arith, length-append}
use Rattle.std.proofs.lemmas.List.{append_assoc, append-nil}
use Rattle.disk_format.specs.declared.shape.ImageShape.{ImageShape}
use Rattle.page_ground.specs.declared.fault.StoreFault.{StoreFault}
use Rattle.page_ground.specs.Seen.{with_page}
use Rattle.spr_io.specs.Content.{Content}
use Rattle.disk_layer.specs.Making.{Making, SameMaking, StaysBlank, pages_made}
use Rattle.mirror_rules.specs.Tree.{Seat, Out, Tree, seats, is_live}
use Rattle.mirror_rules.specs.Tree as machine
use Rattle.mirror_rules.specs.Claims.{Pairs, pairs_more, Nth, nth_here, nth_later, Has, IsLive}
use Rattle.mirror_rules.specs.Steps.{Says, Done, Fault, Look, Looked, looked_out}
use Rattle.mirror_rules.specs.Opening.{Fills, fill_end, fill_next, fill_gone}
use Rattle.mirror_rules.proofs.OpenLaws.{look-live}
use Rattle.mirror_rules.proofs.RoundLaws.{live-tree, live-seats}
use Rattle.mirror_layer.specs.Renewing.{IsUnmade, IsHole, MakesPage, MakesPages, zero_page}
use Rattle.mirror_layer.proofs.JoinSteps.{found-plug}
use Rattle.mirror_layer.proofs.PlaceSteps.{set-right}

-- a read of the ground, and another disk that is out at the place of one that is
each-out : {s : Says} {i : ℕ} {b : machine.Why} {t : machine.Store} (w : machine.Why) (z : machine.Store) {xs ys : List Seat} → Nth i xs (Out b t) → Pairs (Looked s) xs ys → Pairs (Looked s) (set xs i (Out w z)) (set ys i (Out w z)) × Nth i ys (Out b t)
each-out w z nth_here (pairs_more looked_out h) = (pairs_more looked_out h, nth_here)
each-out w z (nth_later k) (pairs_more l h) = let r = each-out w z k h in (pairs_more l r.0, nth_later r.1)

look-out : {p : ℕ} {x : List ℕ} {s : Says} {i : ℕ} {b : machine.Why} {t : machine.Store} (w : machine.Why) (z : machine.Store) {xs ys : List Seat} → Nth i xs (Out b t) → Look p x xs s ys → Look p x (set xs i (Out w z)) s (set ys i (Out w z)) × Nth i ys (Out b t)
look-out {p} {x} {s} w z {ys = ys} k h = let r = each-out w z k h.each in (record { each = r.0; found = found-plug p x s (Out w z) (Out w z) ys k h.found }, r.1)

pub fills-out : {n p : ℕ} {s : Says} {F : List (List ℕ)} {i : ℕ} {b : machine.Why} {t : machine.Store} (w : machine.Why) (z : machine.Store) {xs ys : List Seat} → Fills n p xs s F ys → Nth i xs (Out b t) → Fills n p (set xs i (Out w z)) s F (set ys i (Out w z)) × Nth i ys (Out b t)
fills-out w z fill_end k = (fill_end, k)
fills-out w z (fill_next h r) k = let l = look-out w z k h in let q = fills-out w z r l.1 in (fill_next l.0 q.0, q.1)
fills-out w z (fill_gone h) k = let l = look-out w z k h in (fill_gone l.0, l.1)

pub fills-live : {n p : ℕ} {s : Says} {F : List (List ℕ)} {xs ys : List Seat} → Fills n p xs s F ys → Has IsLive xs → Has IsLive ys
fills-live fill_end l = l
fills-live (fill_next h r) l = fills-live r (look-live h.each l)
fills-live (fill_gone h) l = look-live h.each l

pub fills-length : {n p : ℕ} {F : List (List ℕ)} {xs ys : List Seat} → Fills n p xs (Done true) F ys → length F ≡ n
fills-length fill_end = refl
fills-length (fill_next h r) = ap (λ k. suc k) (fills-length r)

-- one page more, at the end
fills-last : {n p : ℕ} (q : ℕ) {x : List ℕ} {F : List (List ℕ)} {xs ys zs : List Seat} → Fills n p xs (Done true) F ys → q ≡ p + n → Look q x ys (Done true) zs → Fills (suc n) p xs (Done true) (F ++ (x ∷ [])) zs
fills-last {p = p} q {x} {ys = ys} {zs = zs} fill_end e l = let a : q ≡ p = omega (arith, e) in fill_next (subst (λ v. Look v x ys (Done true) zs) a l) fill_end
fills-last q (fill_next h r) e l = fill_next h (fills-last q r (omega (arith, e)) l)

fills-refused : {n p : ℕ} (m q : ℕ) {x : List ℕ} {d k : ℕ} {F : List (List ℕ)} {xs ys zs : List Seat} → Fills n p xs (Done true) F ys → q ≡ p + n → n < m → Look q x ys (Fault d k) zs → Fills m p xs (Fault d k) F zs
fills-refused zero q h e l k = absurd (omega (arith, l))
fills-refused {p = p} (suc m) q {x} {d} {k} {ys = ys} {zs = zs} fill_end e l o = let a : q ≡ p = omega (arith, e) in fill_gone (subst (λ v. Look v x ys (Fault d k) zs) a o)
fills-refused (suc m) q (fill_next {n = n} h r) e l o = fill_next h (fills-refused {n = n} m q r (omega (arith, e)) (omega (arith, l)) o)

-- the pages of the disk in the making
set-at : (G R : List (List ℕ)) (p : ℕ) (z out : List ℕ) → length G ≡ p → set (G ++ (z ∷ R)) p out ≡ G ++ (out ∷ R)
set-at G R p z out e = set-right 0 out G (z ∷ R) p (omega (arith, e))

stands-next : (o : Option (List (List ℕ))) (G R : List (List ℕ)) (p : ℕ) (z out : List ℕ) → length G ≡ p → IfSome o (λ ps. ps ≡ G ++ (z ∷ R)) → IfSome (with_page p out o) (λ ps. ps ≡ (G ++ (out ∷ [])) ++ R)
stands-next None G R p z out e h = tt
stands-next (Some ps) G R p z out e h = ap (λ l. set l p out) h ∙ set-at G R p z out e ∙ sym (append_assoc G (out ∷ []) R)

hole-in : (o : Option (List (List ℕ))) (G R : List (List ℕ)) (p : ℕ) (z : List ℕ) → length G ≡ p → IfSome o (λ ps. ps ≡ G ++ (z ∷ R)) → with_page p z o ≡ o
hole-in None G R p z e h = refl
hole-in (Some ps) G R p z e h = ap (λ (l : List (List ℕ)). Some l) (ap (λ l. set l p z) h ∙ set-at G R p z z e ∙ sym h)

-- the first p pages stand: those that the reads gave, if all is told, and zeros behind them
pub record Filling (told : Bool) (shape : ImageShape) (p : ℕ) (xs : List Seat) (m : Making) (ys : List Seat) (k : Making) : Type 0 where
  pub pages : List (List ℕ)
  pub given : List (List ℕ)
  pub fills : Fills p 0 xs (Done true) pages ys
  pub same : told ≡ true → pages ≡ given
  pub many : length given ≡ p
  pub stands : IfSome (pages_made k) (λ ps. ps ≡ given ++ replicate (shape.pages - p) (zero_page shape))
  pub calm : k.faults ≡ m.faults

zeros-left : (shape : ImageShape) (p : ℕ) → p < shape.pages → replicate (shape.pages - p) (zero_page shape) ≡ zero_page shape ∷ replicate (shape.pages - (p + 1)) (zero_page shape)
zeros-left shape p l = let q : shape.pages - p ≡ suc (shape.pages - (p + 1)) = omega (arith, l) in ap (λ n. replicate n (zero_page shape)) q

split : {told : Bool} {shape : ImageShape} {p : ℕ} {xs ys : List Seat} {m k : Making} → p < shape.pages → (f : Filling told shape p xs m ys k) → IfSome (pages_made k) (λ ps. ps ≡ f.given ++ (zero_page shape ∷ replicate (shape.pages - (p + 1)) (zero_page shape)))
split {shape = shape} {p = p} {k = k} l f = subst (λ v. IfSome (pages_made k) (λ ps. ps ≡ f.given ++ v)) (zeros-left shape p l) f.stands

pub filling-start : {told : Bool} (shape : ImageShape) (m : Making) {xs : List Seat} → IfSome (pages_made m) (λ ps. ps ≡ replicate shape.pages (zero_page shape)) → Filling told shape 0 xs m xs m
filling-start shape m h =
    let q : shape.pages ≡ shape.pages - 0 = omega arith in
    record { pages = []; given = []; fills = fill_end; same = λ t. refl; many = refl; stands = subst (λ n. IfSome (pages_made m) (λ ps. ps ≡ replicate n (zero_page shape))) q h; calm = refl }

pub filling-hole : {told : Bool} {shape : ImageShape} {p : ℕ} {xs ys : List Seat} {m k : Making} (s : ImageShape) → s ≡ shape → p < shape.pages → Filling told shape p xs m ys k → IsHole s p (pages_made k)
filling-hole {shape = shape} {p = p} {k = k} s e l f = subst (λ v. IsHole v p (pages_made k)) (sym e) (hole-in (pages_made k) f.given (replicate (shape.pages - (p + 1)) (zero_page shape)) p (zero_page shape) f.many (split l f))

pub filling-next : {told w : Bool} {shape : ImageShape} {p : ℕ} {xs ys zs : List Seat} {m k j : Making} → w ≡ true → p < shape.pages → MakesPage told p ys k (Ok w) zs j → Filling told shape p xs m ys k → Filling told shape (p + 1) xs m zs j
filling-next {told} {w} {shape} {p} {xs} {ys} {zs} {m} {k} {j} t l h f =
    let a : MakesPage told p ys k (Ok true) zs j = subst (λ v. MakesPage told p ys k (Ok v) zs j) t h in
    let up : suc p ≡ p + 1 = omega arith in
    record {
      pages = f.pages ++ (a.0 ∷ []);
      given = f.given ++ (a.1 ∷ []);
      fills = subst (λ n. Fills n 0 xs (Done true) (f.pages ++ (a.0 ∷ [])) zs) up (fills-last p f.fills (omega arith) a.2);
      same = λ q. ap (λ (v : List (List ℕ)). v ++ (a.0 ∷ [])) (f.same q) ∙ ap (λ (v : List ℕ). f.given ++ (v ∷ [])) (a.3 q);
      many = omega (arith, length-append f.given (a.1 ∷ []), f.many);
      stands = subst (λ v. IfSome v (λ ps. ps ≡ (f.given ++ (a.1 ∷ [])) ++ replicate (shape.pages - (p + 1)) (zero_page shape))) (sym a.4) (stands-next (pages_made k) f.given (replicate (shape.pages - (p + 1)) (zero_page shape)) p (zero_page shape) a.1 f.many (split l f));
      calm = a.5 ∙ f.calm;
    }

pub filling-left : {told w : Bool} {shape : ImageShape} {p : ℕ} {xs ys zs : List Seat} {m k : Making} (j : Making) → w ≡ false → p < shape.pages → MakesPage told p ys k (Ok w) zs j → Filling told shape p xs m ys k → MakesPages told shape.pages xs m (Ok false) zs j
filling-left {told} {w} {shape} {p} {xs} {ys} {zs} {m} {k} j t l h f =
    let a : MakesPage told p ys k (Ok false) zs j = subst (λ v. MakesPage told p ys k (Ok v) zs j) t h in
    (suc p, f.pages ++ (a.0 ∷ []), omega (arith, l), fills-last p f.fills (omega arith) a.1, omega (arith, a.2, f.calm))

pub filling-gone : {told : Bool} {shape : ImageShape} {p : ℕ} {xs ys zs : List Seat} {m k : Making} (j : Making) (f : StoreFault) → p < shape.pages → MakesPage told p ys k (Err f) zs j → Filling told shape p xs m ys k → MakesPages told shape.pages xs m (Err f) zs j
filling-gone {shape = shape} {p = p} j f l a h = (h.pages, fills-refused shape.pages p h.fills (omega arith) l (a.0 []), a.1 ∙ h.calm)

pub filling-end : {told : Bool} {shape : ImageShape} {p : ℕ} {xs ys : List Seat} {m k : Making} → p ≡ shape.pages → Filling told shape p xs m ys k → MakesPages told shape.pages xs m (Ok true) ys k
filling-end {told} {shape} {p} {xs} {ys} {k = k} e f =
    let none : shape.pages - p ≡ 0 = omega (arith, e) in (
      f.pages,
      subst (λ n. Fills n 0 xs (Done true) f.pages ys) e f.fills,
      λ t. subst (λ v. IfSome (pages_made k) (λ ps. ps ≡ v)) (sym (f.same t)) (subst (λ v. IfSome (pages_made k) (λ ps. ps ≡ v)) (append-nil f.given) (subst (λ n. IfSome (pages_made k) (λ ps. ps ≡ f.given ++ replicate n (zero_page shape))) none f.stands)),
      f.calm,
    )

pub made-live : (told w : Bool) (p : ℕ) (t u : Tree) (m k : Making) → w ≡ true → MakesPage told p (seats t) m (Ok w) (seats u) k → is_live t ≡ true → is_live u ≡ true
made-live told w p t u m k e h l =
    let a : MakesPage told p (seats t) m (Ok true) (seats u) k = subst (λ v. MakesPage told p (seats t) m (Ok v) (seats u) k) e h in
    live-tree u (look-live a.2.each (live-seats t l))

-- what stays
pub same-then : (a b c : Making) → SameMaking a b → SameMaking b c → SameMaking a c
same-then a b c h k = record { disk = k.disk ∙ h.disk; shape = k.shape ∙ h.shape; told = k.told ∙ h.told; first = k.first ∙ h.first; kept = k.kept ∙ h.kept }

pub same-self : (a : Making) → SameMaking a a
same-self a = record { disk = refl; shape = refl; told = refl; first = refl; kept = refl }

pub unmade-then : (s : ImageShape) (a b : Option Content) → StaysBlank s a b → IsUnmade s a → IsUnmade s b
unmade-then s a b h u = (h.blank u.0, h.none u.0)

pub zero-given : (p : ℕ) (out : List ℕ) (shape : ImageShape) (o : Option (List (List ℕ))) → length out ≡ shape.page_size → out ≡ replicate (length out) 0 → IsHole shape p o → o ≡ with_page p out o
zero-given p out shape o e z h = sym (ap (λ (v : List ℕ). with_page p v o) (z ∙ ap (λ n. replicate n 0) e) ∙ h)

pub unmade-next : (s shape : ImageShape) (o a b : Option Content) → s ≡ shape → (IsUnmade s a → IsUnmade s b) → (IsUnmade shape o → IsUnmade shape a) → IsUnmade shape o → IsUnmade shape b
unmade-next s shape o a b e f g u = subst (λ v. IsUnmade v a → IsUnmade v b) e f (g u)
