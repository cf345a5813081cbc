-- The map when one entry is written.
use Rattle.std.proofs.Common.{◌≡◌, ◌≢◌, ℕ, zero, suc, ◌+◌, ◌-◌, ◌*◌, ◌^◌, ◌<◌, ◌≤◌, inl, inr, false, not, List, [], ◌∷◌, ◌++◌, length, take, drop, set, None, Ok, refl, sym, ◌∙◌, ap, subst, arith, ◌==◌}
use Rattle.std.specs.Prelude.{All}
use Rattle.std.specs.List.{concat}
use Rattle.std.proofs.lemmas.List.{take-append-drop, take-append-le, take-take, drop-drop, drop-take, length-take-le, length-take, length-drop, length-append, take_at, drop_at}
use Rattle.std.proofs.lemmas.Bool.{cases_eq}
use Rattle.byteorder.specs.Endian.{big_number, big_bytes}
use Rattle.byteorder.specs.Numbers.{big_number-reads_back}
use Rattle.disk_format.specs.declared.shape.ImageShape.{ImageShape}
use Rattle.disk_format.specs.Shape.{first_data}
use Rattle.disk_format.specs.Table.{first_place, again_place, found, first_met}
use Rattle.disk_format.specs.VersionOne.{number_at, entries_in, with_entry, is_entry, map_rows, map_in}
use Rattle.disk_format.specs.declared.why.ImageWhy.TheVariants.{Entry, Twice, Tail}
use Rattle.disk_format.proofs.SeenLaws.{entry-named}
use Rattle.disk_format.proofs.TableLaws.{AllBut, pick-none, first-none-set, again-none-set}
use Rattle.disk_format.proofs.RowLaws.{met-head, none-found, unless-ok}

-- the entries of a map in which one was written
pub entries-written : (n : ℕ) (bytes : List ℕ) (p e : ℕ) → p < n → 4 * n ≤ length bytes → e < 2 ^ 32 → entries_in n (with_entry bytes p e) ≡ set (entries_in n bytes) p e
unfolding number_at
entries-written zero bytes p e lt room fits = absurd (omega arith)
entries-written (suc n) bytes zero e lt room fits = ap (λ v. v ∷ entries_in n (drop 4 bytes)) (big_number-reads_back 4 e (drop 4 bytes) fits)
entries-written (suc n) [] (suc p) e lt room fits = absurd (omega arith)
entries-written (suc n) (c0 ∷ []) (suc p) e lt room fits = absurd (omega arith)
entries-written (suc n) (c0 ∷ c1 ∷ []) (suc p) e lt room fits = absurd (omega arith)
entries-written (suc n) (c0 ∷ c1 ∷ c2 ∷ []) (suc p) e lt room fits = absurd (omega arith)
entries-written (suc n) (c0 ∷ c1 ∷ c2 ∷ c3 ∷ rest) (suc p) e lt room fits =
    let q : 4 * suc p ≡ suc (suc (suc (suc (4 * p)))) = omega arith in
    let q2 : 4 * suc p + 4 ≡ suc (suc (suc (suc (4 * p + 4)))) = omega arith in
    rw (q2, q) (ap (λ v. big_number 4 (c0 ∷ c1 ∷ c2 ∷ c3 ∷ rest) ∷ v) (entries-written n rest p e (omega arith) (omega arith) fits))

-- past the entries nothing changed
pub drop-written : (bytes : List ℕ) (p e n : ℕ) → 4 * p + 4 ≤ n → n ≤ length bytes → drop n (with_entry bytes p e) ≡ drop n bytes
drop-written bytes p e n le room =
    let front = take (4 * p) bytes ++ big_bytes 4 e in
    let rest = drop (4 * p + 4) bytes in
    let l : length front ≡ 4 * p + 4 = omega (arith, length-append (take (4 * p) bytes) (big_bytes 4 e), length-take-le (4 * p) bytes (omega arith)) in
    let m = n - (4 * p + 4) in
    let k : (4 * p + 4) + m ≡ n = omega arith in
    let a : with_entry bytes p e ≡ front ++ rest = sym (append-three (take (4 * p) bytes) (big_bytes 4 e) rest) in
    rw a
    (subst (λ v. drop v (front ++ rest) ≡ drop v bytes) k
    (sym (drop-drop m (4 * p + 4) (front ++ rest)) ∙ ap (λ l. drop m l) (drop_at front rest (4 * p + 4) l) ∙ drop-drop m (4 * p + 4) bytes))
  where
    append-three : (a b c : List ℕ) → (a ++ b) ++ c ≡ a ++ (b ++ c)
    append-three [] b c = refl
    append-three (x ∷ a) b c = ap (λ l. x ∷ l) (append-three a b c)

-- before the entry nothing changed
pub take-written : (bytes : List ℕ) (p e n : ℕ) → n ≤ 4 * p → 4 * p ≤ length bytes → take n (with_entry bytes p e) ≡ take n bytes
take-written bytes p e n le room =
    let l : length (take (4 * p) bytes) ≡ 4 * p = length-take-le (4 * p) bytes room in
    take-append-le n (take (4 * p) bytes) (big_bytes 4 e ++ drop (4 * p + 4) bytes) (omega arith) ∙ take-take n (4 * p) bytes le

pub length-written : (bytes : List ℕ) (p e : ℕ) → 4 * p + 4 ≤ length bytes → length (with_entry bytes p e) ≡ length bytes
length-written bytes p e room = simp (length-append, length-take, length-drop) (omega arith)

-- what the rows of the map say
pub record Good (shape : ImageShape) (bytes entries : List ℕ) : Type 0 where
  pub entry : first_place 4 (λ e. not (is_entry shape e)) shape.page_size entries ≡ None
  pub twice : again_place 4 [] shape.page_size entries ≡ None
  pub tail : first_place 1 (λ b. not (b == 0)) (shape.page_size + 4 * shape.pages) (drop (4 * shape.pages) bytes) ≡ None

pub map-good : (shape : ImageShape) (bytes entries : List ℕ) → map_in shape bytes ≡ Ok entries → Good shape bytes entries × (entries_in shape.pages bytes ≡ entries)
map-good shape bytes entries h =
    let o = unless-ok (first_met (map_rows shape bytes (entries_in shape.pages bytes))) (entries_in shape.pages bytes) entries h in
    let a = met-head (found Entry (first_place 4 (λ e. not (is_entry shape e)) shape.page_size (entries_in shape.pages bytes))) _ o.0 in
    let b = met-head (found Twice (again_place 4 [] shape.page_size (entries_in shape.pages bytes))) _ a.1 in
    let c = met-head (found Tail (first_place 1 (λ b. not (b == 0)) (shape.page_size + 4 * shape.pages) (drop (4 * shape.pages) bytes))) _ b.1 in
    let g : Good shape bytes (entries_in shape.pages bytes) = record { entry = none-found _ _ a.0; twice = none-found _ _ b.0; tail = none-found _ _ c.0 } in
    (subst (λ v. Good shape bytes v) o.1 g, o.1)

pub good-map : (shape : ImageShape) (bytes entries : List ℕ) → Good shape bytes entries → entries_in shape.pages bytes ≡ entries → map_in shape bytes ≡ Ok entries
good-map shape bytes entries h e = rw (e, h.entry, h.twice, h.tail) refl

-- a map in which one page got a block
pub map-written : (shape : ImageShape) (bytes entries : List ℕ) (p e : ℕ) → map_in shape bytes ≡ Ok entries → p < shape.pages → 4 * shape.pages ≤ length bytes → e < 2 ^ 32
    → not (is_entry shape e) ≡ false → AllBut e entries → map_in shape (with_entry bytes p e) ≡ Ok (set entries p e)
map-written shape bytes entries p e is lt room fits good free =
    let g = map-good shape bytes entries is in
    good-map shape (with_entry bytes p e) (set entries p e)
    (record {
      entry = first-none-set 4 (λ e. not (is_entry shape e)) shape.page_size entries p e g.0.entry good;
      twice = again-none-set 4 shape.page_size entries p e g.0.twice free;
      tail = ap (λ l. first_place 1 (λ b. not (b == 0)) (shape.page_size + 4 * shape.pages) l) (drop-written bytes p e (4 * shape.pages) (omega arith) room) ∙ g.0.tail;
    })
    (entries-written shape.pages bytes p e lt room fits ∙ ap (λ l. set l p e) g.1)

-- each block has this size
abbrev pub Sizes : ℕ → List (List ℕ) → Type 0
Sizes size [] = Unit {0}
Sizes size (b ∷ bs) = (length b ≡ size) × Sizes size bs

pub sizes-all : (size : ℕ) (bs : List (List ℕ)) → All (λ b. length b ≡ size) bs → Sizes size bs
sizes-all size [] h = tt
sizes-all size (b ∷ bs) h = (h 0 [] (omega arith), sizes-all size bs (λ k d lt. h (suc k) d (omega arith)))

pub sizes-take : (size n : ℕ) (bs : List (List ℕ)) → Sizes size bs → Sizes size (take n bs)
sizes-take size zero bs s = tt
sizes-take size (suc n) [] s = tt
sizes-take size (suc n) (b ∷ bs) s = (s.0, sizes-take size n bs s.1)

pub sizes-drop : (size n : ℕ) (bs : List (List ℕ)) → Sizes size bs → Sizes size (drop n bs)
sizes-drop size zero bs s = s
sizes-drop size (suc n) [] s = tt
sizes-drop size (suc n) (b ∷ bs) s = sizes-drop size n bs s.1

-- the map's block k after its bytes changed in that block alone
pub concat-set : (size : ℕ) (bs : List (List ℕ)) (k : ℕ) (new : List ℕ) → Sizes size bs → k < length bs
    → take (k * size) new ≡ take (k * size) (concat bs) → drop (size + k * size) new ≡ drop (size + k * size) (concat bs)
    → concat (set bs k (take size (drop (k * size) new))) ≡ new
concat-set size [] k new s lt front back = absurd (omega arith)
concat-set size (b ∷ bs) zero new s lt front back =
    let e : 0 * size ≡ 0 = omega arith in let e1 : size + 0 * size ≡ size = omega arith in
    let q = rw e1 at back in
    rw e (ap (λ l. take size new ++ l) (sym (q ∙ drop_at b (concat bs) size s.0)) ∙ take-append-drop size new)
concat-set size (b ∷ bs) (suc k) new s lt front back =
    let e : suc k * size ≡ size + k * size = mul-suc k size in
    let f = rw e at front in
    let front1 : take (k * size) (drop size new) ≡ take (k * size) (concat bs) =
    sym (drop-take size (k * size) new) ∙ ap (λ l. drop size l) f ∙ drop-take size (k * size) (b ++ concat bs) ∙ ap (λ l. take (k * size) l) (drop_at b (concat bs) size s.0) in
    let head : take size new ≡ b =
    sym (take-take size (size + k * size) new (omega arith)) ∙ ap (λ l. take size l) f ∙ take-take size (size + k * size) (b ++ concat bs) (omega arith) ∙ take_at b (concat bs) size s.0 in
    let back1 : drop (size + k * size) (drop size new) ≡ drop (size + k * size) (concat bs) =
    drop-drop (size + k * size) size new ∙ (rw e at back) ∙ sym (drop-drop (size + k * size) size (b ++ concat bs)) ∙ ap (λ l. drop (size + k * size) l) (drop_at b (concat bs) size s.0) in
    let tail = concat-set size bs k (drop size new) s.1 (omega arith) front1 back1 in
    rw e (rw (← drop-drop (k * size) size new) (ap (λ l. b ++ l) tail ∙ ap (λ l. l ++ drop size new) (sym head) ∙ take-append-drop size new))
  where
    mul-suc : (k size : ℕ) → suc k * size ≡ size + k * size
    mul-suc k size = grind arith

-- an entry is a hole or a data block, so none names a block of the front
pub not-front : (shape : ImageShape) (j : ℕ) (place : ℕ) (es : List ℕ) → first_place 4 (λ e. not (is_entry shape e)) place es ≡ None → j ≢ 0 → j < first_data shape → AllBut j es
not-front shape j place [] h nz lt = tt
not-front shape j place (e ∷ es) h nz lt =
    let k = pick-none (not (is_entry shape e)) place (first_place 4 (λ e. not (is_entry shape e)) (place + 4) es) h in
    ((λ q. elim (cases_eq e 0) [ inl z ↦ nz (sym q ∙ z) | inr ne ↦ (let d = entry-named shape e k.0 ne in let low = d.low in omega arith) ]), not-front shape j (place + 4) es k.1 nz lt)
