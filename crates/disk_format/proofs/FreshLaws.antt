-- A fresh image: its header, and a map of zeros.
use Rattle.std.proofs.Common.{◌≡◌, ℕ, zero, suc, ◌+◌, ◌-◌, ◌*◌, ◌^◌, ◌<◌, ◌≤◌, Bool, false, not, List, [], ◌∷◌, ◌++◌, drop, replicate, None, Ok, refl, ap, arith, ◌==◌}
use Rattle.std.proofs.lemmas.List.{drop-replicate}
use Rattle.std.proofs.lemmas.Bool.{eq-eqb, lt-ltb}
use Rattle.byteorder.specs.Endian.{big_bytes}
use Rattle.byteorder.specs.Numbers.{big_number-reads_back}
use Rattle.disk_format.specs.declared.shape.ImageShape.{ImageShape}
use Rattle.disk_format.specs.Shape.{IsShape}
use Rattle.disk_format.specs.Table.{first_place, again_place}
use Rattle.disk_format.specs.VersionOne.{number_at, long_number_at, header, header_in, entries_in, is_entry, map_in}
use Rattle.disk_format.proofs.ShapeLaws.{shape_fits}
use Rattle.disk_format.proofs.MapLaws.{good-map}

-- a test that zeros do not pass
pub first-zeros : (step : ℕ) (p : ℕ → Bool) (place n : ℕ) → p 0 ≡ false → first_place step p place (replicate n 0) ≡ None
first-zeros step p place zero h = refl
first-zeros step p place (suc n) h = rw h (first-zeros step p (place + step) n h)

again-zeros : (step : ℕ) (seen : List ℕ) (place n : ℕ) → again_place step seen place (replicate n 0) ≡ None
again-zeros step seen place zero = refl
again-zeros step seen place (suc n) = again-zeros step (0 ∷ seen) (place + step) n

pub entries-zeros : (n m : ℕ) → 4 * n ≤ m → entries_in n (replicate m 0) ≡ replicate n 0
unfolding number_at
entries-zeros zero m room = refl
entries-zeros (suc n) m room =
    let k = m - 4 in
    let e : m ≡ suc (suc (suc (suc k))) = omega arith in
    rw e (ap (λ l. 0 ∷ l) (entries-zeros n k (omega arith)))

-- a map of zeros has only holes
pub map-zeros : (shape : ImageShape) (m : ℕ) → 4 * shape.pages ≤ m → map_in shape (replicate m 0) ≡ Ok (replicate shape.pages 0)
map-zeros shape m room =
    good-map shape (replicate m 0) (replicate shape.pages 0)
    (record {
      entry = first-zeros 4 (λ e. not (is_entry shape e)) shape.page_size shape.pages refl;
      twice = again-zeros 4 [] shape.page_size shape.pages;
      tail = rw (drop-replicate {X = ℕ} (4 * shape.pages) m 0) (first-zeros 1 (λ b. not (b == 0)) (shape.page_size + 4 * shape.pages) (m - 4 * shape.pages) refl);
    })
    (entries-zeros shape.pages m room)

-- a block with the right fields is a header
header-good : (shape : ImageShape) (block : List ℕ) (g : ℕ) → 1 ≤ g → g < 2 ^ 63
    → number_at 0 block ≡ 0x53505247 → number_at 4 block ≡ 1 → number_at 8 block ≡ shape.page_size → number_at 12 block ≡ shape.pages → long_number_at 16 block ≡ g
    → first_place 1 (λ b. not (b == 0)) 24 (drop 24 block) ≡ None → header_in shape block ≡ Ok (record { generation = g })
header-good shape block g low high a b c d e z =
    rw (a, b, c, d, e, z, eq-eqb shape.page_size shape.page_size refl, eq-eqb shape.pages shape.pages refl, lt-ltb 0 g low, lt-ltb g (2 ^ 63) high) refl

-- a header that was written is read again
pub header-reads : (shape : ImageShape) (g : ℕ) → IsShape shape → 1 ≤ g → g < 2 ^ 63 → header_in shape (header shape g) ≡ Ok (record { generation = g })
unfolding number_at long_number_at
header-reads shape g is low high =
    let f = shape_fits shape is in
    let few = f.few in
    let size = f.sized.high in
    let tail : List ℕ = replicate (shape.page_size - 24) 0 in
    let n3 : List ℕ = big_bytes 8 g ++ tail in
    let n2 : List ℕ = big_bytes 4 shape.pages ++ n3 in
    let n1 : List ℕ = big_bytes 4 shape.page_size ++ n2 in
    let n0 : List ℕ = big_bytes 4 1 ++ n1 in
    let a : number_at 0 (header shape g) ≡ 0x53505247 = big_number-reads_back 4 0x53505247 n0 (omega arith) in
    let b : number_at 4 (header shape g) ≡ 1 = big_number-reads_back 4 1 n1 (omega arith) in
    let c : number_at 8 (header shape g) ≡ shape.page_size = big_number-reads_back 4 shape.page_size n2 (omega arith) in
    let d : number_at 12 (header shape g) ≡ shape.pages = big_number-reads_back 4 shape.pages n3 (omega arith) in
    let e : long_number_at 16 (header shape g) ≡ g = big_number-reads_back 8 g tail (omega arith) in
    header-good shape (header shape g) g low high a b c d e (first-zeros 1 (λ b. not (b == 0)) 24 (shape.page_size - 24) refl)
