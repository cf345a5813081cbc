-- What the limits of a shape give.
use Rattle.std.proofs.Common.{◌≡◌, ℕ, ◌+◌, ◌-◌, ◌*◌, ◌^◌, ◌≤◌, inl, inr, arith, ◌∙◌, ap}
use Rattle.std.proofs.Math.Nat.{pow-le-pow_right}
use Rattle.std.proofs.lemmas.Nat.{pow-add, mul-le}
use Rattle.std.proofs.lemmas.Bool.{cases_lt}
use Rattle.std.proofs.lemmas.Grind.{div_ceil_times}
use Rattle.disk_format.specs.declared.shape.ImageShape.{ImageShape}
use Rattle.disk_format.specs.Shape.{IsPageSize, IsShape, map_blocks, first_data}

-- a page size is a fourfold, from 64 to 4,096
pub record Sized (size : ℕ) : Type 0 where
  pub low : 64 ≤ size
  pub high : size ≤ 4096
  pub quarter : ℕ
  pub four : size ≡ 4 * quarter

pub page-sized : (size : ℕ) → IsPageSize size → Sized size
page-sized size (k, low, high, is) =
    let a : 2 ^ 6 ≤ 2 ^ k = pow-le-pow_right {n = 2} (omega arith) {i = 6} {j = k} low in
    let b : 2 ^ k ≤ 2 ^ 12 = pow-le-pow_right {n = 2} (omega arith) {i = k} {j = 12} high in
    let e : k ≡ 2 + (k - 2) = omega arith in
    let f : 2 ^ k ≡ 4 * 2 ^ (k - 2) = ap (λ n. 2 ^ n) e ∙ pow-add 2 2 (k - 2) in
    record { low = omega arith; high = omega arith; quarter = 2 ^ (k - 2); four = is ∙ f }

-- how many blocks and bytes there are
pub record Fits (shape : ImageShape) : Type 0 where
  pub sized : Sized shape.page_size
  pub some : 1 ≤ shape.pages
  pub few : shape.pages ≤ 1024
  pub blocks : map_blocks shape ≤ 64
  pub room : 4 * shape.pages ≤ map_blocks shape * shape.page_size
  pub front : first_data shape * shape.page_size ≤ 65 * 4096
  pub split : first_data shape * shape.page_size ≡ shape.page_size + map_blocks shape * shape.page_size

pub few_blocks : (shape : ImageShape) → IsShape shape → map_blocks shape ≤ 64
unfolding map_blocks
few_blocks shape is =
    let z = page-sized shape.page_size is.size in
    let t = div_ceil_times (4 * shape.pages) shape.page_size (omega arith) in
    let few : shape.pages ≤ 1024 = is.few in
    elim (cases_lt (map_blocks shape) 65) [
      | inl below ↦ omega arith
      | inr above ↦ absurd (let p = mul-le 65 shape.page_size (map_blocks shape) shape.page_size above (le-self shape.page_size) in omega (arith, t.1))
    ]
  where
    le-self : (n : ℕ) → n ≤ n
    le-self n = omega arith

pub shape_fits : (shape : ImageShape) → IsShape shape → Fits shape
unfolding map_blocks
shape_fits shape is =
    let z = page-sized shape.page_size is.size in
    let t = div_ceil_times (4 * shape.pages) shape.page_size (omega arith) in
    let some : 1 ≤ shape.pages = is.some in
    let few : shape.pages ≤ 1024 = is.few in
    let m : map_blocks shape ≤ 64 = few_blocks shape is in
    let f : first_data shape * shape.page_size ≤ 65 * 4096 = mul-le (first_data shape) shape.page_size 65 4096 (omega (arith, m)) z.high in
    record { sized = z; some = some; few = few; blocks = m; room = t.0; front = f; split = one-more (map_blocks shape) shape.page_size }
  where
    one-more : (m p : ℕ) → (1 + m) * p ≡ p + m * p
    one-more m p = grind arith

-- a block has room for a header
pub size_low : (shape : ImageShape) → IsShape shape → 64 ≤ shape.page_size
size_low shape is = (page-sized shape.page_size is.size).low

pub size_high : (shape : ImageShape) → IsShape shape → shape.page_size ≤ 4096
size_high shape is = (page-sized shape.page_size is.size).high

pub ruleset sizes = (size_low, size_high, few_blocks)
