-- What the limits of a shape give.
use Rattle.std.proofs.Common.{◌≡◌, ℕ, zero, suc, ◌+◌, ◌-◌, ◌*◌, ◌%◌, ◌^◌, ◌<◌, ◌≤◌, List, [], ◌∷◌, length, get_or, arith, ◌∙◌, ap}
use Rattle.std.proofs.Math.Nat.{pow-le-pow_right}
use Rattle.std.proofs.lemmas.Nat.{pow-add, mod_below}
use Rattle.std.specs.List.{AllByRecursion}
use Rattle.hist_plain.specs.Plain.{IsPageSize}
use Rattle.script_gen.specs.declared.shape.Shape.{Shape}
use Rattle.script_gen.specs.Shape.{IsShape, IsFile, IsSeat, no_file, no_seat, seat_of}

-- a page size is a fourfold, from 64 to 4,096
pub record Sized (size : ℕ) : Type 0 where
  pub low : 64 ≤ size
  pub high : size ≤ 4096
  pub quarter : ℕ
  pub four : size ≡ 4 * quarter

pub page-sized : (size : ℕ) → IsPageSize size → Sized size
page-sized size (k, low, high, is) =
    let a : 2 ^ 6 ≤ 2 ^ k = pow-le-pow_right {n = 2} (omega arith) {i = 6} {j = k} low in
    let b : 2 ^ k ≤ 2 ^ 12 = pow-le-pow_right {n = 2} (omega arith) {i = k} {j = 12} high in
    let e : k ≡ 2 + (k - 2) = omega arith in
    let f : 2 ^ k ≡ 4 * 2 ^ (k - 2) = ap (λ n. 2 ^ n) e ∙ pow-add 2 2 (k - 2) in
    record { low = omega arith; high = omega arith; quarter = 2 ^ (k - 2); four = is ∙ f }

-- what holds of each holds of the one at a place
pub all-at : {A : Type 0} (P : A → Type 0) (xs : List A) (i : ℕ) (d : A) → i < length xs → AllByRecursion P xs → P (get_or xs i d)
all-at P [] i d lt all = absurd (omega arith)
all-at P (x ∷ xs) zero d lt all = all.0
all-at P (x ∷ xs) (suc i) d lt all = all-at P xs i d (omega arith) all.1

pub file-is : (shape : Shape) (file : ℕ) → IsShape shape → file < length shape.files → IsFile (get_or shape.files file no_file)
file-is shape file is lt = all-at IsFile shape.files file no_file lt is.files

pub seat-is : (shape : Shape) (client : ℕ) → IsShape shape → IsSeat (seat_of shape client)
seat-is shape client is = all-at IsSeat shape.seats (client % length shape.seats) no_seat (mod_below client (length shape.seats) (let some = is.some_seat in omega arith)) is.seats
