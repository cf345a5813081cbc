-- Where calls go.
use Rattle.std.proofs.Common.{◌≡◌, ℕ, ◌+◌, ◌-◌, ◌*◌, ◌/◌, ◌%◌, ◌<◌, ◌≤◌, length, ap, ◌∙◌, arith, inl, inr}
use Rattle.std.proofs.Math.Nat.{div-mul-le_self}
use Rattle.std.proofs.lemmas.Nat.{mod_below, le-div, mod-mul-add}
use Rattle.std.proofs.lemmas.Bool.{cases_lt}
use Rattle.std.proofs.lemmas.Bool.Decides.{nat_tests}
use Rattle.script_gen.specs.declared.shape.Shape.{Shape}
use Rattle.script_gen.specs.Shape.{IsShape, pages_of}
use Rattle.script_gen.specs.Draw.{draw}
use Rattle.script_gen.specs.Aim.{own_pages, page_by, offset_by, file_by, aim_at}
use Rattle.script_gen.specs.Within.{IsWithin}
use Rattle.script_gen.proofs.ShapeLaws.{page-sized, file-is}

-- a page of a client's own
pub record Own (pages client drawn : ℕ) : Type 0 where
  pub some : 0 < own_pages pages client
  pub within : client + 8 * (drawn % own_pages pages client) < pages

pub own-page : (pages client drawn : ℕ) → client < pages → Own pages client drawn
own-page pages client drawn lt =
    let n = own_pages pages client in
    let some : 1 ≤ n = le-div 1 (pages - client + 7) 8 (omega arith) (omega arith) in
    let most : n * 8 ≤ pages - client + 7 = div-mul-le_self (pages - client + 7) 8 in
    let below : drawn % n < n = mod_below drawn n some in
    record { some = some; within = omega arith }

pub page-within : (pages client drawn : ℕ) → 1 ≤ pages → page_by pages client drawn < pages
unfolding page_by
page-within pages client drawn some = elim (cases_lt client pages) [
  | inl lt ↦ let own = own-page pages client drawn lt in let within = own.within in grind (arith, nat_tests)
  | inr ge ↦ let low : drawn % pages < pages = mod_below drawn pages some in grind (arith, nat_tests)
]

pub offset-within : (size quarter drawn : ℕ) → size ≡ 4 * quarter → 1 ≤ quarter → offset_by size drawn + 4 ≤ size
unfolding offset_by
offset-within size quarter drawn four some =
    let q : size / 4 ≡ quarter = omega arith in
    let low : drawn % (size / 4) < size / 4 = mod_below drawn (size / 4) (omega arith) in
    omega arith

pub aim-within : (shape : Shape) (client state : ℕ) → IsShape shape → IsWithin shape (aim_at shape client state)
aim-within shape client state is =
    let sized = page-sized shape.page_size is.page_size in
    let file : file_by shape (draw state 1) < length shape.files = mod_below (draw state 1) (length shape.files) (let some = is.some_file in omega arith) in
    let pages = (file-is shape (file_by shape (draw state 1)) is file).some in
    record {
      file = file;
      page = page-within (pages_of shape (file_by shape (draw state 1))) client (draw state 2) pages;
      off = offset-within shape.page_size sized.quarter (draw state 3) sized.four (let low = sized.low in let four = sized.four in omega arith);
    }

-- a page of a client's own has the client's number by eight
pub own-by-eight : (pages client drawn : ℕ) → client < 8 → client < pages → page_by pages client drawn % 8 ≡ client
unfolding page_by
own-by-eight pages client drawn few lt =
    let r = drawn % own_pages pages client in
    let e : client + 8 * r ≡ r * 8 + client = omega arith in
    let own : (client + 8 * r) % 8 ≡ client = ap (λ n. n % 8) e ∙ mod-mul-add r 8 client few in
    grind (arith, nat_tests)
