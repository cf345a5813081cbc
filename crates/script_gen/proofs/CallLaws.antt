-- Each call that is made is one that a text can have.
use Rattle.std.proofs.Common.{◌≡◌, ℕ, ◌*◌, ◌<◌, ◌≤◌, List, [], ◌∷◌, Bool, true, false, cond, ◌&&◌, IsTrue, refl, arith, rules}
use Rattle.std.proofs.lemmas.Nat.{mul-le}
use Rattle.text_words.specs.Words.{IsName, IsPath, IsHexBytes}
use Rattle.script_text.specs.declared.script.Call.{Call}
use Rattle.script_text.specs.declared.script.Call.TheVariants as calls
use Rattle.script_text.specs.Grammar.{IsCall, IsNumber, IsAddress}
use Rattle.script_gen.specs.declared.shape.Shape.{Shape}
use Rattle.script_gen.specs.declared.shape.ShapeFile.{ShapeFile}
use Rattle.script_gen.specs.declared.shape.ShapeSeat.{ShapeSeat}
use Rattle.script_gen.specs.declared.aim.Aim.{Aim}
use Rattle.script_gen.specs.Shape.{IsShape, IsFile, IsSeat, pages_of, seat_of}
use Rattle.script_gen.specs.Access.{object_name, start_of, address_of, bytes_of, read_by, write_by, open_by, map_by}
use Rattle.script_gen.specs.Aim.{aim_at}
use Rattle.script_gen.specs.Draw.{draw}
use Rattle.script_gen.specs.Made.{client_of, writes_at, call_by, call_at}
use Rattle.script_gen.specs.Within.{IsWithin}
use Rattle.script_gen.specs.Laws.{is_made}
use Rattle.script_gen.proofs.ShapeLaws.{page-sized, file-is}
use Rattle.script_gen.proofs.AimLaws.{aim-within}
use Rattle.script_gen.proofs.NameLaws.{object-named, region-named}

-- a call that a text can have, and that is generated
abbrev pub IsGood : Call → Type 0
IsGood call = IsCall call × IsTrue (is_made call)

pub choose : {A : Type 0} (P : A → Type 0) (b : Bool) (x y : A) → P x → P y → P (cond b x y)
choose P true x y p q = p
choose P false x y p q = q

both-true : (a b : Bool) → a ≡ true → b ≡ true → (true && true && (a && b)) ≡ true
both-true a b p q = cc

path-is : (a b : List ℕ) → IsName a → IsName b → IsPath (a ∷ b ∷ [])
path-is a b p q = grind (rules, p, q)

pub open-is : (seat : ShapeSeat) (number : ℕ) (file : ShapeFile) → number < 100 → IsSeat seat → IsFile file → IsGood (open_by seat number file)
open-is seat number file few sits is = ((object-named number few, path-is seat.view file.name sits.view is.name), refl)

pub map-is : (number : ℕ) (file : ShapeFile) → number < 100 → IsFile file → IsGood (map_by number file)
map-is number file few is =
    let pages = is.few in
    let address : IsAddress (start_of number) = omega arith in
    let small : IsNumber file.pages = omega arith in
    ((region-named number few, object-named number few, address, small), refl)

-- what a place within a page of a small file gives
record Small (page_size : ℕ) (aim : Aim) : Type 0 where
  pub file : aim.file < 100
  pub page : aim.page ≤ 1024
  pub off : aim.off < 4096
  pub size : page_size ≤ 4096

address-is : (page_size : ℕ) (aim : Aim) → Small page_size aim → IsAddress (address_of page_size aim)
address-is page_size aim is =
    let most : aim.page * page_size ≤ 1024 * 4096 = mul-le aim.page page_size 1024 4096 is.page is.size in
    let file = is.file in
    let off = is.off in
    omega arith

bytes-are : (n : ℕ) → IsHexBytes (bytes_of n)
bytes-are n = (refl, search rules)

read-is : (maps : Bool) (page_size : ℕ) (aim : Aim) → Small page_size aim → IsGood (read_by maps page_size aim)
read-is maps page_size aim is =
    let page = is.page in
    let off = is.off in
    let p : IsNumber aim.page = omega arith in
    let o : IsNumber aim.off = omega arith in
    let four : IsNumber 4 = omega arith in
    choose IsGood maps (calls.Load (address_of page_size aim) 4) (calls.Read (object_name aim.file) aim.page aim.off 4)
    ((address-is page_size aim is, four), refl) ((object-named aim.file is.file, p, o, four), refl)

write-is : (maps : Bool) (page_size : ℕ) (aim : Aim) (n : ℕ) → Small page_size aim → IsGood (write_by maps page_size aim n)
write-is maps page_size aim n is =
    let page = is.page in
    let off = is.off in
    let p : IsNumber aim.page = omega arith in
    let o : IsNumber aim.off = omega arith in
    choose IsGood maps (calls.Store (address_of page_size aim) (bytes_of n)) (calls.Write (object_name aim.file) aim.page aim.off (bytes_of n))
    ((address-is page_size aim is, bytes-are n), refl) ((object-named aim.file is.file, p, o, bytes-are n), refl)

by-is : (seat : ShapeSeat) (page_size : ℕ) (b : Bool) (aim : Aim) (state : ℕ) → Small page_size aim → IsGood (call_by seat page_size b aim state)
by-is seat page_size true aim state is = write-is seat.maps page_size aim (draw state 4) is
by-is seat page_size false aim state is = read-is seat.maps page_size aim is

small-is : (shape : Shape) (aim : Aim) → IsShape shape → IsWithin shape aim → Small shape.page_size aim
small-is shape aim is within =
    let sized = page-sized shape.page_size is.page_size in
    let high = sized.high in
    let few = is.few_files in
    let file = within.file in
    let page = within.page in
    let off = within.off in
    let pages : pages_of shape aim.file ≤ 1024 = (file-is shape aim.file is file).few in
    record { file = omega arith; page = omega arith; off = omega arith; size = high }

pub call-is : (shape : Shape) (number state : ℕ) → IsShape shape → IsGood (call_at shape number state)
unfolding call_at
call-is shape number state is =
    by-is (seat_of shape (client_of number)) shape.page_size (writes_at shape number state) (aim_at shape (client_of number) state) state
    (small-is shape (aim_at shape (client_of number) state) is (aim-within shape (client_of number) state is))
