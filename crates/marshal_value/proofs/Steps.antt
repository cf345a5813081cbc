-- Steps of reading.
use Rattle.std.proofs.Common.{◌≡◌, ℕ, ◌+◌, ◌^◌, ◌<◌, List, ◌++◌, length, drop, Result, Ok, Err, refl, sym, ap, ◌∙◌, add_assoc, add-zero}
use Rattle.std.proofs.lemmas.List.{drop-drop, drop_at}
use Rattle.marshal_buf.specs.declared.door.Door.{Door}
use Rattle.marshal_buf.specs.Numbers.{number_bytes}
use Rattle.marshal_buf.specs.Reading.{Reading, rest_of, past}
use Rattle.marshal_buf.proofs.Readings.{number_is_read, part_is_read}
use Rattle.marshal_value.specs.Reading.{Reads, ◌>>=◌, or_short, number_from, part_from}

-- ---- places

pub rest_past : (n d : ℕ) (r : Reading) → rest_of (past n d r) ≡ drop n (rest_of r)
rest_past n d r = sym (drop-drop n r.at r.input)

pub doors_past : (n d : ℕ) (r : Reading) → drop (past n d r).next r.doors ≡ drop d (drop r.next r.doors)
doors_past n d r = sym (drop-drop d r.next r.doors)

pub past_past : (a d b e : ℕ) (r : Reading) → past b e (past a d r) ≡ past (a + b) (d + e) r
past_past a d b e r =
    ap (λ (n : ℕ). record r { at = n; next = (r.next + d) + e }) (add_assoc r.at a b)
    ∙ ap (λ (n : ℕ). record r { at = r.at + (a + b); next = n }) (add_assoc r.next d e)

pub past_nothing : (r : Reading) → past 0 0 r ≡ r
past_nothing r =
    ap (λ (n : ℕ). record r { at = n; next = r.next + 0 }) (add-zero r.at)
    ∙ ap (λ (n : ℕ). record r { next = n }) (add-zero r.next)

-- what comes behind a front
pub rest_behind : (front more : List ℕ) (n d : ℕ) (r : Reading) → length front ≡ n → rest_of r ≡ front ++ more → rest_of (past n d r) ≡ more
rest_behind front more n d r len e = rest_past n d r ∙ ap (drop n) e ∙ drop_at front more n len

pub doors_behind : (front more : List Door) (n d : ℕ) (r : Reading) → length front ≡ d → drop r.next r.doors ≡ front ++ more → drop (past n d r).next r.doors ≡ more
doors_behind front more n d r len e = doors_past n d r ∙ ap (drop d) e ∙ drop_at front more d len

-- ---- results

pub bind_ok : {A B E : Type 0} (r : Result A E) (f : A → Result B E) (y : B) → (r >>= f) ≡ Ok y → (x : A) × (r ≡ Ok x) × (f x ≡ Ok y)
bind_ok (Ok x) f y e = (x, refl, e)
bind_ok (Err d) f y e = absurd cc

abbrev pub read : {X : Type 0} → X → Reading → Reads X
read x r = Ok (x, r)

pub read_is : {X : Type 0} (x y : X) (r s : Reading) → read x r ≡ read y s → (x ≡ y) × (r ≡ s)
read_is {X = X} x y r s e =
    let same : (x, r) ≡ (y, s) = cc in
    (ap (λ (p : X × Reading). p.0) same, ap (λ (p : X × Reading). p.1) same)

-- ---- numbers and parts that come next

pub number_again : (n x : ℕ) (more : List ℕ) (r : Reading) → x < 256 ^ n → rest_of r ≡ number_bytes n x ++ more → number_from n r ≡ Ok (x, past n 0 r)
unfolding number_from
number_again n x more r fits e = ap (or_short (past n 0 r)) (number_is_read r n x more fits e)

pub part_again : (part more : List ℕ) (r : Reading) → rest_of r ≡ part ++ more → part_from (length part) r ≡ Ok (part, past (length part) 0 r)
unfolding part_from
part_again part more r e = ap (or_short (past (length part) 0 r)) (part_is_read r part more e)
