-- What a range within one page is to that page's bytes, and to the others'.
use Rattle.std.specs.Prelude.{◌&&◌, IsTrue, nat_le, nat_lt}
use Rattle.std.proofs.Common.{◌≡◌, ◌≢◌, ℕ, ◌+◌, ◌-◌, ◌*◌, ◌<◌, ◌≤◌, ◌⊎◌, inl, inr, sym, ◌∙◌, ap, refl, arith, Bool, true, false, List, [], ◌++◌, length, take, drop, replicate, append_assoc, append-nil, length-append, length-drop}
use Rattle.std.proofs.Math.Seq.{take-append-add}
use Rattle.std.proofs.lemmas.Bool.{leb-true, ltb-true}
use Rattle.std.proofs.lemmas.List.{take-append-le, length-take, drop-append-le, drop-take, drop-drop, take-append-drop, drop_all, length-replicate}
use Rattle.std.proofs.lemmas.Slice.{drop-append-drop}
use Rattle.hist_plain.specs.Event.{is_in_page}
use Rattle.hist_plain.specs.Plain.{overwritten, place_of, bytes_at}
use Rattle.hist_plain.specs.History.{page_in}

-- the first bytes of the first bytes
take_within : (n m : ℕ) (xs : List ℕ) → n ≤ m → m ≤ length xs → take n (take m xs) ≡ take n xs
take_within n m xs le fits =
    let long : n ≤ length (take m xs) = omega (arith, length-take m xs) in
    sym (take-append-le n (take m xs) (drop m xs) long) ∙ ap (take n) (take-append-drop m xs)

-- the bytes in front of a place and those after it, where a range was written
own_part : (size k off m : ℕ) (bs new : List ℕ) → size ≡ off + length new + m → k + size ≤ length bs →
    take size (drop k (overwritten bs (k + off) new)) ≡ overwritten (take size (drop k bs)) off new
own_part size k off m bs new e fits =
    let d : List ℕ = drop k bs in
    let d_long : size ≤ length d = omega (arith, length-drop k bs, fits) in
    let front : k ≤ length (take (k + off) bs) = omega (arith, length-take (k + off) bs, fits, e) in
    let rest : List ℕ = drop (k + off + length new) bs in
    let left : drop k (overwritten bs (k + off) new) ≡ take off d ++ (new ++ rest) =
    ap (drop k) (append_assoc (take (k + off) bs) new rest)
    ∙ drop-append-le k (take (k + off) bs) (new ++ rest) front
    ∙ ap (λ (t : List ℕ). t ++ (new ++ rest)) (drop-take k off bs) in
    let off_long : length (take off d) ≡ off = omega (arith, length-take off d, d_long, e) in
    let both_long : length (take off d ++ new) ≡ off + length new = length-append (take off d) new ∙ ap (λ (n : ℕ). n + length new) off_long in
    let cut : take size ((take off d ++ new) ++ rest) ≡ (take off d ++ new) ++ take m rest =
    ap (λ (n : ℕ). take n ((take off d ++ new) ++ rest)) (e ∙ ap (λ (n : ℕ). n + m) (sym both_long))
    ∙ take-append-add (take off d ++ new) rest m in
    let tail : take m rest ≡ drop (off + length new) (take size d) =
    ap (take m) (ap (λ (n : ℕ). drop n bs) (let s : k + off + length new ≡ k + (off + length new) = omega arith in s) ∙ sym (drop-drop (off + length new) k bs))
    ∙ sym (drop-take (off + length new) m d)
    ∙ ap (λ (n : ℕ). drop (off + length new) (take n d)) (sym e) in
    let head : take off d ≡ take off (take size d) = sym (take_within off size d (omega (arith, e)) d_long) in
    ap (take size) (left ∙ sym (append_assoc (take off d) new rest))
    ∙ cut
    ∙ ap (λ (t : List ℕ). (take off d ++ new) ++ t) tail
    ∙ ap (λ (t : List ℕ). (t ++ new) ++ drop (off + length new) (take size d)) head

zero_off : (size page : ℕ) → place_of size page 0 ≡ page * size
zero_off size page = omega arith

-- a write within the page is that write of the page's bytes
pub page_in-own : (size page off : ℕ) (bytes new : List ℕ) → off + length new ≤ size → page * size + size ≤ length bytes →
    page_in size (overwritten bytes (place_of size page off) new) page ≡ overwritten (page_in size bytes page) off new
page_in-own size page off bytes new within fits =
    let parts : size ≡ off + length new + (size - (off + length new)) = omega (arith, within) in
    ap (λ (k : ℕ). take size (drop k (overwritten bytes (page * size + off) new))) (zero_off size page)
    ∙ own_part size (page * size) off (size - (off + length new)) bytes new parts fits
    ∙ ap (λ (k : ℕ). overwritten (take size (drop k bytes)) off new) (sym (zero_off size page))

in_front : (size k : ℕ) (a b : List ℕ) → k + size ≤ length a → take size (drop k (a ++ b)) ≡ take size (drop k a)
in_front size k a b h =
    let one : k ≤ length a = omega arith in
    let two : size ≤ length (drop k a) = omega (arith, length-drop k a) in
    ap (take size) (drop-append-le k a b one) ∙ take-append-le size (drop k a) b two

-- a page that lies in front of what was written, or behind it, is as it was
page_in-apart : (size page place : ℕ) (bytes new : List ℕ) → place + length new ≤ length bytes → (page * size + size ≤ place) ⊎ (place + length new ≤ page * size)
    → page_in size (overwritten bytes place new) page ≡ page_in size bytes page
page_in-apart size page place bytes new le (inl before) =
    let fits : place_of size page 0 + size ≤ length (take place bytes) = omega (arith, length-take place bytes, before, le) in
    ap (λ (t : List ℕ). page_in size t page) (append_assoc (take place bytes) new (drop (place + length new) bytes))
    ∙ in_front size (place_of size page 0) (take place bytes) (new ++ drop (place + length new) bytes) fits
    ∙ sym (ap (λ (t : List ℕ). page_in size t page) (sym (take-append-drop place bytes)) ∙ in_front size (place_of size page 0) (take place bytes) (drop place bytes) fits)
page_in-apart size page place bytes new le (inr behind) =
    let at : place + length new ≤ place_of size page 0 = omega arith in
    let len : length (take place bytes ++ new) ≡ place + length new = omega (arith, length-append (take place bytes) new, length-take place bytes, le) in
    ap (take size) (drop-append-drop (place + length new) bytes (take place bytes ++ new) (place_of size page 0) at len)

pub below : (size page n : ℕ) → page < n → page * size + size ≤ n * size
below size page n lt = grind arith

order : (a b : ℕ) → a ≢ b → (a < b) ⊎ (b < a)
order a b d = grind arith

-- a range within another page
apart : (size page p off len : ℕ) → p ≢ page → off + len ≤ size → (page * size + size ≤ place_of size p off) ⊎ (place_of size p off + len ≤ page * size)
apart size page p off len d le = elim (order p page d) [
  | inl lt ↦ let b : p * size + size ≤ page * size = below size p page lt in inr (omega arith)
  | inr lt ↦ let b : page * size + size ≤ p * size = below size page p lt in inl (omega arith)
]

-- a write within another page leaves this one
pub page_in-other : (size page p off : ℕ) (bytes new : List ℕ) → p ≢ page → off + length new ≤ size → place_of size p off + length new ≤ length bytes →
    page_in size (overwritten bytes (place_of size p off) new) page ≡ page_in size bytes page
page_in-other size page p off bytes new d within fits = page_in-apart size page (place_of size p off) bytes new fits (apart size page p off (length new) d within)

pub page_long : (size page : ℕ) (bytes : List ℕ) → page * size + size ≤ length bytes → length (page_in size bytes page) ≡ size
page_long size page bytes fits = omega (arith, length-take size (drop (place_of size page 0) bytes), length-drop (place_of size page 0) bytes, fits)

-- zeros over the whole page
pub page_in-cleared : (size page : ℕ) (bytes : List ℕ) → page * size + size ≤ length bytes → page_in size (overwritten bytes (place_of size page 0) (replicate size 0)) page ≡ replicate size 0
page_in-cleared size page bytes fits =
    let zeros : length {A = ℕ} (replicate size 0) ≡ size = length-replicate size 0 in
    let old : List ℕ = page_in size bytes page in
    let rest : drop (0 + length {A = ℕ} (replicate size 0)) old ≡ [] = drop_all _ old (omega (arith, zeros, page_long size page bytes fits)) in
    page_in-own size page 0 bytes (replicate size 0) (omega (arith, zeros)) fits
    ∙ ap (λ (t : List ℕ). (take 0 old ++ replicate size 0) ++ t) rest
    ∙ append-nil (take 0 old ++ replicate size 0)

-- a range of the page is a range of its bytes
pub range_in : (size page off len : ℕ) (x : List ℕ) → off + len ≤ size → page * size + size ≤ length x → bytes_at x (place_of size page off) len ≡ bytes_at (page_in size x page) off len
range_in size page off len x within fits =
    let d : List ℕ = drop (place_of size page 0) x in
    let d_long : size ≤ length d = omega (arith, length-drop (place_of size page 0) x, fits) in
    let parts : size ≡ off + (size - off) = omega (arith, within) in
    let rest_long : size - off ≤ length (drop off d) = omega (arith, length-drop off d, d_long) in
    ap (λ (n : ℕ). take len (drop n x)) (let z : place_of size page off ≡ place_of size page 0 + off = omega arith in z)
    ∙ ap (take len) (sym (drop-drop off (place_of size page 0) x))
    ∙ sym (take_within len (size - off) (drop off d) (omega (arith, within)) rest_long)
    ∙ ap (take len) (sym (drop-take off (size - off) d) ∙ ap (λ (n : ℕ). drop off (take n d)) (sym parts))

both : (a b : Bool) → IsTrue (a && b) → IsTrue a × IsTrue b
both true b h = (refl, h)
both false b h = absurd cc

-- what an access that fits asks
pub within_page : (size pages page off len : ℕ) → IsTrue (is_in_page size pages page off len) → off + len ≤ size
within_page size pages page off len h = leb-true _ _ (both (nat_lt page pages && nat_le 1 len) (nat_le (off + len) size) h).1

pub inside_pages : (size pages page off len : ℕ) → IsTrue (is_in_page size pages page off len) → page < pages
inside_pages size pages page off len h = ltb-true _ _ (both (nat_lt page pages) (nat_le 1 len) (both (nat_lt page pages && nat_le 1 len) (nat_le (off + len) size) h).0).0
