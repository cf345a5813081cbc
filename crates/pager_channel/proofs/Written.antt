-- What was written is read again.
use Rattle.std.proofs.Common.{◌≡◌, ℕ, ◌+◌, ◌^◌, ◌<◌, ◌≤◌, true, ltb, List, ◌∷◌, ◌++◌, length, get_or, drop, Some, Ok, refl, sym, ap, ◌∙◌, append_assoc, arith}
use Rattle.std.proofs.lemmas.Bool.{le-leb}
use Rattle.std.proofs.lemmas.Bool.Decides.{nat_tests}
use Rattle.std.proofs.lemmas.List.{drop_at, drop-drop, length-append, get_or-drop}
use Rattle.marshal_buf.specs.Numbers.{number_bytes, number_of}
use Rattle.marshal_buf.proofs.NumberLaws.{length-number_bytes, number_of-number_bytes}
use Rattle.pager_channel.specs.declared.front.Head.{Head}
use Rattle.pager_channel.specs.declared.numbers.Ops.{Ops}
use Rattle.pager_channel.specs.declared.operation.Operation.{Operation}
use Rattle.pager_channel.specs.Size.{data_size}
use Rattle.pager_channel.specs.Seen.{FrameSeen}
use Rattle.pager_channel.specs.Frame.{IsHead, IsFrame, frame_bytes, first_part, second_part}
use Rattle.pager_channel.specs.Numbers.{which_of}
use Rattle.pager_channel.specs.Reading.{head_at, pad_at, head_tested, rest_tested, frame_from, frame_at}

-- the bytes of a head and what follows, one after the other
abbrev pub laid : Head → ℕ → List ℕ → List ℕ
laid h pad rest =
    number_bytes 2 h.subcontract ++ (number_bytes 2 h.operation ++ (number_bytes 4 h.tag ++ (number_bytes 8 h.offset
    ++ (number_bytes 4 h.size ++ (h.access ∷ h.flags ∷ (number_bytes 2 pad ++ rest))))))

pub regroup : (p q r s x : List ℕ) → (p ++ (q ++ (r ++ s))) ++ x ≡ p ++ (q ++ (r ++ (s ++ x)))
regroup p q r s x = append_assoc p (q ++ (r ++ s)) x ∙ ap (λ (t : List ℕ). p ++ t) (append_assoc q (r ++ s) x ∙ ap (λ (t : List ℕ). q ++ t) (append_assoc r s x))

pub bytes_are_laid : (h : Head) (body : List ℕ) → frame_bytes h body ≡ laid h 0 body
unfolding frame_bytes first_part second_part
bytes_are_laid h body =
    regroup (number_bytes 2 h.subcontract) (number_bytes 2 h.operation) (number_bytes 4 h.tag) (number_bytes 8 h.offset) (second_part h ++ body)
    ∙ ap (λ (t : List ℕ). number_bytes 2 h.subcontract ++ (number_bytes 2 h.operation ++ (number_bytes 4 h.tag ++ (number_bytes 8 h.offset ++ t)))) (append_assoc (number_bytes 4 h.size) (h.access ∷ h.flags ∷ number_bytes 2 0) body)

-- a number is read, and what follows it
pub past_number : (k n x : ℕ) (xs rest : List ℕ) → drop k xs ≡ number_bytes n x ++ rest → drop (k + n) xs ≡ rest
past_number k n x xs rest e = sym (drop-drop n k xs) ∙ ap (drop n) e ∙ drop_at (number_bytes n x) rest n (length-number_bytes n x)

pub number_there : (k n x : ℕ) (xs rest : List ℕ) → x < 256 ^ n → drop k xs ≡ number_bytes n x ++ rest → number_of n (drop k xs) ≡ x
number_there k n x xs rest fits e = ap (number_of n) e ∙ number_of-number_bytes n x rest fits

byte_there : (k : ℕ) (xs rest : List ℕ) (x : ℕ) → drop k xs ≡ x ∷ rest → get_or xs k 0 ≡ x
byte_there k xs rest x e = ap (λ (n : ℕ). get_or xs n 0) (let z : k ≡ k + 0 = omega arith in z) ∙ sym (get_or-drop k xs 0 0) ∙ ap (λ (t : List ℕ). get_or t 0 0) e

past_byte : (k : ℕ) (xs rest : List ℕ) (x : ℕ) → drop k xs ≡ x ∷ rest → drop (k + 1) xs ≡ rest
past_byte k xs rest x e = sym (drop-drop 1 k xs) ∙ ap (drop 1) e

record IsLaid (xs : List ℕ) (h : Head) (body : List ℕ) : Type 0 where
  pub head : head_at xs ≡ h
  pub pad : pad_at xs ≡ 0
  pub rest : drop 24 xs ≡ body
  pub long : 24 ≤ length xs

module _ (h : Head) (body xs : List ℕ) (fits : IsHead h) (e : xs ≡ laid h 0 body) where
  at2 : drop 2 xs ≡ number_bytes 2 h.operation ++ (number_bytes 4 h.tag ++ (number_bytes 8 h.offset ++ (number_bytes 4 h.size ++ (h.access ∷ h.flags ∷ (number_bytes 2 0 ++ body)))))
  at2 = past_number 0 2 h.subcontract xs _ e

  at4 : drop 4 xs ≡ number_bytes 4 h.tag ++ (number_bytes 8 h.offset ++ (number_bytes 4 h.size ++ (h.access ∷ h.flags ∷ (number_bytes 2 0 ++ body))))
  at4 = past_number 2 2 h.operation xs _ at2

  at8 : drop 8 xs ≡ number_bytes 8 h.offset ++ (number_bytes 4 h.size ++ (h.access ∷ h.flags ∷ (number_bytes 2 0 ++ body)))
  at8 = past_number 4 4 h.tag xs _ at4

  at16 : drop 16 xs ≡ number_bytes 4 h.size ++ (h.access ∷ h.flags ∷ (number_bytes 2 0 ++ body))
  at16 = past_number 8 8 h.offset xs _ at8

  at20 : drop 20 xs ≡ h.access ∷ h.flags ∷ (number_bytes 2 0 ++ body)
  at20 = past_number 16 4 h.size xs _ at16

  at21 : drop 21 xs ≡ h.flags ∷ (number_bytes 2 0 ++ body)
  at21 = past_byte 20 xs _ h.access at20

  at22 : drop 22 xs ≡ number_bytes 2 0 ++ body
  at22 = past_byte 21 xs _ h.flags at21

  at24 : drop 24 xs ≡ body
  at24 = past_number 22 2 0 xs body at22

  long : 24 ≤ length xs
  long =
      let one : length xs ≡ length (laid h 0 body) = ap length e in
      omega (
        arith,
        one,
        length-append (number_bytes 2 h.subcontract) (number_bytes 2 h.operation ++ (number_bytes 4 h.tag ++ (number_bytes 8 h.offset ++ (number_bytes 4 h.size ++ (h.access ∷ h.flags ∷ (number_bytes 2 0 ++ body)))))),
        length-append (number_bytes 2 h.operation) (number_bytes 4 h.tag ++ (number_bytes 8 h.offset ++ (number_bytes 4 h.size ++ (h.access ∷ h.flags ∷ (number_bytes 2 0 ++ body))))),
        length-append (number_bytes 4 h.tag) (number_bytes 8 h.offset ++ (number_bytes 4 h.size ++ (h.access ∷ h.flags ∷ (number_bytes 2 0 ++ body)))),
        length-append (number_bytes 8 h.offset) (number_bytes 4 h.size ++ (h.access ∷ h.flags ∷ (number_bytes 2 0 ++ body))),
        length-append (number_bytes 4 h.size) (h.access ∷ h.flags ∷ (number_bytes 2 0 ++ body)),
        length-append (number_bytes 2 0) body,
        length-number_bytes 2 h.subcontract,
        length-number_bytes 2 h.operation,
        length-number_bytes 4 h.tag,
        length-number_bytes 8 h.offset,
        length-number_bytes 4 h.size,
        length-number_bytes 2 0,
      )

  laid_is : IsLaid xs h body
  laid_is = record {
    head = rw (
      number_there 0 2 h.subcontract xs _ (omega (arith, fits.subcontract_high)) e,
      number_there 2 2 h.operation xs _ fits.number at2,
      number_there 4 4 h.tag xs _ fits.tag at4,
      number_there 8 8 h.offset xs _ fits.offset at8,
      number_there 16 4 h.size xs _ (omega (arith, fits.size)) at16,
      byte_there 20 xs _ h.access at20,
      byte_there 21 xs _ h.flags at21,
    ) refl;
    pad = number_there 22 2 0 xs body (omega arith) at22;
    rest = at24;
    long = long;
  }

lt-ltb : (a b : ℕ) → a < b → ltb a b ≡ true
lt-ltb a b h = grind (arith, nat_tests)

head_passes : (ops : Ops) (h : Head) (which : Operation) → IsHead h → which_of ops h.flags h.operation ≡ Some which → head_tested ops h 0 ≡ Ok which
unfolding head_tested
head_passes ops h which fits op =
    rw (le-leb 1 h.subcontract fits.subcontract_low, le-leb h.subcontract 5 fits.subcontract_high, lt-ltb h.flags 16 fits.flags, fits.one_object, op, le-leb h.size 4096 fits.size, le-leb h.access 2 fits.access) refl

rest_passes : (all : ℕ) (h : Head) (many : ℕ) → many ≡ data_size h → rest_tested all h many ≡ Ok tt
unfolding rest_tested
rest_passes all h many e = rw (le-leb (data_size h) many (omega (arith, e)), le-leb many (data_size h) (omega (arith, e))) refl

frame_passes : (ops : Ops) (all : ℕ) (f : FrameSeen) → IsFrame ops f → frame_from ops all f.head 0 f.body ≡ Ok f
unfolding frame_from
frame_passes ops all f is = rw (head_passes ops f.head f.which is.head is.operation, rest_passes all f.head (length f.body) is.body) refl

pub frame_again : (ops : Ops) (f : FrameSeen) (bytes : List ℕ) → IsFrame ops f → bytes ≡ frame_bytes f.head f.body → frame_at ops bytes ≡ Ok f
unfolding frame_at
frame_again ops f bytes is e =
    let l = laid_is f.head f.body bytes is.head (e ∙ bytes_are_laid f.head f.body) in
    rw (le-leb 24 (length bytes) l.long)
    (ap (λ (h : Head). frame_from ops (length bytes) h (pad_at bytes) (drop 24 bytes)) l.head
    ∙ ap (λ (p : ℕ). frame_from ops (length bytes) f.head p (drop 24 bytes)) l.pad
    ∙ ap (frame_from ops (length bytes) f.head 0) l.rest
    ∙ frame_passes ops (length bytes) f is)
