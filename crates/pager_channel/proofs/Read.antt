-- What is read is a frame, and was written so.
use Rattle.std.specs.Prelude.{IfOk}
use Rattle.std.proofs.Common.{◌≡◌, ℕ, ◌+◌, ◌<◌, ◌≤◌, inl, inr, Bool, true, false, leb, ltb, eqb, not, ◌&&◌, List, ◌∷◌, ◌++◌, length, get_or, take, drop, Option, Some, None, Result, Ok, Err, refl, sym, ap, subst, ◌∙◌, arith, length-drop}
use Rattle.std.proofs.lemmas.Bool.{leb-true, le-leb, cases_lt}
use Rattle.std.proofs.lemmas.Bool.Decides.{nat_tests}
use Rattle.std.proofs.lemmas.List.{drop-drop, take-append-drop, length-take, get_or-take, get_or-drop, drop_more, get_or_past}
use Rattle.marshal_buf.specs.Numbers.{number_bytes, number_of}
use Rattle.marshal_buf.proofs.NumberLaws.{IsBytes, number_of_part, number_of-fits, number_bytes-number_of_4, number_bytes-number_of_8, bytes_of_2}
use Rattle.pager_channel.specs.declared.front.Head.{Head}
use Rattle.pager_channel.specs.declared.why.FrameWhy.{FrameWhy}
use Rattle.pager_channel.specs.declared.why.BadFrame.{BadFrame}
use Rattle.pager_channel.specs.declared.numbers.Ops.{Ops}
use Rattle.pager_channel.specs.declared.operation.Operation.{Operation}
use Rattle.pager_channel.specs.Flags.{is_to_cache, is_to_file}
use Rattle.pager_channel.specs.Size.{data_size}
use Rattle.pager_channel.specs.Seen.{FrameSeen}
use Rattle.pager_channel.specs.Frame.{IsHead, IsFrame, frame_bytes}
use Rattle.pager_channel.specs.Numbers.{which_of}
use Rattle.pager_channel.specs.Reading.{◌>>=◌, head_at, pad_at, head_tested, rest_tested, frame_from, frame_at, wants, finds}
use Rattle.pager_channel.proofs.Written.{laid, bytes_are_laid}

bind_ok : {A B : Type 0} (r : Result A BadFrame) (f : A → Result B BadFrame) (y : B) → (r >>= f) ≡ Ok y → (x : A) × (r ≡ Ok x) × (f x ≡ Ok y)
bind_ok (Ok x) f y e = (x, refl, e)
bind_ok (Err bad) f y e = absurd cc

ok_same : {A : Type 0} (x y : A) → ◌≡◌ {A = Result A BadFrame} (Ok x) (Ok y) → x ≡ y
ok_same x y e = cc

tested_ok : (b : Bool) (why : FrameWhy) (at : ℕ) (x : Unit {0}) → wants b why at ≡ Ok x → b ≡ true
tested_ok true why at x e = refl
tested_ok false why at x e = absurd cc

found_ok : {A : Type 0} (o : Option A) (why : FrameWhy) (at : ℕ) (x : A) → finds o why at ≡ Ok x → o ≡ Some x
found_ok (Some y) why at x e = let same : y ≡ x = cc in ap Some same
found_ok None why at x e = absurd cc

both : (a b : Bool) → (a && b) ≡ true → (a ≡ true) × (b ≡ true)
both true b e = (refl, e)
both false b e = absurd cc

negated : (a : Bool) → not a ≡ true → a ≡ false
negated true e = absurd cc
negated false e = refl

less : (a b : ℕ) → ltb a b ≡ true → a < b
less a b e = leb-true _ _ e

-- a number is spelled so
bytes_take : (n : ℕ) (bytes : List ℕ) → IsBytes bytes → IsBytes (take n bytes)
bytes_take n bytes fits i = elim (cases_lt i n) [
  | inl lt ↦ rw (get_or-take n bytes i 0 lt) (fits i)
  | inr le ↦ rw (get_or_past (take n bytes) i 0 (omega (arith, length-take n bytes))) (omega arith)
]

pub bytes_drop : (n : ℕ) (bytes : List ℕ) → IsBytes bytes → IsBytes (drop n bytes)
bytes_drop n bytes fits i = rw (get_or-drop n bytes i 0) (fits (n + i))

taken_long : (n : ℕ) (bytes : List ℕ) → n ≤ length bytes → length (take n bytes) ≡ n
taken_long n bytes long = omega (arith, length-take n bytes)

two_of : (bytes : List ℕ) → length bytes ≡ 2 → IsBytes bytes → number_bytes 2 (number_of 2 bytes) ≡ bytes
unfolding number_of
two_of bytes len fits = bytes_of_2 bytes _ len fits refl

pub spelled : (n : ℕ) → ((part : List ℕ) → length part ≡ n → IsBytes part → number_bytes n (number_of n part) ≡ part) → (bytes : List ℕ) → IsBytes bytes → n ≤ length bytes → bytes ≡ number_bytes n (number_of n bytes) ++ drop n bytes
spelled n law bytes fits long =
    sym (take-append-drop n bytes)
    ∙ ap (λ (t : List ℕ). t ++ drop n bytes) (sym (law (take n bytes) (taken_long n bytes long) (bytes_take n bytes fits)) ∙ ap (number_bytes n) (number_of_part n bytes))

pub spelled_at : (k n : ℕ) → ((part : List ℕ) → length part ≡ n → IsBytes part → number_bytes n (number_of n part) ≡ part) → (bytes : List ℕ) → IsBytes bytes → k + n ≤ length bytes → drop k bytes ≡ number_bytes n (number_of n (drop k bytes)) ++ drop (k + n) bytes
spelled_at k n law bytes fits long =
    spelled n law (drop k bytes) (bytes_drop k bytes fits) (omega (arith, length-drop k bytes))
    ∙ ap (λ (t : List ℕ). number_bytes n (number_of n (drop k bytes)) ++ t) (drop-drop n k bytes)

-- the bytes are the head's fields, what stands where zeros do, and the rest
all_laid : (bytes : List ℕ) → IsBytes bytes → 24 ≤ length bytes → bytes ≡ laid (head_at bytes) (pad_at bytes) (drop 24 bytes)
all_laid bytes fits long =
    spelled 2 two_of bytes fits (omega arith)
    ∙ ap (λ (t : List ℕ). number_bytes 2 (number_of 2 bytes) ++ t) (spelled_at 2 2 two_of bytes fits (omega arith)
    ∙ ap (λ (t : List ℕ). number_bytes 2 (number_of 2 (drop 2 bytes)) ++ t) (spelled_at 4 4 number_bytes-number_of_4 bytes fits (omega arith)
    ∙ ap (λ (t : List ℕ). number_bytes 4 (number_of 4 (drop 4 bytes)) ++ t) (spelled_at 8 8 number_bytes-number_of_8 bytes fits (omega arith)
    ∙ ap (λ (t : List ℕ). number_bytes 8 (number_of 8 (drop 8 bytes)) ++ t) (spelled_at 16 4 number_bytes-number_of_4 bytes fits (omega arith)
    ∙ ap (λ (t : List ℕ). number_bytes 4 (number_of 4 (drop 16 bytes)) ++ t) (drop_more bytes 20 0 (omega arith)
    ∙ ap (λ (t : List ℕ). get_or bytes 20 0 ∷ t) (drop_more bytes 21 0 (omega arith)
    ∙ ap (λ (t : List ℕ). get_or bytes 21 0 ∷ t) (spelled_at 22 2 two_of bytes fits (omega arith))))))))

record Passed (ops : Ops) (h : Head) (zeros : ℕ) (which : Operation) : Type 0 where
  pub subcontract_low : 1 ≤ h.subcontract
  pub subcontract_high : h.subcontract ≤ 5
  pub flags : h.flags < 16
  pub one_object : is_to_cache h.flags && is_to_file h.flags ≡ false
  pub operation : which_of ops h.flags h.operation ≡ Some which
  pub size : h.size ≤ 4096
  pub access : h.access ≤ 2
  pub pad : zeros ≡ 0

passed : (ops : Ops) (h : Head) (pad : ℕ) (which : Operation) → head_tested ops h pad ≡ Ok which → Passed ops h pad which
unfolding head_tested
passed ops h pad which e =
    let a = bind_ok _ _ which e in
    let b = bind_ok _ _ which a.2 in
    let c = bind_ok _ _ which b.2 in
    let d = bind_ok _ _ which c.2 in
    let f = bind_ok _ _ which d.2 in
    let g = bind_ok _ _ which f.2 in
    let sub = both (leb 1 h.subcontract) (leb h.subcontract 5) (tested_ok _ _ _ _ a.1) in
    let flags = both (ltb h.flags 16) (not (is_to_cache h.flags && is_to_file h.flags)) (tested_ok _ _ _ _ b.1) in
    let named = found_ok (which_of ops h.flags h.operation) FrameWhy.Operation 2 c.0 c.1 in
    let same = ok_same c.0 which g.2 in
    record {
      subcontract_low = leb-true 1 h.subcontract sub.0;
      subcontract_high = leb-true h.subcontract 5 sub.1;
      flags = less h.flags 16 flags.0;
      one_object = negated (is_to_cache h.flags && is_to_file h.flags) flags.1;
      operation = named ∙ ap Some same;
      size = leb-true h.size 4096 (tested_ok _ _ _ _ d.1);
      access = leb-true h.access 2 (tested_ok _ _ _ _ f.1);
      pad = (let t : eqb pad 0 ≡ true = tested_ok _ _ _ _ g.1 in grind (arith, nat_tests));
    }

sized : (all : ℕ) (h : Head) (many : ℕ) (x : Unit {0}) → rest_tested all h many ≡ Ok x → many ≡ data_size h
unfolding rest_tested
sized all h many x e =
    let a = bind_ok _ _ x e in
    let low = leb-true (data_size h) many (tested_ok _ _ _ _ a.1) in
    let high = leb-true many (data_size h) (tested_ok _ _ _ _ a.2) in
    omega (arith, low, high)

record IsReadFrom (ops : Ops) (all : ℕ) (h : Head) (pad : ℕ) (rest : List ℕ) (f : FrameSeen) : Type 0 where
  pub passed : Passed ops h pad f.which
  pub sized : length rest ≡ data_size h
  pub is : f ≡ record { head = h; which = f.which; body = rest }

read_from : (ops : Ops) (all : ℕ) (h : Head) (pad : ℕ) (rest : List ℕ) (f : FrameSeen) → frame_from ops all h pad rest ≡ Ok f → IsReadFrom ops all h pad rest f
unfolding frame_from
read_from ops all h pad rest f e =
    let a = bind_ok _ _ f e in
    let b = bind_ok _ _ f a.2 in
    let same : record { head = h; which = a.0; body = rest } ≡ f = cc in
    let which : a.0 ≡ f.which = ap (λ (x : FrameSeen). x.which) same in
    record {
      passed = subst (Passed ops h pad) which (passed ops h pad a.0 a.1);
      sized = sized all h (length rest) b.0 b.1;
      is = sym same ∙ ap (λ (w : Operation). record { head = h; which = w; body = rest }) which;
    }

pub frame_found : (ops : Ops) (bytes : List ℕ) (f : FrameSeen) → IsBytes bytes → frame_at ops bytes ≡ Ok f → IsFrame ops f × (bytes ≡ frame_bytes f.head f.body)
unfolding frame_at
frame_found ops bytes f fits e =
    let a = bind_ok _ _ f e in
    let long : 24 ≤ length bytes = leb-true 24 (length bytes) (tested_ok _ _ _ _ a.1) in
    let r = read_from ops (length bytes) (head_at bytes) (pad_at bytes) (drop 24 bytes) f a.2 in
    let head : head_at bytes ≡ f.head = sym (ap (λ (x : FrameSeen). x.head) r.is) in
    let body : drop 24 bytes ≡ f.body = sym (ap (λ (x : FrameSeen). x.body) r.is) in
    let is : IsHead (head_at bytes) = record {
      subcontract_low = r.passed.subcontract_low;
      subcontract_high = r.passed.subcontract_high;
      flags = r.passed.flags;
      one_object = r.passed.one_object;
      number = number_of-fits 2 (drop 2 bytes) (bytes_drop 2 bytes fits);
      tag = number_of-fits 4 (drop 4 bytes) (bytes_drop 4 bytes fits);
      offset = number_of-fits 8 (drop 8 bytes) (bytes_drop 8 bytes fits);
      size = r.passed.size;
      access = r.passed.access;
    } in (
      record {
        head = subst IsHead head is;
        operation = subst (λ (h : Head). which_of ops h.flags h.operation ≡ Some f.which) head r.passed.operation;
        body = sym (ap length body) ∙ r.sized ∙ ap data_size head;
      },
      all_laid bytes fits long
          ∙ ap (λ (p : ℕ). laid (head_at bytes) p (drop 24 bytes)) r.passed.pad
          ∙ ap (λ (h : Head). laid h 0 (drop 24 bytes)) head
          ∙ ap (laid f.head 0) body
          ∙ sym (bytes_are_laid f.head f.body),
    )

pub body_found : (ops : Ops) (bytes : List ℕ) (f : FrameSeen) → frame_at ops bytes ≡ Ok f → f.body ≡ drop 24 bytes
unfolding frame_at
body_found ops bytes f e =
    let a = bind_ok (wants (leb 24 (length bytes)) FrameWhy.Short (length bytes)) (λ x. frame_from ops (length bytes) (head_at bytes) (pad_at bytes) (drop 24 bytes)) f e in
    ap (λ (x : FrameSeen). x.body) (read_from ops (length bytes) (head_at bytes) (pad_at bytes) (drop 24 bytes) f a.2).is

pub if_ok : {X E : Type 0} (r s : Result X E) (P : X → Type 0) → r ≡ s → ((x : X) → s ≡ Ok x → P x) → IfOk r P
if_ok (Ok x) s P e law = law x (sym e)
if_ok (Err bad) s P e law = tt

pub long_frame : (ops : Ops) (bytes : List ℕ) → 24 ≤ length bytes → frame_at ops bytes ≡ frame_from ops (length bytes) (head_at bytes) (pad_at bytes) (drop 24 bytes)
unfolding frame_at
long_frame ops bytes long = rw (le-leb 24 (length bytes) long) refl
