-- Lists that begin one another, and entries that a range has or lacks.
use Rattle.std.proofs.Common.{◌≡◌, ◌⊎◌, ℕ, ◌+◌, ◌<◌, ◌≤◌, Bool, true, false, ◌&&◌, List, [], ◌∷◌, ◌++◌, length, Option, Some, None, refl, sym, ap, subst, ◌∙◌, inl, inr, arith, cond, append_assoc, length-append}
use Rattle.std.proofs.Math.Dec.{ltb, leb}
use Rattle.std.proofs.lemmas.List.{append-nil}
use Rattle.std.proofs.lemmas.Bool.{ltb-true, ltb-false}
use Rattle.std.proofs.lemmas.Bool.Decides.{nat_tests}
use Rattle.hist_lock.specs.Ranges.{in_range, may_add, Quiet, Each, Follows, longer}

module _ {E : Type 0} where
  pub quiet_append : (p : E → Bool) (xs ys : List E) → Quiet p xs → Quiet p ys → Quiet p (xs ++ ys)
  quiet_append p [] ys a b = b
  quiet_append p (x ∷ xs) ys a b = (a.0, quiet_append p xs ys a.1 b)

  pub quiet_right : (p : E → Bool) (xs ys : List E) → Quiet p (xs ++ ys) → Quiet p ys
  quiet_right p [] ys a = a
  quiet_right p (x ∷ xs) ys a = quiet_right p xs ys a.1

  pub quiet_left : (p : E → Bool) (xs ys : List E) → Quiet p (xs ++ ys) → Quiet p xs
  quiet_left p [] ys a = tt
  quiet_left p (x ∷ xs) ys a = (a.0, quiet_left p xs ys a.1)

  pub quiet_as : (p q : E → Bool) → ((e : E) → p e ≡ false → q e ≡ false) → (xs : List E) → Quiet p xs → Quiet q xs
  quiet_as p q f [] a = tt
  quiet_as p q f (x ∷ xs) a = (f x a.0, quiet_as p q f xs a.1)

  pub quiet_both : (p q r : E → Bool) → ((e : E) → p e ≡ false → q e ≡ false → r e ≡ false) → (xs : List E) → Quiet p xs → Quiet q xs → Quiet r xs
  quiet_both p q r f [] a b = tt
  quiet_both p q r f (x ∷ xs) a b = (f x a.0 b.0, quiet_both p q r f xs a.1 b.1)

  pub each_append : (p : E → Bool) (xs ys : List E) → Each p xs → Each p ys → Each p (xs ++ ys)
  each_append p [] ys a b = b
  each_append p (x ∷ xs) ys a b = (a.0, each_append p xs ys a.1 b)

  pub each_as : (p q : E → Bool) → ((e : E) → p e ≡ true → q e ≡ true) → (xs : List E) → Each p xs → Each q xs
  each_as p q f [] a = tt
  each_as p q f (x ∷ xs) a = (f x a.0, each_as p q f xs a.1)

  pub each_quiet : (p q : E → Bool) → ((e : E) → p e ≡ true → q e ≡ false) → (xs : List E) → Each p xs → Quiet q xs
  each_quiet p q f [] a = tt
  each_quiet p q f (x ∷ xs) a = (f x a.0, each_quiet p q f xs a.1)

  pub follows_self : (p : E → Bool) (xs ys : List E) → xs ≡ ys → Follows p xs ys
  follows_self p xs ys e = record { rest = []; whole = sym e ∙ sym (append-nil xs); quiet = tt }

  pub follows_more : (p : E → Bool) (xs ys zs : List E) → Follows p xs ys → Quiet p zs → Follows p xs (ys ++ zs)
  follows_more p xs ys zs f q =
      record { rest = f.rest ++ zs; whole = ap (λ w. w ++ zs) f.whole ∙ append_assoc xs f.rest zs; quiet = quiet_append p f.rest zs f.quiet q }

  pub follows_as : (p q : E → Bool) → ((e : E) → p e ≡ false → q e ≡ false) → (xs ys : List E) → Follows p xs ys → Follows q xs ys
  follows_as p q f xs ys a = record { rest = a.rest; whole = a.whole; quiet = quiet_as p q f a.rest a.quiet }

  -- of two beginnings of one list the shorter begins the longer
  pub shorter : (xs ys r s : List E) → xs ++ r ≡ ys ++ s → length xs ≤ length ys → (m : List E) × (ys ≡ xs ++ m) × (r ≡ m ++ s)
  shorter [] ys r s e le = (ys, refl, e)
  shorter (x ∷ xs) [] r s e le = absurd (omega arith)
  shorter (x ∷ xs) (y ∷ ys) r s e le =
      let heads : x ≡ y = cc e in
      let tails : xs ++ r ≡ ys ++ s = cc e in
      let t = shorter xs ys r s tails (omega arith) in
      (t.0, cc (heads, t.1), t.2)

  -- two beginnings of one list: the longer one begins with both
  joined_at : (p q r : E → Bool) → ((e : E) → p e ≡ false → q e ≡ false → r e ≡ false) → (xs ys all : List E) → Follows p xs all → Follows q ys all
      → (b : Bool) → ltb (length xs) (length ys) ≡ b → Follows r (cond b ys xs) all × Follows p xs (cond b ys xs) × Follows q ys (cond b ys xs)
  joined_at p q r f xs ys all fx fy true is =
      let lt : length xs < length ys = ltb-true (length xs) (length ys) is in
      let m = shorter xs ys fx.rest fy.rest (sym fx.whole ∙ fy.whole) (omega arith) in
      let quiet : Quiet p (m.0 ++ fy.rest) = subst (Quiet p) m.2 fx.quiet in (
        record { rest = fy.rest; whole = fy.whole; quiet = quiet_both p q r f fy.rest (quiet_right p m.0 fy.rest quiet) fy.quiet },
        record { rest = m.0; whole = m.1; quiet = quiet_left p m.0 fy.rest quiet },
        follows_self q ys ys refl,
      )
  joined_at p q r f xs ys all fx fy false is =
      let le : length ys ≤ length xs = ltb-false (length xs) (length ys) is in
      let m = shorter ys xs fy.rest fx.rest (sym fy.whole ∙ fx.whole) le in
      let quiet : Quiet q (m.0 ++ fx.rest) = subst (Quiet q) m.2 fy.quiet in (
        record { rest = fx.rest; whole = fx.whole; quiet = quiet_both p q r f fx.rest fx.quiet (quiet_right q m.0 fx.rest quiet) },
        follows_self p xs xs refl,
        record { rest = m.0; whole = m.1; quiet = quiet_left q m.0 fx.rest quiet },
      )

  pub joined : (p q r : E → Bool) → ((e : E) → p e ≡ false → q e ≡ false → r e ≡ false) → (xs ys all : List E) → Follows p xs all → Follows q ys all
      → Follows r (longer xs ys) all × Follows p xs (longer xs ys) × Follows q ys (longer xs ys)
  joined p q r f xs ys all fx fy = joined_at p q r f xs ys all fx fy (ltb (length xs) (length ys)) refl

  no_rest : (xs ys : List E) → length (xs ++ ys) ≤ length xs → ys ≡ []
  no_rest [] [] le = refl
  no_rest [] (y ∷ ys) le = absurd (omega arith)
  no_rest (x ∷ xs) ys le = no_rest xs ys (omega arith)

  -- what begins with the whole list, and begins it, is the whole list
  pub whole_longer : (p q : E → Bool) (xs l all : List E) → xs ≡ all → Follows q xs l → Follows p l all → l ≡ all
  whole_longer p q xs l all e b f =
      let long : length l ≡ length xs + length b.rest = ap length b.whole ∙ length-append xs b.rest in
      let same : length xs ≡ length all = ap length e in
      let short : length (l ++ f.rest) ≤ length l = omega (arith, ap length f.whole) in
      sym (f.whole ∙ (ap (λ r. l ++ r) (no_rest l f.rest short) ∙ append-nil l))

-- the tests of a range
from_low : (a b n : ℕ) → (leb a n && ltb n b) ≡ true → a ≤ n
from_low a b n e = grind (arith, nat_tests)

from_high : (a b n : ℕ) → (leb a n && ltb n b) ≡ true → n < b
from_high a b n e = grind (arith, nat_tests)

first_false : (b : Bool) → (b ≡ true → ⊥) → b ≡ false
first_false true h = absurd (h refl)
first_false false h = refl

-- a caller of one range is none of a range that is apart from it
pub apart_in : (a b c d : ℕ) (o : Option ℕ) → ((n : ℕ) → c ≤ n → n < d → a ≤ n → n < b → ⊥) → may_add a b o ≡ true → in_range c d o ≡ false
apart_in a b c d None h e = refl
apart_in a b c d (Some n) h e = first_false (in_range c d (Some n)) (λ t. h n (omega (arith, from_low c d n t)) (omega (arith, from_high c d n t)) (omega (arith, from_low a b n e)) (omega (arith, from_high a b n e)))

pub wider : (a b c d : ℕ) (o : Option ℕ) → c ≤ a → b ≤ d → may_add a b o ≡ true → may_add c d o ≡ true
wider a b c d None h k e = refl
wider a b c d (Some n) h k e = grind (arith, nat_tests)

pub none_in : (o : Option ℕ) → in_range 0 0 o ≡ false
none_in None = refl
none_in (Some n) = grind (arith, nat_tests)

pub within_in : (a b c d : ℕ) (o : Option ℕ) → a ≤ c → d ≤ b → in_range a b o ≡ false → in_range c d o ≡ false
within_in a b c d None h k e = refl
within_in a b c d (Some n) h k e = grind (arith, nat_tests)

pub joined_in : (a b c : ℕ) (o : Option ℕ) → in_range a b o ≡ false → in_range b c o ≡ false → in_range a c o ≡ false
joined_in a b c None e f = refl
joined_in a b c (Some n) e f = grind (arith, nat_tests)

lt_or_le_at : (a b : ℕ) (t : Bool) → ltb a b ≡ t → (a < b) ⊎ (b ≤ a)
lt_or_le_at a b true e = inl (ltb-true a b e)
lt_or_le_at a b false e = inr (ltb-false a b e)

pub lt_or_le : (a b : ℕ) → (a < b) ⊎ (b ≤ a)
lt_or_le a b = lt_or_le_at a b (ltb a b) refl

pub quiet_none : {E : Type 0} (caller : E → Option ℕ) (xs : List E) → Quiet (λ e. in_range 0 0 (caller e)) xs
quiet_none caller [] = tt
quiet_none caller (x ∷ xs) = (none_in (caller x), quiet_none caller xs)
