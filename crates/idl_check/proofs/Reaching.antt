-- The table of what reaches what is right.
use Rattle.std.proofs.Common.{◌≡◌, ℕ, zero, suc, ◌<◌, ◌≤◌, List, [], ◌∷◌, length, map, Bool, true, false, ◌&&◌, ◌||◌, get_or, cond, ◌⊎◌, refl, sym, ap, subst, ◌∙◌, arith}
use Rattle.std.proofs.Common.{inl, inr}
use Rattle.std.proofs.lemmas.Bool.{or_cases, and_parts, cases_lt}
use Rattle.std.proofs.lemmas.List.{get_or-map, length-map}
use Rattle.idl_reader.specs.Tree.{DeclTree}
use Rattle.idl_check.specs.Reach.{at, direct, direct_row, either_row, through_row, through, ways, reached}
use Rattle.idl_check.proofs.Ways.{length-through}

-- from the first there is a way to the second, of one step or more
pub data Reaches (rows : List (List Bool)) : ℕ → ℕ → Type 0 where
  Step : (i j : ℕ) → at rows i j ≡ true → Reaches rows i j
  Onward : (i j k : ℕ) → at rows i j ≡ true → Reaches rows j k → Reaches rows i k

-- beyond the end there is nothing
get_or_beyond : {X : Type 0} (xs : List X) (i : ℕ) (d : X) → length xs ≤ i → get_or xs i d ≡ d
get_or_beyond [] i d h = refl
get_or_beyond (x ∷ xs) zero d h = absurd (omega arith)
get_or_beyond (x ∷ xs) (suc i) d h = get_or_beyond xs i d (omega arith)

length-either : (row via : List Bool) → length (either_row row via) ≡ length row
length-either [] via = refl
length-either (a ∷ row) [] = ap (λ n. suc n) (length-either row [])
length-either (a ∷ row) (b ∷ via) = ap (λ n. suc n) (length-either row via)

or_nothing : (b : Bool) → b ≡ (b || false)
or_nothing true = refl
or_nothing false = refl

either_at : (row via : List Bool) (j : ℕ) → j < length row → get_or (either_row row via) j false ≡ (get_or row j false || get_or via j false)
either_at [] via j below = absurd (omega arith)
either_at (a ∷ row) [] zero below = or_nothing a
either_at (a ∷ row) [] (suc j) below = either_at row [] j (omega arith)
either_at (a ∷ row) (b ∷ via) zero below = refl
either_at (a ∷ row) (b ∷ via) (suc j) below = either_at row via j (omega arith)

length-through_row : (k : ℕ) (via row : List Bool) → length (through_row k via row) ≡ length row
length-through_row k via row = cases (get_or row k false) where
  cases : (b : Bool) → length (cond b (either_row row via) row) ≡ length row
  cases true = length-either row via
  cases false = refl

through_row_at : (k : ℕ) (via row : List Bool) (j : ℕ) → j < length row → get_or (through_row k via row) j false ≡ (get_or row j false || (get_or row k false && get_or via j false))
through_row_at k via row j below = cases (get_or row k false) where
  cases : (b : Bool) → get_or (cond b (either_row row via) row) j false ≡ (get_or row j false || (b && get_or via j false))
  cases true = either_at row via j below
  cases false = or_nothing (get_or row j false)

-- as many rows as there are declarations, and as many answers in each
record Square (n : ℕ) (rows : List (List Bool)) : Type 0 where
  tall : length rows ≡ n
  wide : (i : ℕ) → i < n → length (get_or rows i []) ≡ n

row_through : (k i : ℕ) (rows : List (List Bool)) → i < length rows → get_or (through k rows) i [] ≡ through_row k (get_or rows k []) (get_or rows i [])
unfolding through
row_through k i rows below = get_or-map (λ row. through_row k (get_or rows k []) row) rows i [] [] below

square_through : (n k : ℕ) (rows : List (List Bool)) → Square n rows → Square n (through k rows)
square_through n k rows s = record {
  tall = length-through k rows ∙ s.tall;
  wide = λ i below.
      let tall = s.tall in
      ap length (row_through k i rows (omega arith)) ∙ length-through_row k (get_or rows k []) (get_or rows i []) ∙ s.wide i below;
}

at_through : (n k i j : ℕ) (rows : List (List Bool)) → Square n rows → i < n → j < n → at (through k rows) i j ≡ (at rows i j || (at rows i k && at rows k j))
at_through n k i j rows s below within =
    let tall = s.tall in
    let wide = s.wide i below in
    ap (λ row. get_or row j false) (row_through k i rows (omega arith)) ∙ through_row_at k (get_or rows k []) (get_or rows i []) j (omega arith)

-- only within the table is an answer is
at_within : (n i j : ℕ) (rows : List (List Bool)) → Square n rows → at rows i j ≡ true → (i < n) × (j < n)
at_within n i j rows s is = rows_first (cases_lt i n) where
  no_row : n ≤ i → ⊥
  no_row h =
      let tall = s.tall in
      let none : get_or rows i [] ≡ [] = get_or_beyond rows i [] (omega arith) in
      let isnt : get_or (get_or rows i []) j false ≡ false = ap (λ row. get_or row j false) none in
      let both = sym isnt ∙ is in
      absurd cc

  columns : i < n → (j < n) ⊎ (n ≤ j) → (i < n) × (j < n)
  columns below (inl within) = (below, within)
  columns below (inr beyond) =
      let wide = s.wide i below in
      let isnt = get_or_beyond (get_or rows i []) j false (omega arith) in
      let both = sym isnt ∙ is in
      absurd cc

  rows_first : (i < n) ⊎ (n ≤ i) → (i < n) × (j < n)
  rows_first (inl below) = columns below (cases_lt j n)
  rows_first (inr beyond) = absurd (no_row beyond)

reaches_on : (rows : List (List Bool)) (i j k : ℕ) → Reaches rows i j → Reaches rows j k → Reaches rows i k
reaches_on rows i j k (Step i' j' is) onward = Onward i' j' k is onward
reaches_on rows i j k (Onward i' m j' is rest) onward = Onward i' m k is (reaches_on rows m j' k rest onward)

-- what holds of the ways through the first k declarations
record Right (n k : ℕ) (base rows : List (List Bool)) : Type 0 where
  square : Square n rows
  sound : (i j : ℕ) → at rows i j ≡ true → Reaches base i j
  more : (i j : ℕ) → at base i j ≡ true → at rows i j ≡ true
  joined : (m i j : ℕ) → m < k → at rows i m ≡ true → at rows m j ≡ true → at rows i j ≡ true

or_first : (a b : Bool) → a ≡ true → (a || b) ≡ true
or_first a b e = ap (λ t. t || b) e

or_second : (a b : Bool) → b ≡ true → (a || b) ≡ true
or_second true b e = refl
or_second false b e = e

and_both : (a b : Bool) → a ≡ true → b ≡ true → (a && b) ≡ true
and_both a b e f = ap (λ t. t && b) e ∙ f

-- an answer is through the k-th: directly, or by it
by_through : (n k i j : ℕ) (rows : List (List Bool)) → Square n rows → at (through k rows) i j ≡ true → (at rows i j ≡ true) ⊎ ((at rows i k ≡ true) × (at rows k j ≡ true))
by_through n k i j rows s is = either (or_cases (at rows i j) (at rows i k && at rows k j) (sym (at_through n k i j rows s inside.0 inside.1) ∙ is)) where
  inside : (i < n) × (j < n)
  inside = at_within n i j (through k rows) (square_through n k rows s) is

  either : (at rows i j ≡ true) ⊎ ((at rows i k && at rows k j) ≡ true) → (at rows i j ≡ true) ⊎ ((at rows i k ≡ true) × (at rows k j ≡ true))
  either (inl direct_way) = inl direct_way
  either (inr both) = inr (and_parts (at rows i k) (at rows k j) both)

kept : (n k i j : ℕ) (rows : List (List Bool)) → Square n rows → at rows i j ≡ true → at (through k rows) i j ≡ true
kept n k i j rows s is =
    let inside = at_within n i j rows s is in
    at_through n k i j rows s inside.0 inside.1 ∙ or_first (at rows i j) (at rows i k && at rows k j) is

added : (n k i j : ℕ) (rows : List (List Bool)) → Square n rows → at rows i k ≡ true → at rows k j ≡ true → at (through k rows) i j ≡ true
added n k i j rows s first second =
    let a = at_within n i k rows s first in
    let b = at_within n k j rows s second in
    at_through n k i j rows s a.0 b.1 ∙ or_second (at rows i j) (at rows i k && at rows k j) (and_both (at rows i k) (at rows k j) first second)

right_next : (n k : ℕ) (base rows : List (List Bool)) → Right n k base rows → Right n (suc k) base (through k rows)
right_next n k base rows r = record {
  square = square_through n k rows r.square;
  sound = λ i j is. sound_by i j (by_through n k i j rows r.square is);
  more = λ i j is. kept n k i j rows r.square (r.more i j is);
  joined = λ m i j below first second. joined_by m i j below (by_through n k i m rows r.square first) (by_through n k m j rows r.square second);
} where
  sound_by : (i j : ℕ) → (at rows i j ≡ true) ⊎ ((at rows i k ≡ true) × (at rows k j ≡ true)) → Reaches base i j
  sound_by i j (inl is) = r.sound i j is
  sound_by i j (inr both) = reaches_on base i k j (r.sound i k both.0) (r.sound k j both.1)

  -- the ways to and from m
  through_k : (m i j : ℕ) → m ≡ k → at rows i k ≡ true → at rows k j ≡ true → at (through k rows) i j ≡ true
  through_k m i j same first second = added n k i j rows r.square first second

  joined_by : (m i j : ℕ) → m < suc k → (at rows i m ≡ true) ⊎ ((at rows i k ≡ true) × (at rows k m ≡ true)) → (at rows m j ≡ true) ⊎ ((at rows m k ≡ true) × (at rows k j ≡ true)) → at (through k rows) i j ≡ true
  joined_by m i j below (inr a) (inr b) = added n k i j rows r.square a.0 b.1
  joined_by m i j below (inl a) (inl b) = here (cases_lt m k) where
    here : (m < k) ⊎ (k ≤ m) → at (through k rows) i j ≡ true
    here (inl low) = kept n k i j rows r.square (r.joined m i j low a b)
    here (inr high) =
        let same : m ≡ k = omega arith in
        added n k i j rows r.square (subst (λ x. at rows i x ≡ true) same a) (subst (λ x. at rows x j ≡ true) same b)
  joined_by m i j below (inl a) (inr b) = here (cases_lt m k) where
    here : (m < k) ⊎ (k ≤ m) → at (through k rows) i j ≡ true
    here (inl low) = added n k i j rows r.square (r.joined m i k low a b.0) b.1
    here (inr high) =
        let same : m ≡ k = omega arith in
        added n k i j rows r.square (subst (λ x. at rows i x ≡ true) same a) b.1
  joined_by m i j below (inr a) (inl b) = here (cases_lt m k) where
    here : (m < k) ⊎ (k ≤ m) → at (through k rows) i j ≡ true
    here (inl low) = added n k i j rows r.square a.0 (r.joined m k j low a.1 b)
    here (inr high) =
        let same : m ≡ k = omega arith in
        added n k i j rows r.square a.0 (subst (λ x. at rows x j ≡ true) same b)

right_ways : (n k : ℕ) (base : List (List Bool)) → Square n base → Right n k base (ways k base)
unfolding ways
right_ways n zero base s = record { square = s; sound = λ i j is. Step i j is; more = λ i j is. is; joined = λ m i j below a b. absurd (omega arith) }
right_ways n (suc k) base s = right_next n k base (ways k base) (right_ways n k base s)

wide_at : (all some : List DeclTree) (i : ℕ) → i < length some → length (get_or (map (λ d. direct_row all d) some) i []) ≡ length all
unfolding direct_row
wide_at all [] i below = absurd (omega arith)
wide_at all (d ∷ ds) zero below = length-map all _
wide_at all (d ∷ ds) (suc i) below = wide_at all ds i (omega arith)

direct_square : (decls : List DeclTree) → Square (length decls) (direct decls)
direct_square decls = record { tall = length-map decls (λ d. direct_row decls d); wide = λ i below. wide_at decls decls i below }

-- only declarations stand in the table of what one is made of
pub at_inside : (decls : List DeclTree) (i j : ℕ) → at (direct decls) i j ≡ true → (i < length decls) × (j < length decls)
at_inside decls i j is = at_within (length decls) i j (direct decls) (direct_square decls) is

complete : (n : ℕ) (base rows : List (List Bool)) → Square n base → Right n n base rows → (i j : ℕ) → Reaches base i j → at rows i j ≡ true
complete n base rows s r i j (Step i' j' is) = r.more i' j' is
complete n base rows s r i j (Onward i' m j' is rest) =
    let inside = at_within n i' m base s is in
    r.joined m i' j' inside.1 (r.more i' m is) (complete n base rows s r m j' rest)

pub length-reached : (decls : List DeclTree) → length (reached decls) ≡ length decls
length-reached decls = (right_ways (length decls) (length decls) (direct decls) (direct_square decls)).square.tall

pub wide-reached : (decls : List DeclTree) (i : ℕ) → i < length decls → length (get_or (reached decls) i []) ≡ length decls
wide-reached decls i below = (right_ways (length decls) (length decls) (direct decls) (direct_square decls)).square.wide i below

pub reached_sound : (decls : List DeclTree) (i j : ℕ) → at (reached decls) i j ≡ true → Reaches (direct decls) i j
reached_sound decls i j is = (right_ways (length decls) (length decls) (direct decls) (direct_square decls)).sound i j is

pub reached_complete : (decls : List DeclTree) (i j : ℕ) → Reaches (direct decls) i j → at (reached decls) i j ≡ true
reached_complete decls i j way = complete (length decls) (direct decls) (reached decls) (direct_square decls) (right_ways (length decls) (length decls) (direct decls) (direct_square decls)) i j way
