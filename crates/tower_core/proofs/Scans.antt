-- What a look at all pages finds: the least recently used page, and whether each page is settled.
use Rattle.std.proofs.Common.{◌≡◌, ◌≢◌, ℕ, ◌+◌, ◌<◌, ◌≤◌, ◌⊎◌, inl, inr, sym, subst, refl, arith, true, false, nat_lt, Option, Some, None, MatchOption, IfNone, IfSome}
use Rattle.std.proofs.lemmas.Bool.{and_parts, false≢true}
use Rattle.tower_core.specs.declared.right.Right.{Right}
use Rattle.tower_core.specs.Sheet.{comes_first}
use Rattle.tower_core.specs.Trail.{State, HoldsNothing, IsAllSettled, IsSettled, IsLeastRecentlyUsed, IsOldest, holds}

-- the first of the first pages: the node's least recently used one, if it holds one of them
abbrev pub IsFirstOf : State → ℕ → ℕ → Option ℕ → Type 0
IsFirstOf s node pages first = MatchOption first (HoldsNothing pages s node) (IsOldest pages s node)

last_or_before : (a k : ℕ) → a < k + 1 → (a ≡ k) ⊎ (a < k)
last_or_before a k lt = grind (arith, lt)

lt_true : (a b : ℕ) → nat_lt a b ≡ true → a < b
lt_true a b e = grind (arith, e)

lt_false : (a b : ℕ) → nat_lt a b ≡ false → b ≤ a
lt_false a b e = grind (arith, e)

held : (r : Right) → holds r ≡ true → r ≢ Right.Nothing
held Right.Nothing e = absurd (false≢true e)
held Right.Read e = λ d. absurd cc
held Right.Write e = λ d. absurd cc

not_held : (r : Right) → holds r ≡ false → r ≡ Right.Nothing
not_held Right.Nothing e = refl
not_held Right.Read e = absurd cc
not_held Right.Write e = absurd cc

holds_it : (r : Right) → r ≢ Right.Nothing → holds r ≡ true
holds_it Right.Nothing d = absurd (d refl)
holds_it Right.Read d = refl
holds_it Right.Write d = refl

module _ (s : State) (node page : ℕ) where
  abbrev right : ℕ → Right
  right p = (s.column p).right node

  -- a page that comes before the first one so far is the first one
  pub comes_next : (first : Option ℕ) → IsFirstOf s node page first → comes_first s node page first ≡ true → IsOldest (page + 1) s node page
  comes_next None none comes = record {
    inside = omega arith;
    held = held (right page) comes;
    first = λ other lt has. elim (last_or_before other page lt) [
      | inl same ↦ subst (λ p. s.used page node ≤ s.used p node) (sym same) (omega arith)
      | inr before ↦ absurd (has (none other before))
    ];
  }
  comes_next (Some f) oldest comes =
      let both = and_parts (holds (right page)) (nat_lt (s.used page node) (s.used f node)) comes in
      record {
        inside = omega arith;
        held = held (right page) both.0;
        first = λ other lt has. elim (last_or_before other page lt) [
          | inl same ↦ subst (λ p. s.used page node ≤ s.used p node) (sym same) (omega arith)
          | inr before ↦ omega (arith, lt_true (s.used page node) (s.used f node) both.1, oldest.first other before has)
        ];
      }

  -- and another one leaves the first one
  pub comes_later : (first : Option ℕ) → IsFirstOf s node page first → comes_first s node page first ≡ false → IsFirstOf s node (page + 1) first
  comes_later None none later = λ other lt. elim (last_or_before other page lt) [
    | inl same ↦ subst (λ p. right p ≡ Right.Nothing) (sym same) (not_held (right page) later)
    | inr before ↦ none other before
  ]
  comes_later (Some f) oldest later = record {
    inside = omega (arith, oldest.inside);
    held = oldest.held;
    first = λ other lt has. elim (last_or_before other page lt) [
      | inl same ↦ subst (λ p. s.used f node ≤ s.used p node) (sym same)
          (lt_false (s.used page node) (s.used f node) (rw (holds_it (right page) (subst (λ p. right p ≢ Right.Nothing) same has)) at later))
      | inr before ↦ oldest.first other before has
    ];
  }

  -- a page that is not used before another keeps it the least recently used
  pub still_least : (k : ℕ) → IsLeastRecentlyUsed k s node page → comes_first s node k (Some page) ≡ false → IsLeastRecentlyUsed (k + 1) s node page
  still_least k least later other lt has = elim (last_or_before other k lt) [
    | inl same ↦ subst (λ p. s.used page node ≤ s.used p node) (sym same)
        (lt_false (s.used k node) (s.used page node) (rw (holds_it (right k) (subst (λ p. right p ≢ Right.Nothing) same has)) at later))
    | inr before ↦ least other before has
  ]

  -- one that is used before it takes that away
  pub no_longer_least : (k pages : ℕ) → k < pages → comes_first s node k (Some page) ≡ true → IsLeastRecentlyUsed pages s node page → false ≡ true
  no_longer_least k pages inside comes least =
      let both = and_parts (holds (right k)) (nat_lt (s.used k node) (s.used page node)) comes in
      absurd (omega (arith, lt_true (s.used k node) (s.used page node) both.1, least k inside (held (right k) both.0)))

pub first_none : (s : State) (node pages : ℕ) (first : Option ℕ) → IsFirstOf s node pages first → IfNone first (HoldsNothing pages s node)
first_none s node pages None none = none
first_none s node pages (Some f) oldest = tt

pub first_some : (s : State) (node pages : ℕ) (first : Option ℕ) → IsFirstOf s node pages first → IfSome first (IsOldest pages s node)
first_some s node pages None none = tt
first_some s node pages (Some f) oldest = oldest

pub first_inside : (s : State) (node pages : ℕ) (first : Option ℕ) → IsFirstOf s node pages first → IfSome first (λ p. p < pages)
first_inside s node pages None none = tt
first_inside s node pages (Some f) oldest = oldest.inside

-- one more page that is settled
pub settled_next : (s : State) (from k : ℕ) → IsAllSettled k from s → IsSettled from (s.column k) → IsAllSettled (k + 1) from s
settled_next s from k all here page lt = elim (last_or_before page k lt) [
  | inl same ↦ subst (λ p. IsSettled from (s.column p)) (sym same) here
  | inr before ↦ all page before
]
