-- Lists that only grow, and the callers whose entries a seat alone may add.
use Rattle.std.specs.Prelude.{◌≡◌, ℕ, ◌≤◌, Bool, true, false, ◌&&◌, ltb, leb, List, [], ◌∷◌, ◌++◌, length, Option, Some, None, cond}

-- whether the caller is there and lies in the range from first up to end
abbrev pub in_range : ℕ → ℕ → Option ℕ → Bool
in_range first end None = false
in_range first end (Some c) = leb first c && ltb c end

-- no caller, or one of the range
abbrev pub may_add : ℕ → ℕ → Option ℕ → Bool
may_add first end None = true
may_add first end (Some c) = leb first c && ltb c end

module _ {E : Type 0} where
  -- no entry of the list is one of p's
  abbrev pub Quiet : (E → Bool) → List E → Type 0
  Quiet p [] = Unit {0}
  Quiet p (x ∷ xs) = (p x ≡ false) × Quiet p xs

  -- each entry of the list is one of p's
  abbrev pub Each : (E → Bool) → List E → Type 0
  Each p [] = Unit {0}
  Each p (x ∷ xs) = (p x ≡ true) × Each p xs

  -- the list `all` begins with `seen`, and has none of p's entries after it
  pub record Follows (p : E → Bool) (seen all : List E) : Type 0 where
    pub rest : List E
    pub whole : all ≡ seen ++ rest
    pub quiet : Quiet p rest

  -- the longer of two lists; the first of two that are equally long
  abbrev pub longer : List E → List E → List E
  longer xs ys = cond (ltb (length xs) (length ys)) ys xs

-- the new list is the old one with at most one entry more, whose caller, if it has one, is in the range
pub record Grows {E : Type 0} (caller : E → Option ℕ) (first end : ℕ) (old new : List E) : Type 0 where
  pub added : List E
  pub whole : new ≡ old ++ added
  pub one : length added ≤ 1
  pub callers : Each (λ e. may_add first end (caller e)) added

-- the list is the opening one and then entries whose callers, if they have one, are in the range
pub record Added {E : Type 0} (caller : E → Option ℕ) (first end : ℕ) (opening all : List E) : Type 0 where
  pub more : List E
  pub whole : all ≡ opening ++ more
  pub callers : Each (λ e. may_add first end (caller e)) more
