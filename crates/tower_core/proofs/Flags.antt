-- Tables filled node by node.
use Rattle.std.proofs.Common.{◌≡◌, ◌≢◌, ℕ, ◌+◌, ◌<◌, inl, inr, sym, ◌∙◌, subst, arith, List, length, get_or, get_or-set_other}
use Rattle.std.proofs.Math.ListN.{set}
use Rattle.std.proofs.lemmas.List.{get_or-set_same}
use Rattle.tower_core.proofs.Ranks.{same_or_not}

pub set_other : {A : Type 0} (xs : List A) (i n : ℕ) (v d : A) → n ≢ i → get_or (set xs i v) n d ≡ get_or xs n d
set_other xs i n v d other = get_or-set_other xs i n v d other

-- one more value in its place
pub filled : {A : Type 0} (xs : List A) (i : ℕ) (v d : A) (f : ℕ → A) → i < length xs → v ≡ f i → ((n : ℕ) → n < i → get_or xs n d ≡ f n) → (n : ℕ) → n < i + 1 → get_or (set xs i v) n d ≡ f n
filled xs i v d f inside is done n lt = elim (same_or_not n i) [
  | inl same ↦ subst (λ m. get_or (set xs i v) m d ≡ f m) (sym same) (get_or-set_same xs i v d inside ∙ is)
  | inr other ↦ set_other xs i n v d other ∙ done n (omega arith)
]
