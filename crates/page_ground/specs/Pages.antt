-- The pages that bytes have.
use Rattle.std.specs.Prelude.{ℕ, zero, suc, Bool, ◌==◌, List, [], ◌∷◌, take, drop}
use Rattle.std.specs.List.{list_all}

-- bytes cut into this number of pages of this size
abbrev pub cut : ℕ → ℕ → List ℕ → List (List ℕ)
cut size zero bytes = []
cut size (suc n) bytes = take size bytes ∷ cut size n (drop size bytes)

-- whether each byte is zero
abbrev pub are_zeros : List ℕ → Bool
are_zeros bytes = list_all (λ b. b == 0) bytes
