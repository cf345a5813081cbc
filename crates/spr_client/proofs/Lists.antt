-- Lists and results.
use Rattle.std.proofs.Common.{◌≡◌, ◌==◌, Bool, false, List, [], ◌∷◌, length, Result, Ok, Err, IfOk, refl, ◌∙◌, arith}

-- a result told otherwise
pub ok-as : {A E : Type 0} (r : Result A E) (a b : A) → a ≡ b → IfOk r (λ found. found ≡ a) → IfOk r (λ found. found ≡ b)
ok-as (Ok found) a b e is = is ∙ e
ok-as (Err err) a b e is = tt

pub none-behind : {A : Type 0} (xs : List A) → length xs ≡ 0 → xs ≡ []
none-behind [] e = refl
none-behind (x ∷ xs) e = absurd (omega arith)

pub one-behind : {A : Type 0} (xs : List A) (b : Bool) → b ≡ false → b ≡ (length xs == 0) → (x : A) × (rest : List A) × (xs ≡ x ∷ rest)
one-behind [] b none e = absurd cc
one-behind (x ∷ xs) b none e = (x, xs, refl)
