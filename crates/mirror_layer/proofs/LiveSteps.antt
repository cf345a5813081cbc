-- Which disks of a row are live, over plain variables.
use Rattle.std.proofs.Common.{◌≡◌, ℕ, Bool, true, false, ◌||◌, List, [], ◌∷◌, ◌++◌, refl, sym, ap, ◌∙◌}
use Rattle.mirror_rules.specs.Tree.{Seat}
use Rattle.mirror_layer.specs.Came.{is_live_in, is_live_seat}

or-apart : (a b c : Bool) → ((a || b) || c) ≡ (a || (b || c))
or-apart true b c = refl
or-apart false b c = refl

-- of two rows, one behind the other
pub live_append : (xs ys : List Seat) (n : ℕ) → is_live_in (xs ++ ys) n ≡ (is_live_in xs n || is_live_in ys n)
live_append [] ys n = refl
live_append (x ∷ xs) ys n = ap (λ b. is_live_seat n x || b) (live_append xs ys n) ∙ sym (or-apart (is_live_seat n x) (is_live_in xs n) (is_live_in ys n))
