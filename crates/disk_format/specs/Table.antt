-- A table of what makes bytes no image: the first row that is met says where and why.
use Rattle.std.specs.Prelude.{ℕ, ◌+◌, ◌&&◌, ◌||◌, not, List, [], ◌∷◌, Bool, false, Option, Some, None, Result, Ok, Err, if◌then◌else◌, ◌==◌}
use Rattle.disk_format.specs.declared.why.ImageWhy.{ImageWhy}
use Rattle.disk_format.specs.declared.why.BadImage.{BadImage}

-- a row: what is wrong, if it is
abbrev pub Row : Type 0
Row = Option BadImage

-- a row of one place, which is met if something does not hold there
abbrev pub wants : Bool → ImageWhy → ℕ → Row
wants holds why place = if holds then None else Some (record { place = place; why = why })

-- a row that is met at the place that was found
abbrev pub found : ImageWhy → Option ℕ → Row
found why None = None
found why (Some place) = Some (record { place = place; why = why })

-- the first row that is met
abbrev pub first_met : List Row → Row
first_met [] = None
first_met (Some bad ∷ rows) = Some bad
first_met (None ∷ rows) = first_met rows

-- what is read if no row is met
abbrev pub unless : {X : Type 0} → Row → X → Result X BadImage
unless None x = Ok x
unless (Some bad) x = Err bad

-- the place of the first of some numbers that passes; they stand `step` bytes apart, from a place on
abbrev pub first_place : ℕ → (ℕ → Bool) → ℕ → List ℕ → Option ℕ
first_place step passes place [] = None
first_place step passes place (x ∷ xs) = if passes x then Some place else first_place step passes (place + step) xs

-- whether a number is in a list
abbrev pub is_in : List ℕ → ℕ → Bool
is_in [] x = false
is_in (y ∷ ys) x = x == y || is_in ys x

-- the place of the first number but 0 that was seen before; they stand `step` bytes apart, from a place on
abbrev pub again_place : ℕ → List ℕ → ℕ → List ℕ → Option ℕ
again_place step seen place [] = None
again_place step seen place (x ∷ xs) = if not (x == 0) && is_in seen x then Some place else again_place step (x ∷ seen) (place + step) xs
