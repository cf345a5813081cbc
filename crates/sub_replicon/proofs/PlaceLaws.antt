-- Laws of the places at which an object's bytes are refused.
use Rattle.std.proofs.Common.{◌≡◌, ◌⊎◌, ℕ, zero, suc, ◌+◌, ◌*◌, ◌<◌, ◌≤◌, Bool, true, false, cond, ltb, eqb, List, ◌∷◌, [], ◌++◌, length, Option, Some, None, Result, Ok, Err, refl, sym, ap, ◌∙◌, inl, inr, arith}
use Rattle.std.specs.Prelude.{slice_get}
use Rattle.std.proofs.lemmas.Bool.Decides.{nat_tests}
use Rattle.marshal_buf.specs.declared.door.Door.{Door}
use Rattle.marshal_buf.specs.declared.why.Short.{Short}
use Rattle.marshal_buf.specs.declared.why.BadDoor.{BadDoor}
use Rattle.marshal_buf.specs.Numbers.{number_of}
use Rattle.marshal_buf.specs.Reading.{Reading, rest_of, number_at, or_bad_at, door_at, past}
use Rattle.sub_replicon.specs.declared.TheConstants.{MAX_DOORS}
use Rattle.sub_replicon.specs.Doors.{may_follow, with_door, and_door, doors_at, may_have, so_many_at}
use Rattle.sub_replicon.specs.Laws.{IsPlace, RefusedAtAPlace}

-- the input's end, or this place
abbrev EndOr : Reading → ℕ → ℕ → Type 0
EndOr r place at = (at ≡ length r.input) ⊎ (at ≡ place)

bad_by_tests : (short same : Bool) (there : Option Door) (len place : ℕ) (bad : BadDoor) → cond short (Err (record { at = len })) (or_bad_at place (cond same there None)) ≡ Err bad → (bad.at ≡ len) ⊎ (bad.at ≡ place)
bad_by_tests true same there len place bad e = let is : record { at = len } ≡ bad = cc in inl (sym (ap (λ (b : BadDoor). b.at) is))
bad_by_tests false false there len place bad e = let is : record { at = place } ≡ bad = cc in inr (sym (ap (λ (b : BadDoor). b.at) is))
bad_by_tests false true None len place bad e = let is : record { at = place } ≡ bad = cc in inr (sym (ap (λ (b : BadDoor). b.at) is))
bad_by_tests false true (Some door) len place bad e = absurd cc

-- where a door is refused
door_place : (r : Reading) (bad : BadDoor) → door_at r ≡ Err bad → EndOr r r.at bad.at
door_place r bad e =
    bad_by_tests (ltb (length (rest_of r)) 4) (eqb (number_of 4 (rest_of r)) r.next) (slice_get r.doors r.next) (length r.input) r.at bad e

other_file : (b : Bool) (doors : List Door) (place at : ℕ) → cond b (Ok doors) (Err place) ≡ Err at → at ≡ place
other_file true doors place at e = absurd cc
other_file false doors place at e = cc

next_place : (r : Reading) (doors : List Door) (read : Result Door BadDoor) (at : ℕ) → ((bad : BadDoor) → read ≡ Err bad → EndOr r r.at bad.at) → with_door r.at doors read ≡ Err at → EndOr r r.at at
next_place r doors (Ok door) at places e = inr (other_file (may_follow doors door) (doors ++ door ∷ []) r.at at e)
next_place r doors (Err bad) at places e = let same : bad.at ≡ at = cc in rw same at (places bad refl)

-- the input's end, or the place of one of the first n indices
abbrev AmongFirst : ℕ → Reading → ℕ → Type 0
AmongFirst n r at = (at ≡ length r.input) ⊎ ((k : ℕ) × (k < n) × (at ≡ r.at + 4 * k))

one_further : (n : ℕ) (r : Reading) (at : ℕ) → AmongFirst n r at → AmongFirst (suc n) r at
one_further n r at (inl end) = inl end
one_further n r at (inr place) = inr (place.0, omega (arith, place.1), place.2)

last_place : (n : ℕ) (r : Reading) (at : ℕ) → EndOr (past (4 * n) n r) (past (4 * n) n r).at at → AmongFirst (suc n) r at
last_place n r at (inl end) = inl end
last_place n r at (inr place) = inr (n, omega arith, place)

more_place : (n : ℕ) (r : Reading) (before : Result (List Door) ℕ) (at : ℕ) → ((a : ℕ) → before ≡ Err a → AmongFirst n r a) → and_door (past (4 * n) n r) before ≡ Err at → AmongFirst (suc n) r at
more_place n r (Ok doors) at places e = last_place n r at (next_place (past (4 * n) n r) doors (door_at (past (4 * n) n r)) at (door_place (past (4 * n) n r)) e)
more_place n r (Err a) at places e = one_further n r at (places at e)

doors_place : (n : ℕ) (r : Reading) (at : ℕ) → doors_at n r ≡ Err at → AmongFirst n r at
doors_place zero r at e = absurd cc
doors_place (suc n) r at e = more_place n r (doors_at n r) at (λ a h. doors_place n r a h) e

among_place : (n : ℕ) (r : Reading) (at : ℕ) → n ≤ MAX_DOORS → AmongFirst n (past 4 0 (past 2 0 r)) at → IsPlace r at
among_place n r at few (inl end) = inl end
among_place n r at few (inr place) = inr (inr (place.0, omega (arith, place.1), omega (arith, place.2)))

few_doors : (n : ℕ) → may_have n ≡ true → n ≤ MAX_DOORS
few_doors n may = grind (arith, nat_tests)

by_number : (b : Bool) (n : ℕ) (r : Reading) (at : ℕ) → may_have n ≡ b → cond b (doors_at n (past 4 0 (past 2 0 r))) (Err (past 2 0 r).at) ≡ Err at → IsPlace r at
by_number true n r at may e = among_place n r at (few_doors n may) (doors_place n (past 4 0 (past 2 0 r)) at e)
by_number false n r at may e = let same : r.at + 2 ≡ at = cc in inr (inl (sym same))

number_by_test : (b : Bool) (n : ℕ) (r : Reading) (short : Short) → cond b (Err (record { at = length r.input })) (Ok n) ≡ Err short → short.at ≡ length r.input
number_by_test true n r short e = let is : record { at = length r.input } ≡ short = cc in sym (ap (λ (s : Short). s.at) is)
number_by_test false n r short e = absurd cc

by_read : (r : Reading) (read : Result ℕ Short) (at : ℕ) → ((short : Short) → read ≡ Err short → short.at ≡ length r.input) → so_many_at (past 2 0 r) read ≡ Err at → IsPlace r at
by_read r (Ok n) at cut e = by_number (may_have n) n r at refl e
by_read r (Err short) at cut e = let same : short.at ≡ at = cc in inl (sym same ∙ cut short refl)

pub refused_at_a_place : RefusedAtAPlace
refused_at_a_place r at e =
    let behind = past 2 0 r in
    by_read r (number_at 4 behind) at (λ short h. number_by_test (ltb (length (rest_of behind)) 4) (number_of 4 (rest_of behind)) r short h) e
