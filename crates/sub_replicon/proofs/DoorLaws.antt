-- Laws of doors that are read one after the other.
use Rattle.std.proofs.Common.{false, ltb, eqb, drop, Option, Some, None, append_assoc, refl, length, take, get_or, eq-eqb, ◌≡◌, ℕ, zero, suc, ◌+◌, ◌-◌, ◌*◌, ◌<◌, Bool, true, cond, List, [], ◌∷◌, ◌++◌, Result, Ok, Err, sym, ap, subst, ◌∙◌, add-one, zero-add, eqb-true, arith}
use Rattle.marshal_buf.specs.declared.door.Door.{Door}
use Rattle.marshal_buf.specs.Numbers.{number_bytes, number_of}
use Rattle.std.specs.Prelude.{slice_get}
use Rattle.marshal_buf.specs.declared.why.BadDoor.{BadDoor}
use Rattle.marshal_buf.specs.Reading.{Reading, rest_of, number_at, or_bad_at, door_at, past, Takes}
use Rattle.sub_replicon.specs.Replicas.{AreOfOneFile}
use Rattle.sub_replicon.specs.Forms.{index_bytes, doors_bytes}
use Rattle.sub_replicon.specs.Doors.{doors_left, TakesDoors, may_follow, with_door, and_door, doors_at, may_have, so_many_at, replicas_at}
use Rattle.sub_replicon.proofs.Lists.{all_and, all_get}
use Rattle.sub_core.proofs.Taken.{past_past, taken_both}

-- a loop that stands behind n doors
one_more : (n : ℕ) (r now : Reading) (doors : List Door) → doors_at n r ≡ Ok doors → now ≡ past (4 * n) n r → doors_at (suc n) r ≡ with_door now.at doors (door_at now)
one_more n r now doors value place =
    ap (and_door (past (4 * n) n r)) value
    ∙ ap (λ (at : Reading). with_door at.at doors (door_at at)) (sym place)

pub doors_more : (n : ℕ) (r now : Reading) (doors : List Door) (door : Door) → doors_at n r ≡ Ok doors → now ≡ past (4 * n) n r → with_door now.at doors (door_at now) ≡ Ok (doors ++ door ∷ []) → doors_at (n + 1) r ≡ Ok (doors ++ door ∷ [])
doors_more n r now doors door value place step =
    ap (λ (k : ℕ). doors_at k r) (add-one n) ∙ one_more n r now doors value place ∙ step

-- what cannot stand is not mended by what follows
err_stays : (k n : ℕ) (r : Reading) (at : ℕ) → doors_at n r ≡ Err at → doors_at (n + k) r ≡ Err at
err_stays zero n r at e =
    let sum : n + 0 ≡ n = omega arith in
    ap (λ (m : ℕ). doors_at m r) sum ∙ e
err_stays (suc k) n r at e =
    let sum : n + suc k ≡ suc (n + k) = omega arith in
    ap (λ (m : ℕ). doors_at m r) sum ∙ ap (and_door (past (4 * (n + k)) (n + k) r)) (err_stays k n r at e)

pub doors_stop : (number n : ℕ) (r now : Reading) (doors : List Door) (at : ℕ) → n < number → doors_at n r ≡ Ok doors → now ≡ past (4 * n) n r → with_door now.at doors (door_at now) ≡ Err at → doors_at number r ≡ Err at
doors_stop number n r now doors at within value place step =
    let sum : number ≡ suc n + (number - suc n) = omega arith in
    ap (λ (m : ℕ). doors_at m r) sum
    ∙ err_stays (number - suc n) (suc n) r at (one_more n r now doors value place ∙ step)

pub one_file_more : (doors : List Door) (door : Door) → AreOfOneFile doors → may_follow doors door ≡ true → AreOfOneFile (doors ++ door ∷ [])
one_file_more [] door of may = tt
one_file_more (first ∷ doors) door of may = all_and (λ (d : Door). d.file ≡ first.file) doors door of (eqb-true door.file first.file may)

pub place_more : (n : ℕ) (r now new : Reading) → now ≡ past (4 * n) n r → new ≡ past 4 1 now → new ≡ past (4 * (n + 1)) (n + 1) r
place_more n r now new place step =
    let bytes : 4 * n + 4 ≡ 4 * (n + 1) = omega arith in
    step ∙ ap (past 4 1) place ∙ past_past (4 * n) n 4 1 r ∙ ap (λ (k : ℕ). past k (n + 1) r) bytes

pub index_bytes_more : (first n : ℕ) → index_bytes first (n + 1) ≡ index_bytes first n ++ number_bytes 4 (first + n)
index_bytes_more first n = ap (index_bytes first) (add-one n)

pub taken_more : (n : ℕ) (r now new : Reading) → now ≡ past (4 * n) n r → Takes (index_bytes r.next n) n r now → Takes (number_bytes 4 now.next) 1 now new → Takes (index_bytes r.next (n + 1)) (n + 1) r new
taken_more n r now new place front last =
    let index : number_bytes 4 now.next ≡ number_bytes 4 (r.next + n) = ap (λ (at : Reading). number_bytes 4 at.next) place in
    let both = taken_both (index_bytes r.next n) (number_bytes 4 now.next) n 1 r now new front last in
    let bytes : index_bytes r.next n ++ number_bytes 4 now.next ≡ index_bytes r.next (n + 1) =
    ap (λ (xs : List ℕ). index_bytes r.next n ++ xs) index ∙ sym (index_bytes_more r.next n) in
    subst (λ (xs : List ℕ). Takes xs (n + 1) r new) bytes both

-- the number, and then the doors
pub replicas_by : (n : ℕ) (r mid : Reading) (read : Result (List Door) ℕ) → number_at 4 r ≡ Ok n → may_have n ≡ true → mid ≡ past 4 0 r → doors_at n mid ≡ read → replicas_at r ≡ read
replicas_by n r mid read number may place value =
    ap (so_many_at r) number
    ∙ ap (λ (b : Bool). cond b (doors_at n (past 4 0 r)) (Err r.at)) may
    ∙ ap (doors_at n) (sym place)
    ∙ value

pub taken_all : (n : ℕ) (r mid new : Reading) → mid ≡ past 4 0 r → Takes (number_bytes 4 n) 0 r mid → Takes (index_bytes mid.next n) n mid new → Takes (doors_bytes r.next n) n r new
taken_all n r mid new place front back =
    let both = taken_both (number_bytes 4 n) (index_bytes mid.next n) 0 n r mid new front back in
    let none : r.next + 0 ≡ r.next = omega arith in
    let index : mid.next ≡ r.next = ap (λ (at : Reading). at.next) place ∙ none in
    let same : Takes (doors_bytes r.next n) (0 + n) r new = subst (λ (first : ℕ). Takes (doors_bytes first n) (0 + n) r new) index both in
    subst (λ (k : ℕ). Takes (doors_bytes r.next n) k r new) (zero-add n) same

-- stands for a door behind the last one
abbrev pub no_door : Door
no_door = record { node = 0; file = 0 }

-- doors of one file, of which the first k were read
pub may_be_next : (doors : List Door) (k : ℕ) → k < length doors → AreOfOneFile doors → may_follow (take k doors) (get_or doors k no_door) ≡ true
may_be_next [] k within of = absurd (omega arith)
may_be_next (first ∷ doors) zero within of = refl
may_be_next (first ∷ doors) (suc k) within of = eq-eqb (get_or doors k no_door).file first.file (all_get (λ (door : Door). door.file ≡ first.file) doors k no_door (omega arith) of)

there_by_tests : (short same : Bool) (bad : BadDoor) (at : ℕ) (there : Option Door) (door : Door) → cond short (Err bad) (or_bad_at at (cond same there None)) ≡ Ok door → there ≡ Some door
there_by_tests true same bad at there door e = absurd cc
there_by_tests false false bad at there door e = absurd cc
there_by_tests false true bad at None door e = absurd cc
there_by_tests false true bad at (Some held) door e = cc

-- a door that is read is the next one
pub door_there : (r : Reading) (door : Door) → door_at r ≡ Ok door → slice_get r.doors r.next ≡ Some door
door_there r door e =
    there_by_tests (ltb (length (rest_of r)) 4) (eqb (number_of 4 (rest_of r)) r.next) (record { at = length r.input }) r.at (slice_get r.doors r.next) door e

drop_next : (xs : List Door) (i : ℕ) (door : Door) → slice_get xs i ≡ Some door → drop i xs ≡ door ∷ drop (i + 1) xs
drop_next [] i door e = absurd cc
drop_next (x ∷ xs) zero door e =
    let same : x ≡ door = cc in
    ap (λ (first : Door). first ∷ xs) same
drop_next (x ∷ xs) (suc i) door e =
    let sum : suc (i + 1) ≡ suc i + 1 = omega arith in
    drop_next xs i door e ∙ ap (λ (n : ℕ). door ∷ drop n (x ∷ xs)) sum

pub takes_more : (r now new : Reading) (doors : List Door) (door : Door) → TakesDoors doors r now → slice_get now.doors now.next ≡ Some door → new ≡ past 4 1 now → TakesDoors (doors ++ door ∷ []) r new
takes_more r now new doors door takes there place =
    takes
    ∙ ap (λ (left : List Door). doors ++ left) (drop_next now.doors now.next door there ∙ ap (λ (at : Reading). door ∷ doors_left at) (sym place))
    ∙ sym (append_assoc doors (door ∷ []) (doors_left new))

-- what stands before the doors takes none
pub takes_behind : (k : ℕ) (r mid new : Reading) (doors : List Door) → mid ≡ past k 0 r → TakesDoors doors mid new → TakesDoors doors r new
takes_behind k r mid new doors place takes =
    let none : r.next + 0 ≡ r.next = omega arith in
    sym (ap (λ (n : ℕ). drop n r.doors) none) ∙ sym (ap doors_left place) ∙ takes
