-- Laws of replicon objects that are bound and received.
use Rattle.std.proofs.Common.{◌≡◌, ℕ, zero, suc, ◌+◌, ◌*◌, ◌<◌, List, [], ◌∷◌, ◌++◌, length, map, Bool, true, false, cond, eqb, ltb, ◌&&◌, Option, Some, None, Result, Ok, Err, refl, sym, ap, ◌∙◌, arith, ltb-true}
use Rattle.std.specs.List.{AllByRecursion, list_all}
use Rattle.std.proofs.lemmas.Option.{cond_some}
use Rattle.std.proofs.lemmas.Bool.Decides.{nat_tests}
use Rattle.std.proofs.lemmas.List.{length-append}
use Rattle.marshal_buf.specs.declared.door.Door.{Door}
use Rattle.marshal_buf.specs.declared.why.Short.{Short}
use Rattle.marshal_buf.specs.Numbers.{number_bytes}
use Rattle.marshal_buf.specs.Reading.{Reading, rest_of, number_at, past, Takes}
use Rattle.marshal_buf.proofs.NumberLaws.{length-number_bytes}
use Rattle.domain_doors.specs.Doors.{Doors}
use Rattle.stack_accept.specs.Mount.{Mount, is_view_in}
use Rattle.sub_replicon.specs.declared.TheConstants.{REPLICON}
use Rattle.sub_replicon.specs.Domains.{Holds}
use Rattle.sub_replicon.specs.Doors.{replicas_at, replicas_behind}
use Rattle.sub_replicon.specs.Forms.{doors_bytes, index_bytes, replicon_len}
use Rattle.name_context.specs.Names.{Kept, context, object}
use Rattle.client_replicas.specs.Received.{LeadsOnto, doors_by, doors_of_id, ends_with, leads_onto, received_doors, unread}

-- a reader that stands at the start
pub unread_is : (start : Reading) (bytes : List ℕ) (doors : List Door) → start.input ≡ bytes → start.doors ≡ doors → start.at ≡ 0 → start.next ≡ 0 → start ≡ unread bytes doors
unread_is start bytes doors input ends at next =
    ap (λ (xs : List ℕ). let r : Reading = record { input = xs; doors = start.doors; at = start.at; next = start.next } in r) input
    ∙ ap (λ (xs : List Door). let r : Reading = record { input = bytes; doors = xs; at = start.at; next = start.next } in r) ends
    ∙ ap (λ (n : ℕ). let r : Reading = record { input = bytes; doors = doors; at = n; next = start.next } in r) at
    ∙ ap (λ (n : ℕ). let r : Reading = record { input = bytes; doors = doors; at = 0; next = n } in r) next

-- which doors are received, by what is read behind the identifier
pub received-by : (mount : Mount) (bytes : List ℕ) (all : List Door) (start behind : Reading) (id : ℕ) (r : Result (List Door) ℕ) → start ≡ unread bytes all → Ok id ≡ number_at 2 start → eqb id REPLICON ≡ true → behind ≡ past 2 0 start → r ≡ replicas_at behind
    → doors_by mount bytes all r ≡ doors_of_id mount bytes all (number_at 2 (unread bytes all))
received-by mount bytes all start behind id r from is test place read =
    let there : behind ≡ past 2 0 (unread bytes all) = place ∙ ap (past 2 0) from in
    ap (doors_by mount bytes all) (read ∙ ap replicas_at there)
    ∙ sym (ap (λ (b : Bool). cond b (doors_by mount bytes all (replicas_behind (unread bytes all))) None) test)
    ∙ ap (doors_of_id mount bytes all) (is ∙ ap (number_at 2) from)

length-index_bytes : (first n : ℕ) → length (index_bytes first n) ≡ 4 * n
length-index_bytes first zero = refl
length-index_bytes first (suc n) =
    let both = length-append (index_bytes first n) (number_bytes 4 (first + n)) in
    let here = length-index_bytes first n in
    let four = length-number_bytes 4 (first + n) in
    omega (arith, both, here, four)

-- the test whether nothing is left behind an object
none_left : (n size left : ℕ) → n ≡ size + left → eqb n size ≡ eqb left 0
none_left n size left is = grind (arith, nat_tests, is)

-- an object was read to the end exactly if nothing is left
ends_if : (bytes : List ℕ) (all : List Door) (id n : ℕ) (start behind end : Reading) → start ≡ unread bytes all → Takes (number_bytes 2 id) 0 start behind → Takes (doors_bytes behind.next n) n behind end
    → eqb (length bytes) (replicon_len n) ≡ eqb (length (rest_of end)) 0
ends_if bytes all id n start behind end from first second =
    let whole : bytes ≡ rest_of start = sym (ap rest_of from) in
    let outer = length-append (number_bytes 2 id) (rest_of behind) in
    let middle = length-append (doors_bytes behind.next n) (rest_of end) in
    let inner = length-append (number_bytes 4 n) (index_bytes behind.next n) in
    let two = length-number_bytes 2 id in
    let four = length-number_bytes 4 n in
    let more = length-index_bytes behind.next n in
    let sum : length bytes ≡ length (rest_of start) = ap length whole in
    let start_len : length (rest_of start) ≡ length (number_bytes 2 id ++ rest_of behind) = ap length first.taken in
    let behind_len : length (rest_of behind) ≡ length (doors_bytes behind.next n ++ rest_of end) = ap length second.taken in
    none_left (length bytes) (replicon_len n) (length (rest_of end)) (omega (arith, sum, start_len, behind_len, outer, middle, inner, two, four, more))

-- which doors are received of an object that was read to the end, or not
pub received-whole : (mount : Mount) (bytes : List ℕ) (all : List Door) (start behind end : Reading) (id : ℕ) (doors : List Door) (whole lead : Bool) → start ≡ unread bytes all → Ok id ≡ number_at 2 start → eqb id REPLICON ≡ true → behind ≡ past 2 0 start
    → Ok doors ≡ replicas_at behind → Takes (number_bytes 2 id) 0 start behind → Takes (doors_bytes behind.next (length doors)) (length doors) behind end
    → whole ≡ (eqb (length (rest_of end)) 0 && eqb (length all) (length doors)) → lead ≡ list_all (leads_onto mount) doors → cond (whole && lead) (Some doors) None ≡ doors_of_id mount bytes all (number_at 2 (unread bytes all))
received-whole mount bytes all start behind end id doors whole lead from is test place read first second whole_is lead_is =
    let ends : whole ≡ ends_with doors bytes all = whole_is ∙ ap (λ (b : Bool). b && eqb (length all) (length doors)) (sym (ends_if bytes all id (length doors) start behind end from first second)) in
    ap (λ (b : Bool). cond (b && lead) (Some doors) None) ends
    ∙ ap (λ (b : Bool). cond (ends_with doors bytes all && b) (Some doors) None) lead_is
    ∙ received-by mount bytes all start behind id (Ok doors) from is test place read

both : (a b : Bool) → (a && b) ≡ true → (a ≡ true) × (b ≡ true)
both true b is = (refl, is)
both false b is = absurd cc

-- doors that lead to views and files of the stack
pub all-lead : (mount : Mount) (doors : List Door) → list_all (leads_onto mount) doors ≡ true → AllByRecursion (LeadsOnto mount) doors
all-lead mount [] is = tt
all-lead mount (door ∷ doors) is =
    let parts = both (leads_onto mount door) (list_all (leads_onto mount) doors) is in
    let one = both (is_view_in mount.nodes door.node) (ltb door.file (length mount.files)) parts.0 in
    (record { view = one.0; file = ltb-true door.file (length mount.files) one.1 }, all-lead mount doors parts.1)

-- what is received leads there
by_read : (mount : Mount) (bytes : List ℕ) (all : List Door) (r : Result (List Door) ℕ) (doors : List Door) → doors_by mount bytes all r ≡ Some doors → AllByRecursion (LeadsOnto mount) doors
by_read mount bytes all (Ok found) doors is =
    let test = cond_some (ends_with found bytes all && list_all (leads_onto mount) found) found doors is in
    rw (← test.1) (all-lead mount found (both (ends_with found bytes all) (list_all (leads_onto mount) found) test.0).1)
by_read mount bytes all (Err at) doors is = absurd cc

by_test : (mount : Mount) (bytes : List ℕ) (all : List Door) (b : Bool) (r : Result (List Door) ℕ) (doors : List Door) → cond b (doors_by mount bytes all r) None ≡ Some doors → AllByRecursion (LeadsOnto mount) doors
by_test mount bytes all true r doors is = by_read mount bytes all r doors is
by_test mount bytes all false r doors is = absurd cc

by_id : (mount : Mount) (bytes : List ℕ) (all : List Door) (id : Result ℕ Short) (doors : List Door) → doors_of_id mount bytes all id ≡ Some doors → AllByRecursion (LeadsOnto mount) doors
by_id mount bytes all (Ok id) doors is = by_test mount bytes all (eqb id REPLICON) (replicas_behind (unread bytes all)) doors is
by_id mount bytes all (Err short) doors is = absurd cc

pub received-lead : (mount : Mount) (kept : Option Kept) (doors : List Door) → received_doors mount kept ≡ Some doors → AllByRecursion (LeadsOnto mount) doors
received-lead mount (Some (object bytes all)) doors is = by_id mount bytes all (number_at 2 (unread bytes all)) doors is
received-lead mount (Some context) doors is = absurd cc
received-lead mount None doors is = absurd cc

-- two lists of doors are one if a domain holds both under the same identifiers
some_same : (xs ys : List Door) → map Some xs ≡ map Some ys → xs ≡ ys
some_same [] [] is = refl
some_same [] (y ∷ ys) is = absurd cc
some_same (x ∷ xs) [] is = absurd cc
some_same (x ∷ xs) (y ∷ ys) is =
    let first : x ≡ y = cc in
    let rest : map Some xs ≡ map Some ys = cc in
    rw (first, some_same xs ys rest) refl

pub same-doors : (domain : Doors) (ids : List ℕ) (xs ys : List Door) → Holds domain ids xs → Holds domain ids ys → xs ≡ ys
same-doors domain ids xs ys a b = some_same xs ys (sym a ∙ b)
