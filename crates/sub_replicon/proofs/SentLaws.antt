-- Laws of replicon objects that are sent.
use Rattle.std.proofs.Common.{◌≡◌, ℕ, zero, suc, ◌+◌, ◌-◌, ◌*◌, ◌^◌, ◌<◌, ◌≤◌, Bool, true, false, cond, List, [], ◌∷◌, ◌++◌, length, take, drop, get_or, map, Some, Result, Ok, Err, refl, sym, ap, subst, ◌∙◌, add-one, append_assoc, length-append, lit<, arith}
use Rattle.std.specs.Prelude.{slice_get}
use Rattle.std.specs.Option.{option_map}
use Rattle.std.proofs.lemmas.List.{append-nil, drop_at, take_all, take_more}
use Rattle.std.proofs.lemmas.Bool.Decides.{nat_tests}
use Rattle.marshal_buf.specs.declared.door.Door.{Door}
use Rattle.marshal_buf.specs.Numbers.{number_bytes}
use Rattle.marshal_buf.specs.Reading.{Reading, rest_of, number_at, door_at, past}
use Rattle.marshal_buf.proofs.NumberLaws.{length-number_bytes}
use Rattle.marshal_buf.proofs.Readings.{number_is_read, door_is_read, rest_behind}
use Rattle.sub_replicon.specs.declared.TheConstants.{REPLICON, MAX_DOORS}
use Rattle.sub_replicon.specs.Replicas.{AreOfOneFile}
use Rattle.sub_replicon.specs.Routes.{route_by}
use Rattle.sub_replicon.specs.Forms.{index_bytes, doors_bytes, replicon_bytes}
use Rattle.sub_replicon.specs.Doors.{may_follow, with_door, and_door, doors_at, may_have, so_many_at, replicas_behind}
use Rattle.sub_replicon.specs.Laws.{ComesNext, IdIsRead, DoorsAreRead, SentComesNext, RoutesArrive}
use Rattle.sub_replicon.proofs.DomainLaws.{holds_len}
use Rattle.sub_replicon.proofs.DoorLaws.{no_door, may_be_next}

-- the indices of these doors come next, with the doors, and more may follow
record IndicesNext (doors : List Door) (r : Reading) : Type 0 where
  more : List ℕ
  more_doors : List Door
  bytes : rest_of r ≡ index_bytes r.next (length doors) ++ more
  there : drop r.next r.doors ≡ doors ++ more_doors
  few : r.next + length doors ≤ 2 ^ 32

length-index_bytes : (first n : ℕ) → length (index_bytes first n) ≡ 4 * n
length-index_bytes first zero = refl
length-index_bytes first (suc n) =
    let front = length-index_bytes first n in
    let last = length-number_bytes 4 (first + n) in
    length-append (index_bytes first n) (number_bytes 4 (first + n)) ∙ omega (arith, front, last)

-- the indices before one, that one, and those behind it
record IndexAt (first k n : ℕ) : Type 0 where
  behind : List ℕ
  parts : index_bytes first n ≡ index_bytes first k ++ (number_bytes 4 (first + k) ++ behind)

index_last : (first k : ℕ) → IndexAt first k (suc k)
index_last first k =
    record { behind = []; parts = ap (λ (xs : List ℕ). index_bytes first k ++ xs) (sym (append-nil (number_bytes 4 (first + k)))) }

index_more : (first k n : ℕ) → IndexAt first k n → IndexAt first k (suc n)
index_more first k n at =
    record {
      behind = at.behind ++ number_bytes 4 (first + n);
      parts =
          ap (λ (xs : List ℕ). xs ++ number_bytes 4 (first + n)) at.parts
          ∙ append_assoc (index_bytes first k) (number_bytes 4 (first + k) ++ at.behind) (number_bytes 4 (first + n))
          ∙ ap (λ (xs : List ℕ). index_bytes first k ++ xs) (append_assoc (number_bytes 4 (first + k)) at.behind (number_bytes 4 (first + n)));
    }

index_by : (first k j : ℕ) → IndexAt first k (suc k + j)
index_by first k zero = let sum : suc k + 0 ≡ suc k = omega arith in subst (IndexAt first k) (sym sum) (index_last first k)
index_by first k (suc j) =
    let sum : suc k + suc j ≡ suc (suc k + j) = omega arith in
    subst (IndexAt first k) (sym sum) (index_more first k (suc k + j) (index_by first k j))

index_at : (first k n : ℕ) → k < n → IndexAt first k n
index_at first k n within =
    let sum : suc k + (n - suc k) ≡ n = omega arith in subst (IndexAt first k) sum (index_by first k (n - suc k))

get_dropped : (xs : List Door) (a k : ℕ) → slice_get xs (a + k) ≡ slice_get (drop a xs) k
get_dropped xs zero k = let sum : 0 + k ≡ k = omega arith in ap (slice_get xs) sum
get_dropped [] (suc a) k = refl
get_dropped (x ∷ xs) (suc a) k =
    let sum : suc a + k ≡ suc (a + k) = omega arith in ap (slice_get (x ∷ xs)) sum ∙ get_dropped xs a k

get_in : (xs more : List Door) (k : ℕ) → k < length xs → slice_get (xs ++ more) k ≡ Some (get_or xs k no_door)
get_in [] more k within = absurd (omega arith)
get_in (x ∷ xs) more zero within = refl
get_in (x ∷ xs) more (suc k) within = get_in xs more k (omega arith)

-- the door k of those whose indices come next
door_is_next : (doors : List Door) (r : Reading) (k : ℕ) → k < length doors → IndicesNext doors r → door_at (past (4 * k) k r) ≡ Ok (get_or doors k no_door)
door_is_next doors r k within next =
    let at = index_at r.next k (length doors) within in
    let bytes : rest_of r ≡ index_bytes r.next k ++ (number_bytes 4 (r.next + k) ++ (at.behind ++ next.more)) =
    next.bytes
    ∙ ap (λ (xs : List ℕ). xs ++ next.more) at.parts
    ∙ append_assoc (index_bytes r.next k) (number_bytes 4 (r.next + k) ++ at.behind) next.more
    ∙ ap (λ (xs : List ℕ). index_bytes r.next k ++ xs) (append_assoc (number_bytes 4 (r.next + k)) at.behind next.more) in
    let rest = rest_behind (index_bytes r.next k) (number_bytes 4 (r.next + k) ++ (at.behind ++ next.more)) (4 * k) k r (length-index_bytes r.next k) bytes in
    let small : r.next + k < 2 ^ 32 = omega (arith, next.few) in
    let there : slice_get r.doors (r.next + k) ≡ Some (get_or doors k no_door) =
    get_dropped r.doors r.next k
    ∙ ap (λ (xs : List Door). slice_get xs k) next.there
    ∙ get_in doors next.more_doors k within in
    door_is_read (past (4 * k) k r) (get_or doors k no_door) (at.behind ++ next.more) small there rest

with_ok : (b : Bool) (xs ys : List Door) (at : ℕ) → cond b (Ok xs) (Err at) ≡ Ok ys → ys ≡ xs
with_ok true xs ys at e = cc
with_ok false xs ys at e = absurd cc

-- one more door, where the doors before it could be read
one_more_is : (r : Reading) (before : Result (List Door) ℕ) (door : Door) (front doors : List Door) → door_at r ≡ Ok door → ((xs : List Door) → before ≡ Ok xs → xs ≡ front) → and_door r before ≡ Ok doors → doors ≡ front ++ door ∷ []
one_more_is r (Err at) door front doors here before e = absurd cc
one_more_is r (Ok xs) door front doors here before e =
    let read = sym (ap (with_door r.at xs) here) ∙ e in
    with_ok (may_follow xs door) (xs ++ door ∷ []) doors r.at read
    ∙ ap (λ (ys : List Door). ys ++ door ∷ []) (before xs refl)

-- what is read of the first k of these doors is these doors
first_are : (doors : List Door) (r : Reading) (k : ℕ) (read : List Door) → k ≤ length doors → IndicesNext doors r → doors_at k r ≡ Ok read → read ≡ take k doors
first_are doors r zero read within next e = cc
first_are doors r (suc k) read within next e =
    let less : k < length doors = omega arith in
    let le : k ≤ length doors = omega arith in
    one_more_is (past (4 * k) k r) (doors_at k r) (get_or doors k no_door) (take k doors) read (door_is_next doors r k less next) (λ xs h. first_are doors r k xs le next h) e
    ∙ sym (ap (λ (n : ℕ). take n doors) (sym (add-one k)) ∙ take_more doors k no_door less)

-- if they are of one file, the first k of these doors are read
first_are_read : (doors : List Door) (r : Reading) (k : ℕ) → k ≤ length doors → AreOfOneFile doors → IndicesNext doors r → doors_at k r ≡ Ok (take k doors)
first_are_read doors r zero within of next = refl
first_are_read doors r (suc k) within of next =
    let less : k < length doors = omega arith in
    let le : k ≤ length doors = omega arith in
    let front = first_are_read doors r k le of next in
    let place = past (4 * k) k r in
    let more : Result (List Door) ℕ = Ok (take k doors ++ get_or doors k no_door ∷ []) in
    ap (and_door place) front
    ∙ ap (with_door place.at (take k doors)) (door_is_next doors r k less next)
    ∙ ap (λ (b : Bool). cond b more (Err place.at)) (may_be_next doors k less of)
    ∙ ap (λ (xs : List Door). Ok xs) (sym (ap (λ (n : ℕ). take n doors) (sym (add-one k)) ∙ take_more doors k no_door less))

-- an object's bytes and what follows them, from the identifier on
parts : (first n : ℕ) (more : List ℕ) → replicon_bytes first n ++ more ≡ number_bytes 2 REPLICON ++ (number_bytes 4 n ++ (index_bytes first n ++ more))
parts first n more =
    append_assoc (number_bytes 2 REPLICON) (doors_bytes first n) more
    ∙ ap (λ (xs : List ℕ). number_bytes 2 REPLICON ++ xs) (append_assoc (number_bytes 4 n) (index_bytes first n) more)

pub id_is_read : IdIsRead
id_is_read r doors next =
    let n = length doors in
    number_is_read r 2 REPLICON (number_bytes 4 n ++ (index_bytes r.next n ++ next.more)) (lit< tt) (next.bytes ∙ parts r.next n next.more)

-- what comes behind the identifier
rest_behind_id : (doors : List Door) (r : Reading) (next : ComesNext doors r) → rest_of (past 2 0 r) ≡ number_bytes 4 (length doors) ++ (index_bytes r.next (length doors) ++ next.more)
rest_behind_id doors r next =
    let n = length doors in
    rest_behind (number_bytes 2 REPLICON) (number_bytes 4 n ++ (index_bytes r.next n ++ next.more)) 2 0 r (length-number_bytes 2 REPLICON) (next.bytes ∙ parts r.next n next.more)

-- the number of doors, which comes behind the identifier
number_next : (doors : List Door) (r : Reading) → length doors ≤ MAX_DOORS → ComesNext doors r → number_at 4 (past 2 0 r) ≡ Ok (length doors)
number_next doors r few next =
    number_is_read (past 2 0 r) 4 (length doors) (index_bytes r.next (length doors) ++ next.more) (omega arith) (rest_behind_id doors r next)

-- and behind the number the indices
indices_next : (doors : List Door) (r : Reading) → ComesNext doors r → IndicesNext doors (past 4 0 (past 2 0 r))
indices_next doors r next =
    let n = length doors in
    let index : r.next + 0 + 0 ≡ r.next = omega arith in
    let rest = rest_behind (number_bytes 4 n) (index_bytes r.next n ++ next.more) 4 0 (past 2 0 r) (length-number_bytes 4 n) (rest_behind_id doors r next) in
    record {
      more = next.more;
      more_doors = next.more_doors;
      bytes = rest ∙ ap (λ (first : ℕ). index_bytes first n ++ next.more) (sym index);
      there = ap (λ (first : ℕ). drop first r.doors) index ∙ next.there;
      few = omega (arith, next.few);
    }

may_have_some : (n : ℕ) → 1 ≤ n → n ≤ MAX_DOORS → may_have n ≡ true
may_have_some n some few = grind (arith, nat_tests)

pub doors_are_read : DoorsAreRead
doors_are_read r doors are next =
    let n = length doors in
    let behind = past 2 0 r in
    let mid = past 4 0 behind in
    ap (so_many_at behind) (number_next doors r are.few next)
    ∙ ap (λ (b : Bool). cond b (doors_at n mid) (Err behind.at)) (may_have_some n are.some are.few)
    ∙ first_are_read doors mid n (omega arith) are.one_file (indices_next doors r next)
    ∙ ap (λ (xs : List Door). Ok xs) (take_all n doors (omega arith))

pub sent_comes_next : SentComesNext
sent_comes_next from object start is =
    let old = is.old in
    let sent = is.sent in
    let stands = is.stands in
    let n = length sent.doors in
    let bytes = replicon_bytes (length old.doors) n in
    let input : start.input ≡ old.bytes ++ (bytes ++ stands.more) =
    stands.input ∙ ap (λ (xs : List ℕ). xs ++ stands.more) sent.puts.bytes ∙ append_assoc old.bytes bytes stands.more in
    let doors : start.doors ≡ old.doors ++ (sent.doors ++ stands.more_doors) =
    stands.doors ∙ ap (λ (xs : List Door). xs ++ stands.more_doors) sent.puts.doors ∙ append_assoc old.doors sent.doors stands.more_doors in
    let len = holds_len from object.doors sent.doors sent.held in
    record {
      more = stands.more;
      more_doors = stands.more_doors;
      bytes = rw (stands.next, stands.at, input) (drop_at old.bytes (bytes ++ stands.more) (length old.bytes) refl);
      there = rw (stands.next, doors) (drop_at old.doors (sent.doors ++ stands.more_doors) (length old.doors) refl);
      few = omega (arith, stands.next, len, is.few);
    }

read_by_test : (b : Bool) (read : Result (List Door) ℕ) (doors : List Door) (at : ℕ) → cond b read (Err at) ≡ Ok doors → read ≡ Ok doors
read_by_test true read doors at e = e
read_by_test false read doors at e = absurd cc

-- what is read where these doors come next is these doors
read_are : (doors read : List Door) (r : Reading) → length doors ≤ MAX_DOORS → ComesNext doors r → replicas_behind r ≡ Ok read → read ≡ doors
read_are doors read r few next e =
    let n = length doors in
    let behind = past 2 0 r in
    let mid = past 4 0 behind in
    let read_so : cond (may_have n) (doors_at n mid) (Err behind.at) ≡ Ok read = sym (ap (so_many_at behind) (number_next doors r few next)) ∙ e in
    first_are doors mid n read (omega arith) (indices_next doors r next) (read_by_test (may_have n) (doors_at n mid) read behind.at read_so)
    ∙ take_all n doors (omega arith)

pub routes_arrive : RoutesArrive
routes_arrive from to_old to_new object received start end is got =
    let sent = is.sent in
    let len = holds_len from object.doors sent.doors sent.held in
    let few : length sent.doors ≤ MAX_DOORS = omega (arith, len, is.of.few) in
    let same : got.doors ≡ sent.doors = read_are sent.doors got.doors start few (sent_comes_next from object start is) got.read in
    ap (map (option_map route_by)) (got.begins.enter.held ∙ ap (map (λ (door : Door). Some door)) same ∙ sym sent.held)
