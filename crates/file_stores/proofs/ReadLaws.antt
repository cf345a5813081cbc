-- The disks of a ground while pages are read.
use Rattle.std.proofs.Common.{◌≡◌, ℕ, Bool, true, false, List, [], ◌∷◌, length, refl, ap, ◌∙◌, arith}
use Rattle.std.specs.Prelude.{IfSome}
use Rattle.page_ground.specs.declared.fault.StoreFault.{StoreFault}
use Rattle.mirror_rules.specs.Tree.{Seat, In, Out}
use Rattle.mirror_rules.specs.Claims.{Pairs, pairs_none, pairs_more}
use Rattle.mirror_rules.specs.Steps.{Done, Fault, Look, Looked, looked_out, looked_stale, looked_same, looked_refused, Named, named_here, named_later}
use Rattle.mirror_layer.specs.Calls.{all_told}
use Rattle.mirror_layer.specs.Ground.{Ground, IsGround, live_pages, pages_told, seen_of}
use Rattle.mirror_layer.proofs.GroundLaws.{pages-length}
use Rattle.file_stores.specs.Reading.{AllStay, Stays, stays_out, stays_left, stays_same, stays_failed}

stays-self : (x : Seat) → Stays false x x
stays-self (In true c) = stays_same refl
stays-self (In false c) = stays_left
stays-self (Out b s) = stays_out

row-self : (xs : List Seat) → Pairs (Stays false) xs xs
row-self [] = pairs_none
row-self (x ∷ xs) = pairs_more (stays-self x) (row-self xs)

-- no page was read yet
pub all-self : (g : Ground) → AllStay false g g
all-self g = (refl, row-self g.row)

stays-then : {r : Bool} {x y z : Seat} → Stays false x y → Stays r y z → Stays r x z
stays-then stays_out stays_out = stays_out
stays-then stays_left stays_left = stays_left
stays-then (stays_same e) h = h
stays-then (stays_failed up) (stays_same e) = stays_failed up
stays-then (stays_failed {c} {n} up) (stays_failed {n = m} more) = stays_failed (omega (arith, up, more))

row-then : {r : Bool} {xs ys zs : List Seat} → Pairs (Stays false) xs ys → Pairs (Stays r) ys zs → Pairs (Stays r) xs zs
row-then pairs_none pairs_none = pairs_none
row-then (pairs_more a h) (pairs_more b i) = pairs_more (stays-then a b) (row-then h i)

done-stays : {x y : Seat} → Looked (Done true) x y → Stays false x y
done-stays looked_out = stays_out
done-stays looked_stale = stays_left
done-stays (looked_same e) = stays_same refl
done-stays (looked_refused up) = stays_failed up

row-done : {xs ys : List Seat} → Pairs (Looked (Done true)) xs ys → Pairs (Stays false) xs ys
row-done pairs_none = pairs_none
row-done (pairs_more a h) = pairs_more (done-stays a) (row-done h)

fault-stays : {d n : ℕ} {x y : Seat} → Looked (Fault d n) x y → Stays true x y
fault-stays looked_out = stays_out
fault-stays looked_stale = stays_left
fault-stays (looked_same e) = absurd cc
fault-stays (looked_refused up) = stays_failed up

row-fault : {d n : ℕ} {xs ys : List Seat} → Pairs (Looked (Fault d n)) xs ys → Pairs (Stays true) xs ys
row-fault pairs_none = pairs_none
row-fault (pairs_more a h) = pairs_more (fault-stays a) (row-fault h)

-- one more page was read
pub all-read : (g h k : Ground) {p : ℕ} {x : List ℕ} → AllStay false g h → Look p x h.row (Done true) k.row → k ≡ record h { row = k.row } → AllStay false g k
all-read g h k so_far look rest = (rest ∙ ap (λ (v : Ground). record v { row = k.row }) so_far.0, row-then so_far.1 (row-done look.each))

-- the disk that a refusal names was live, and below its count, when the first page was read
named-then : {d n : ℕ} {xs ys zs : List Seat} → Pairs (Stays false) xs ys → Named d n ys zs → Named d n xs zs
named-then pairs_none named = elim named [ ]
named-then (pairs_more (stays_same e) h) (named_here is up most) = named_here is up most
named-then (pairs_more (stays_failed {c} {n} first) h) (named_here is up most) = named_here is (omega (arith, first, up)) most
named-then (pairs_more a h) (named_later i) = named_later (named-then h i)

-- the next page was refused
pub all-refused : (g h k : Ground) {p : ℕ} {x : List ℕ} (fault : StoreFault) → AllStay false g h → Look p x h.row (Fault fault.disk fault.count) k.row → k ≡ record h { row = k.row } → AllStay true g k × Named fault.disk fault.count g.row k.row
all-refused g h k fault so_far look rest = ((rest ∙ ap (λ (v : Ground). record v { row = k.row }) so_far.0, row-then so_far.1 (row-fault look.each)), named-then so_far.1 look.found)

-- there are as many pages as the shape says, if they are told
pub ground-many : (g : Ground) → IsGround g → IfSome (seen_of g).pages (λ ps. length ps ≡ g.shape.pages)
ground-many g is = by (all_told g.beside) (λ t. pages-length g is t)
  where
    by : (t : Bool) → (t ≡ true → length (live_pages g.row) ≡ g.shape.pages) → IfSome (pages_told t (live_pages g.row)) (λ ps. length ps ≡ g.shape.pages)
    by true many = many refl
    by false many = tt
