-- Laws of several doors of a domain.
use Rattle.std.proofs.Common.{◌≡◌, ◌≢◌, ℕ, ◌+◌, ◌<◌, List, [], ◌∷◌, ◌++◌, length, take, drop, get_or, map, suc, Option, Some, None, refl, sym, ap, subst, ◌∙◌}
use Rattle.std.specs.Prelude.{IsSome}
use Rattle.std.proofs.lemmas.List.{length-map, map-append, take_more}
use Rattle.marshal_buf.specs.declared.door.Door.{Door}
use Rattle.domain_doors.specs.Doors.{Doors, door_at, Updates, Lacks}
use Rattle.domain_doors.specs.declared.why.NoDoor.{NoDoor}
use Rattle.sub_replicon.specs.Replicas.{IsApart, AreApart}
use Rattle.sub_replicon.specs.Domains.{doors_in, Holds, AreHeld, AreVacant, OthersStay, Leave, FirstLacking, StopsAt}
use Rattle.sub_replicon.proofs.Lists.{split_at, all_and, all_front, all_back, all_by}

held_by : (domain : Doors) (id : ℕ) (door : Door) → door_at domain id ≡ Some door → IsSome (door_at domain id)
held_by domain id door e = subst IsSome (sym e) refl

-- an identifier that has a door is not one that has none
pub held_not_vacant : (domain : Doors) (id other : ℕ) (door : Door) → door_at domain id ≡ Some door → door_at domain other ≡ None → other ≢ id
held_not_vacant domain id other door held none same = let e : door_at domain id ≡ None = subst (λ (n : ℕ). door_at domain n ≡ None) same none in absurd (cc)

-- none of the identifiers before one is that one
pub apart_before : (before : List ℕ) (id : ℕ) (after : List ℕ) → AreApart (before ++ id ∷ after) → IsApart id before
apart_before [] id after apart = tt
apart_before (x ∷ before) id after apart =
    (λ same. (all_back (λ (other : ℕ). other ≢ x) before (id ∷ after) apart.0).0 (sym same), apart_before before id after apart.1)

-- where a list of identifiers is taken apart at an index
apart_at : (ids : List ℕ) (i : ℕ) → i < length ids → AreApart ids → IsApart (get_or ids i 0) (take i ids)
apart_at ids i within apart =
    apart_before (take i ids) (get_or ids i 0) (drop (suc i) ids) (subst AreApart (split_at ids i 0 within) apart)

-- doors that are held, one by one
pub holds_held : (domain : Doors) (ids : List ℕ) (doors : List Door) → Holds domain ids doors → AreHeld domain ids
holds_held domain [] doors holds = tt
holds_held domain (id ∷ ids) [] holds = absurd cc
holds_held domain (id ∷ ids) (door ∷ doors) holds =
    let first : door_at domain id ≡ Some door = cc in
    let rest : doors_in domain ids ≡ map Some doors = cc in
    (held_by domain id door first, holds_held domain ids doors rest)

pub holds_more : (domain : Doors) (ids : List ℕ) (i : ℕ) (doors : List Door) (door : Door) → i < length ids → Holds domain (take i ids) doors → door_at domain (get_or ids i 0) ≡ Some door → Holds domain (take (i + 1) ids) (doors ++ door ∷ [])
holds_more domain ids i doors door within holds here =
    ap (doors_in domain) (take_more ids i 0 within)
    ∙ map-append (λ (id : ℕ). door_at domain id) (take i ids) (get_or ids i 0 ∷ [])
    ∙ ap (λ (front : List (Option Door)). front ++ door_at domain (get_or ids i 0) ∷ []) holds
    ∙ ap (λ (last : Option Door). map Some doors ++ last ∷ []) here
    ∙ sym (map-append Some doors (door ∷ []))

-- the first of the identifiers that has no door, where those before it have one
abbrev pub lacks_at : (domain : Doors) (ids : List ℕ) (i : ℕ) (e : NoDoor) → i < length ids → AreHeld domain (take i ids) → Lacks domain (get_or ids i 0) e → FirstLacking domain ids e
lacks_at domain ids i e within held lacks =
    record {
      before = take i ids;
      after = drop (suc i) ids;
      parts = split_at ids i 0 within ∙ ap (λ (id : ℕ). take i ids ++ id ∷ drop (suc i) ids) (sym lacks.named);
      held = held;
      absent = ap (door_at domain) lacks.named ∙ lacks.absent;
    }

-- an identifier none of which left has what it had
stays : (ids : List ℕ) (old new : Doors) (id : ℕ) (what : Option Door) → IsApart id ids → Leave ids old new → door_at new id ≡ what → door_at old id ≡ what
stays ids old new id what apart leave e = sym (leave.others id apart) ∙ e

leave_and : (ids : List ℕ) (id : ℕ) (old mid new : Doors) → IsApart id ids → Leave ids old mid → Updates mid new id None → Leave (ids ++ id ∷ []) old new
leave_and ids id old mid new apart leave updates =
    record {
      gone = all_and (λ (x : ℕ). door_at new x ≡ None) ids id
          (all_by (λ (x : ℕ). x ≢ id) (λ (x : ℕ). door_at mid x ≡ None) (λ (x : ℕ). door_at new x ≡ None) ids (λ x other gone. updates.others x other ∙ gone) apart leave.gone)
          updates.changed;
      others = λ other away.
          updates.others other (λ same. (all_back (λ (x : ℕ). x ≢ other) ids (id ∷ []) away).0 (sym same))
          ∙ leave.others other (all_front (λ (x : ℕ). x ≢ other) ids (id ∷ []) away);
    }

pub leave_more : (ids : List ℕ) (i : ℕ) (old mid new : Doors) → i < length ids → AreApart ids → Leave (take i ids) old mid → Updates mid new (get_or ids i 0) None → Leave (take (i + 1) ids) old new
leave_more ids i old mid new within apart leave updates =
    subst (λ (xs : List ℕ). Leave xs old new) (sym (take_more ids i 0 within)) (leave_and (take i ids) (get_or ids i 0) old mid new (apart_at ids i within apart) leave updates)

pub held_more : (ids : List ℕ) (i : ℕ) (old mid : Doors) (door : Door) → i < length ids → AreApart ids → AreHeld old (take i ids) → Leave (take i ids) old mid → door_at mid (get_or ids i 0) ≡ Some door → AreHeld old (take (i + 1) ids)
held_more ids i old mid door within apart held leave here =
    let there = stays (take i ids) old mid (get_or ids i 0) (Some door) (apart_at ids i within apart) leave here in
    subst (λ (xs : List ℕ). AreHeld old xs) (sym (take_more ids i 0 within)) (all_and (λ (id : ℕ). IsSome (door_at old id)) (take i ids) (get_or ids i 0) held (held_by old (get_or ids i 0) door there))

pub stops_at : (ids : List ℕ) (i : ℕ) (old mid : Doors) (e : NoDoor) → i < length ids → AreApart ids → AreHeld old (take i ids) → Leave (take i ids) old mid → Lacks mid (get_or ids i 0) e → StopsAt ids old mid e
stops_at ids i old mid e within apart held leave lacks =
    let absent = stays (take i ids) old mid (get_or ids i 0) None (apart_at ids i within apart) leave lacks.absent in
    record { first = lacks_at old ids i e within held (record { named = lacks.named; absent = absent }); leave = leave }

-- doors that are held are not lacking
pub none_lacking : (domain : Doors) (ids : List ℕ) (e : NoDoor) → AreHeld domain ids → FirstLacking domain ids e → ⊥
none_lacking domain ids e held first =
    let all : AreHeld domain (first.before ++ e.id ∷ first.after) = subst (AreHeld domain) first.parts held in
    let here : IsSome (door_at domain e.id) = (all_back (λ (id : ℕ). IsSome (door_at domain id)) first.before (e.id ∷ first.after) all).0 in
    let none : IsSome {T = Door} None = subst IsSome first.absent here in
    absurd cc

-- an identifier that has a door is none of those that have none
apart_of_vacant : (domain : Doors) (id : ℕ) (door : Door) (ids : List ℕ) → door_at domain id ≡ Some door → AreVacant domain ids → IsApart id ids
apart_of_vacant domain id door [] held vacant = tt
apart_of_vacant domain id door (x ∷ ids) held vacant =
    (held_not_vacant domain id x door held vacant.0, apart_of_vacant domain id door ids held vacant.1)

-- what is held stays where others come in
pub still_holds : (old new : Doors) (others ids : List ℕ) (doors : List Door) → AreVacant old others → OthersStay others old new → Holds old ids doors → Holds new ids doors
still_holds old new others [] [] vacant stay holds = refl
still_holds old new others [] (door ∷ doors) vacant stay holds = absurd cc
still_holds old new others (id ∷ ids) [] vacant stay holds = absurd cc
still_holds old new others (id ∷ ids) (door ∷ doors) vacant stay holds =
    let first : door_at old id ≡ Some door = cc in
    let rest : doors_in old ids ≡ map Some doors = cc in
    let here : door_at new id ≡ Some door = stay id (apart_of_vacant old id door others first vacant) ∙ first in
    ap (λ (d : Option Door). d ∷ doors_in new ids) here
    ∙ ap (λ (more : List (Option Door)). Some door ∷ more) (still_holds old new others ids doors vacant stay rest)

pub holds_len : (domain : Doors) (ids : List ℕ) (doors : List Door) → Holds domain ids doors → length doors ≡ length ids
holds_len domain ids doors holds =
    sym (length-map doors (λ (door : Door). Some door)) ∙ sym (ap length holds) ∙ length-map ids (λ (id : ℕ). door_at domain id)
