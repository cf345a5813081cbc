-- Laws of the open replicon objects of a client.
use Rattle.std.proofs.Common.{◌≡◌, ℕ, zero, suc, ◌+◌, ◌<◌, ◌≤◌, List, [], ◌∷◌, ◌++◌, length, take, Bool, true, false, cond, ltb, Option, Some, None, refl, sym, ap, subst, ◌∙◌, arith, ltb-true, ltb-false}
use Rattle.std.specs.Prelude.{IsSome, find, not, position, remove, slice_index_or, slice_set}
use Rattle.std.specs.List.{position_or_len}
use Rattle.std.specs.Option.{option_map}
use Rattle.std.specs.Str.{bytes_eq}
use Rattle.std.proofs.lemmas.Option.{cond_some}
use Rattle.client_replicas.specs.declared.door.OpenDoor.{OpenDoor}
use Rattle.client_replicas.specs.declared.replicas.OpenReplicon.{OpenReplicon}
use Rattle.client_replicas.specs.Objects.{doors_of, with_doors, with_replicon, without_replicon}

-- the entry of a name, and the place at which the first one stands
abbrev pub IsNamed : List ℕ → OpenReplicon → Bool
IsNamed name entry = bytes_eq entry.name name

abbrev place : List ℕ → List OpenReplicon → ℕ
place name entries = position_or_len (IsNamed name) entries

none_if : (b : Bool) (i : ℕ) → cond b (Some i) None ≡ None → b ≡ false
none_if true i is = absurd cc
none_if false i is = refl

placed : (name : List ℕ) (entries : List OpenReplicon) (i : ℕ) → position (IsNamed name) entries ≡ Some i → (place name entries ≡ i) × (i < length entries)
placed name entries i is =
    let first = cond_some (ltb (place name entries) (length entries)) (place name entries) i is in
    let lt : place name entries < length entries = ltb-true (place name entries) (length entries) first.0 in
    let same : place name entries ≡ i = first.1 in
    (same, omega arith)

unplaced : (name : List ℕ) (entries : List OpenReplicon) → position (IsNamed name) entries ≡ None → length entries ≤ place name entries
unplaced name entries is =
    ltb-false (place name entries) (length entries) (none_if (ltb (place name entries) (length entries)) (place name entries) is)

abbrev found_doors : Option OpenReplicon → Option (List OpenDoor)
found_doors found = option_map (λ (o : OpenReplicon). o.doors) found

abbrev first_named : List ℕ → List OpenReplicon → Option OpenReplicon
first_named name entries = find (λ (o : OpenReplicon). bytes_eq o.name name) entries

found_step : (b : Bool) (first entry : OpenReplicon) (entries : List OpenReplicon) (i rest : ℕ) (found : Option OpenReplicon) → cond (not b) (1 + rest) 0 ≡ i → i < length (first ∷ entries) → entry ≡ slice_index_or (first ∷ entries) i entry
    → ((j : ℕ) → rest ≡ j → j < length entries → entry ≡ slice_index_or entries j entry → found_doors found ≡ Some entry.doors)
    → found_doors (cond b (Some first) found) ≡ Some entry.doors
found_step true first entry entries zero rest found is lt at then = ap (λ (e : OpenReplicon). Some e.doors) (sym at)
found_step true first entry entries (suc i) rest found is lt at then = absurd (omega arith)
found_step false first entry entries zero rest found is lt at then = absurd (omega arith)
found_step false first entry entries (suc i) rest found is lt at then = then i (omega arith) (omega arith) at

found_at : (name : List ℕ) (entries : List OpenReplicon) (i : ℕ) (entry : OpenReplicon) → place name entries ≡ i → i < length entries → entry ≡ slice_index_or entries i entry → doors_of name entries ≡ Some entry.doors
found_at name [] i entry is lt at = absurd (omega arith)
found_at name (first ∷ entries) i entry is lt at =
    found_step (IsNamed name first) first entry entries i (place name entries) (first_named name entries) is lt at
    (λ j next below there. found_at name entries j entry next below there)

-- the doors of the object of a name
pub doors_of-at : (name : List ℕ) (entries : List OpenReplicon) (i : ℕ) (entry : OpenReplicon) → position (IsNamed name) entries ≡ Some i → entry ≡ slice_index_or entries i entry → doors_of name entries ≡ Some entry.doors
doors_of-at name entries i entry at is =
    let first = placed name entries i at in
    found_at name entries i entry first.0 first.1 is

missed_step : (b : Bool) (first : OpenReplicon) (found : Option OpenReplicon) (n rest : ℕ) → suc n ≤ cond (not b) (1 + rest) 0 → (n ≤ rest → found_doors found ≡ None) → found_doors (cond b (Some first) found) ≡ None
missed_step true first found n rest few then = absurd (omega arith)
missed_step false first found n rest few then = then (omega arith)

missed : (name : List ℕ) (entries : List OpenReplicon) → length entries ≤ place name entries → doors_of name entries ≡ None
missed name [] few = refl
missed name (entry ∷ entries) few = missed_step (IsNamed name entry) entry (first_named name entries) (length entries) (place name entries) few (missed name entries)

-- no object has the name
pub doors_of-none : (name : List ℕ) (entries : List OpenReplicon) → position (IsNamed name) entries ≡ None → doors_of name entries ≡ None
doors_of-none name entries none = missed name entries (unplaced name entries none)

without_step : (b : Bool) (entry : OpenReplicon) (entries : List OpenReplicon) (i rest : ℕ) (others : List OpenReplicon) → cond (not b) (1 + rest) 0 ≡ i → i < length (entry ∷ entries)
    → ((j : ℕ) → rest ≡ j → j < length entries → remove entries j ≡ others)
    → remove (entry ∷ entries) i ≡ cond b entries (entry ∷ others)
without_step true entry entries zero rest others is lt then = refl
without_step true entry entries (suc i) rest others is lt then = absurd (omega arith)
without_step false entry entries zero rest others is lt then = absurd (omega arith)
without_step false entry entries (suc i) rest others is lt then = ap (λ (os : List OpenReplicon). entry ∷ os) (then i (omega arith) (omega arith))

without_at : (name : List ℕ) (entries : List OpenReplicon) (i : ℕ) → place name entries ≡ i → i < length entries → remove entries i ≡ without_replicon name entries
without_at name [] i is lt = absurd (omega arith)
without_at name (entry ∷ entries) i is lt =
    without_step (IsNamed name entry) entry entries i (place name entries) (without_replicon name entries) is lt (λ j at below. without_at name entries j at below)

-- the first object of a name is given up
pub removed : (name : List ℕ) (entries : List OpenReplicon) (i : ℕ) → position (IsNamed name) entries ≡ Some i → remove entries i ≡ without_replicon name entries
removed name entries i at = let first = placed name entries i at in without_at name entries i first.0 first.1

keeps_step : (b : Bool) (first : OpenReplicon) (entries others : List OpenReplicon) (n rest : ℕ) → suc n ≤ cond (not b) (1 + rest) 0 → (n ≤ rest → others ≡ entries) → cond b entries (first ∷ others) ≡ first ∷ entries
keeps_step true first entries others n rest few then = absurd (omega arith)
keeps_step false first entries others n rest few then = ap (λ (os : List OpenReplicon). first ∷ os) (then (omega arith))

keeps_all : (name : List ℕ) (entries : List OpenReplicon) → length entries ≤ place name entries → without_replicon name entries ≡ entries
keeps_all name [] few = refl
keeps_all name (entry ∷ entries) few = keeps_step (IsNamed name entry) entry entries (without_replicon name entries) (length entries) (place name entries) few (keeps_all name entries)

-- or there is none
pub none-removed : (name : List ℕ) (entries : List OpenReplicon) → position (IsNamed name) entries ≡ None → entries ≡ without_replicon name entries
none-removed name entries none = sym (keeps_all name entries (unplaced name entries none))

set_step : (b : Bool) (entry first : OpenReplicon) (doors : List OpenDoor) (entries : List OpenReplicon) (i rest : ℕ) (others : List OpenReplicon) → cond (not b) (1 + rest) 0 ≡ i → i < length (first ∷ entries) → entry ≡ slice_index_or (first ∷ entries) i entry
    → ((j : ℕ) → rest ≡ j → j < length entries → entry ≡ slice_index_or entries j entry → slice_set entries j (record entry { doors = doors }) ≡ others)
    → slice_set (first ∷ entries) i (record entry { doors = doors }) ≡ cond b (record first { doors = doors } ∷ entries) (first ∷ others)
set_step true entry first doors entries zero rest others is lt at then = ap (λ (e : OpenReplicon). record e { doors = doors } ∷ entries) at
set_step true entry first doors entries (suc i) rest others is lt at then = absurd (omega arith)
set_step false entry first doors entries zero rest others is lt at then = absurd (omega arith)
set_step false entry first doors entries (suc i) rest others is lt at then = ap (λ (os : List OpenReplicon). first ∷ os) (then i (omega arith) (omega arith) at)

set_at : (name : List ℕ) (entries : List OpenReplicon) (i : ℕ) (entry : OpenReplicon) (doors : List OpenDoor) → place name entries ≡ i → i < length entries → entry ≡ slice_index_or entries i entry
    → slice_set entries i (record entry { doors = doors }) ≡ with_doors name doors entries
set_at name [] i entry doors is lt at = absurd (omega arith)
set_at name (first ∷ entries) i entry doors is lt at =
    set_step (IsNamed name first) entry first doors entries i (place name entries) (with_doors name doors entries) is lt at
    (λ j next below there. set_at name entries j entry doors next below there)

-- the first object of a name has other doors
pub set-doors : (name : List ℕ) (entries : List OpenReplicon) (i : ℕ) (entry : OpenReplicon) (doors : List OpenDoor) → position (IsNamed name) entries ≡ Some i → entry ≡ slice_index_or entries i entry
    → slice_set entries i (record entry { doors = doors }) ≡ with_doors name doors entries
set-doors name entries i entry doors at is = let first = placed name entries i at in set_at name entries i entry doors first.0 first.1 is

-- and has them then
some_behind : (b : Bool) (o : OpenReplicon) (found : Option OpenReplicon) → IsSome (option_map (λ (x : OpenReplicon). x.doors) (cond b (Some o) found)) → b ≡ false → IsSome (option_map (λ (x : OpenReplicon). x.doors) found)
some_behind true o found is none = absurd cc
some_behind false o found is none = is

pub doors_of-with_doors : (name : List ℕ) (doors : List OpenDoor) (objects : List OpenReplicon) → IsSome (doors_of name objects) → doors_of name (with_doors name doors objects) ≡ Some doors
doors_of-with_doors name doors [] is = absurd cc
doors_of-with_doors name doors (o ∷ os) is =
    by (λ test. doors_of-with_doors name doors os (some_behind (bytes_eq o.name name) o (find (λ (x : OpenReplicon). bytes_eq x.name name) os) is test)) (bytes_eq o.name name) refl
  where
    by : (bytes_eq o.name name ≡ false → doors_of name (with_doors name doors os) ≡ Some doors) → (b : Bool) → bytes_eq o.name name ≡ b → doors_of name (cond b (record o { doors = doors } ∷ os) (o ∷ with_doors name doors os)) ≡ Some doors
    by further true test = rw test refl
    by further false test = rw test (further test)

-- THE LAST OBJECT
split_end : {X : Type 0} (xs : List X) (i : ℕ) (x : X) → suc i ≡ length xs → x ≡ slice_index_or xs i x → xs ≡ take i xs ++ x ∷ []
split_end [] i x last is = absurd (omega arith)
split_end (y ∷ []) zero x last is = ap (λ (z : _). z ∷ []) (sym is)
split_end (y ∷ z ∷ xs) zero x last is = absurd (omega arith)
split_end (y ∷ xs) (suc i) x last is = ap (λ (zs : List _). y ∷ zs) (split_end xs i x (omega arith) is)

set_end : {X : Type 0} (xs : List X) (i : ℕ) (x : X) → suc i ≡ length xs → slice_set xs i x ≡ take i xs ++ x ∷ []
set_end [] i x last = absurd (omega arith)
set_end (y ∷ []) zero x last = refl
set_end (y ∷ z ∷ xs) zero x last = absurd (omega arith)
set_end (y ∷ xs) (suc i) x last = ap (λ (zs : List _). y ∷ zs) (set_end xs i x (omega arith))

-- two lists that end so are the same
pub same-ends : {X : Type 0} (xs ys : List X) (x y : X) → (xs ++ x ∷ []) ≡ (ys ++ y ∷ []) → (xs ≡ ys) × (x ≡ y)
same-ends [] [] x y is = (refl, cc)
same-ends [] (b ∷ []) x y is = absurd cc
same-ends [] (b ∷ c ∷ ys) x y is = absurd cc
same-ends (a ∷ []) [] x y is = absurd cc
same-ends (a ∷ c ∷ xs) [] x y is = absurd cc
same-ends (a ∷ xs) (b ∷ ys) x y is =
    let first : a ≡ b = cc in
    let rest : (xs ++ x ∷ []) ≡ (ys ++ y ∷ []) = cc in
    let same = same-ends xs ys x y rest in
    (ap (λ (z : _). z ∷ xs) first ∙ ap (λ (zs : List _). b ∷ zs) same.0, same.1)

pub last-is : (entries : List OpenReplicon) (i : ℕ) (entry : OpenReplicon) (objects : List OpenReplicon) (name : List ℕ) (doors : List OpenDoor) → suc i ≡ length entries → entry ≡ slice_index_or entries i entry → entries ≡ with_replicon objects name doors
    → (take i entries ≡ objects) × (entry ≡ record { name = name; doors = doors })
last-is entries i entry objects name doors last is old = same-ends (take i entries) objects entry (record { name = name; doors = doors }) (sym (split_end entries i entry last is) ∙ old)

pub last-set : (entries : List OpenReplicon) (i : ℕ) (entry : OpenReplicon) (objects : List OpenReplicon) (name : List ℕ) (doors new : List OpenDoor) → suc i ≡ length entries → entry ≡ slice_index_or entries i entry → entries ≡ with_replicon objects name doors
    → slice_set entries i (record entry { doors = new }) ≡ with_replicon objects name new
last-set entries i entry objects name doors new last is old =
    let ends = last-is entries i entry objects name doors last is old in
    set_end entries i (record entry { doors = new }) last
    ∙ ap (λ (os : List OpenReplicon). os ++ record entry { doors = new } ∷ []) ends.0
    ∙ ap (λ (e : OpenReplicon). objects ++ record e { doors = new } ∷ []) ends.1

-- no object stands where there is a last one
pub not-empty : {X : Type 0} (objects : List OpenReplicon) (name : List ℕ) (doors : List OpenDoor) → [] ≡ with_replicon objects name doors → X
not-empty [] name doors is = absurd cc
not-empty (o ∷ os) name doors is = absurd cc
