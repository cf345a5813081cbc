-- Laws of the objects that a client's domain holds.
use Rattle.std.proofs.Common.{◌≡◌, ◌≢◌, ℕ, zero, suc, ◌+◌, ◌<◌, List, [], ◌∷◌, ◌++◌, length, Bool, true, false, cond, ltb, Option, Some, None, refl, sym, ap, ◌∙◌, subst, arith, unwrap_or, ltb-true, ltb-false, eqb, eqb-true, eq-eqb, true≢false, ◌≤◌}
use Rattle.std.specs.Prelude.{IsSome, is_some, remove, find, position, slice_index_or, slice_set, take, not}
use Rattle.std.specs.List.{AllByRecursion, position_or_len}
use Rattle.std.specs.Option.{option_map}
use Rattle.std.specs.Str.{bytes_eq}
use Rattle.std.proofs.lemmas.List.{map-append}
use Rattle.std.proofs.lemmas.Option.{cond_some}
use Rattle.marshal_buf.specs.declared.door.Door.{Door}
use Rattle.marshal_buf.specs.Reading.{Reading}
use Rattle.stack_accept.specs.Mount.{Mount, is_view_in}
use Rattle.domain_doors.specs.Doors.{Doors, door_at, Updates}
use Rattle.sub_core.specs.Fields.{Fields}
use Rattle.sub_core.specs.declared.values.Object.{Object}
use Rattle.sub_core.specs.Forms.{IsOf, IsTagOf}
use Rattle.sub_core.specs.Calls.{door_of, CopiesObject, LeadsToView}
use Rattle.sub_core.specs.Received.{UnmarshalsAny}
use Rattle.client_objects.specs.declared.target.Target.{Target}
use Rattle.client_objects.specs.declared.entry.Entry.{Entry}
use Rattle.client_objects.specs.declared.kind.ObjectKind.{ObjectKind}
use Rattle.client_objects.specs.Kinds.{is_built, form_at, id_of, form_of, file_of}
use Rattle.client_objects.specs.Reconnected.{reconnected}
use Rattle.client_objects.specs.Stored.{target_of}
use Rattle.client_objects.proofs.KindLaws.{form_at-id}
use Rattle.client_objects.specs.Objects.{OpenObject, IsOnStack, object_of, with_object, with_target, without, word_of}
use Rattle.client_objects.specs.Held.{no_door, target_at, target_in, seen_entry, seen, IsHeld, IsOther, AreApart, AreHeld}

abbrev HeldBy : Doors → Entry → Type 0
HeldBy domain entry = IsHeld domain entry.kind entry.object

all_append : {X : Type 0} (P : X → Type 0) (xs : List X) (y : X) → AllByRecursion P xs → P y → AllByRecursion P (xs ++ y ∷ [])
all_append P [] y all last = (last, tt)
all_append P (x ∷ xs) y all last = (all.0, all_append P xs y all.1 last)

all_front : {X : Type 0} (P : X → Type 0) (xs : List X) (y : X) → AllByRecursion P (xs ++ y ∷ []) → AllByRecursion P xs
all_front P [] y all = tt
all_front P (x ∷ xs) y all = (all.0, all_front P xs y all.1)

all_last : {X : Type 0} (P : X → Type 0) (xs : List X) (y : X) → AllByRecursion P (xs ++ y ∷ []) → P y
all_last P [] y all = all.0
all_last P (x ∷ xs) y all = all_last P xs y all.1

all_remove : {X : Type 0} (P : X → Type 0) (xs : List X) (i : ℕ) → AllByRecursion P xs → AllByRecursion P (remove xs i)
all_remove P [] zero all = tt
all_remove P [] (suc i) all = tt
all_remove P (x ∷ xs) zero all = all.1
all_remove P (x ∷ xs) (suc i) all = (all.0, all_remove P xs i all.1)

pub all_at : {X : Type 0} (P : X → Type 0) (xs : List X) (i : ℕ) (x : X) → AllByRecursion P xs → i < length xs → x ≡ slice_index_or xs i x → P x
all_at P [] i x all lt is = absurd (omega arith)
all_at P (y ∷ ys) zero x all lt is = subst P (sym is) all.0
all_at P (y ∷ ys) (suc i) x all lt is = all_at P ys i x all.1 (omega arith) is

-- an entry whose door has another identifier stays
entry_stays : (old new : Doors) (id : ℕ) (what : Option Door) (entry : Entry) → Updates old new id what → IsOther id entry → seen_entry new entry ≡ seen_entry old entry
entry_stays old new id what entry updates other =
    ap (λ (held : Option Door). let seen : OpenObject = record { name = entry.name; target = target_at entry.kind entry.object (unwrap_or held no_door); word = entry.object.name } in seen) (updates.others entry.object.door other)

seen_stays : (old new : Doors) (id : ℕ) (what : Option Door) (entries : List Entry) → Updates old new id what → AllByRecursion (IsOther id) entries → seen new entries ≡ seen old entries
seen_stays old new id what [] updates others = refl
seen_stays old new id what (entry ∷ entries) updates others =
    ap (λ (o : OpenObject). o ∷ seen new entries) (entry_stays old new id what entry updates others.0)
    ∙ ap (λ (os : List OpenObject). seen_entry old entry ∷ os) (seen_stays old new id what entries updates others.1)

held_stays : (old new : Doors) (id : ℕ) (what : Option Door) (entries : List Entry) → Updates old new id what → AllByRecursion (IsOther id) entries → AllByRecursion (HeldBy old) entries → AllByRecursion (HeldBy new) entries
held_stays old new id what [] updates others held = tt
held_stays old new id what (entry ∷ entries) updates others held = (
  record {
    door = ap (λ (door : Option Door). is_some door) (updates.others entry.object.door others.0) ∙ held.0.door;
    sub = held.0.sub;
    of = held.0.of;
  },
  held_stays old new id what entries updates others.1 held.1,
)

lacks : (door : Option Door) → door ≡ None → is_some door ≡ true → ⊥
lacks None none some = cc
lacks (Some door) none some = cc

-- an identifier in no use is no entry's
others_of_vacant : (domain : Doors) (id : ℕ) (entries : List Entry) → door_at domain id ≡ None → AllByRecursion (HeldBy domain) entries → AllByRecursion (IsOther id) entries
others_of_vacant domain id [] vacant held = tt
others_of_vacant domain id (entry ∷ entries) vacant held = (
  λ same. lacks (door_at domain entry.object.door) (ap (λ (n : ℕ). door_at domain n) same ∙ vacant) held.0.door,
  others_of_vacant domain id entries vacant held.1,
)

apart_push : (entries : List Entry) (entry : Entry) → AreApart entries → AllByRecursion (IsOther entry.object.door) entries → AreApart (entries ++ entry ∷ [])
apart_push [] entry apart others = (tt, tt)
apart_push (first ∷ entries) entry apart others =
    (all_append (IsOther first.object.door) entries entry apart.0 (λ same. others.0 (sym same)), apart_push entries entry apart.1 others.1)

only_push : (old new : Doors) (entries : List Entry) (entry : Entry) (what : Option Door) → AreHeld old entries → Updates old new entry.object.door what → (id : ℕ) → AllByRecursion (IsOther id) (entries ++ entry ∷ []) → door_at new id ≡ None
only_push old new entries entry what held updates id others =
    updates.others id (λ same. all_last (IsOther id) entries entry others (sym same)) ∙ held.only id (all_front (IsOther id) entries entry others)

-- the domain took a door in for one more entry
pub are_held-push : (old new : Doors) (entries : List Entry) (entry : Entry) (what : Option Door) → AreHeld old entries → door_at old entry.object.door ≡ None → Updates old new entry.object.door what → IsSome what
    → entry.object.sub ≡ id_of entry.kind → IsOf (form_of entry.kind) entry.object → AreHeld new (entries ++ entry ∷ [])
are_held-push old new entries entry what held vacant updates some sub of =
    let others = others_of_vacant old entry.object.door entries vacant held.held in
    let stay = held_stays old new entry.object.door what entries updates others held.held in
    record {
      held =
          all_append (HeldBy new) entries entry stay
          (record { door = ap (λ (door : Option Door). is_some door) updates.changed ∙ some; sub = sub; of = of });
      apart = apart_push entries entry held.apart others;
      only = only_push old new entries entry what held updates;
    }

pub seen-push : (old new : Doors) (entries : List Entry) (entry : Entry) (what : Option Door) → AreHeld old entries → door_at old entry.object.door ≡ None → Updates old new entry.object.door what
    → seen new (entries ++ entry ∷ []) ≡ with_object (seen old entries) entry.name (target_at entry.kind entry.object (unwrap_or what no_door)) entry.object.name
seen-push old new entries entry what held vacant updates =
    let others = others_of_vacant old entry.object.door entries vacant held.held in
    map-append (seen_entry new) entries (entry ∷ [])
    ∙ ap (λ (os : List OpenObject). os ++ seen_entry new entry ∷ []) (seen_stays old new entry.object.door what entries updates others)
    ∙ ap (λ (door : Option Door). with_object (seen old entries) entry.name (target_at entry.kind entry.object (unwrap_or door no_door)) entry.object.name) updates.changed

apart_front : (entries : List Entry) (entry : Entry) → AreApart (entries ++ entry ∷ []) → AreApart entries
apart_front [] entry apart = tt
apart_front (first ∷ entries) entry apart = (all_front (IsOther first.object.door) entries entry apart.0, apart_front entries entry apart.1)

others_front : (entries : List Entry) (entry : Entry) → AreApart (entries ++ entry ∷ []) → AllByRecursion (IsOther entry.object.door) entries
others_front [] entry apart = tt
others_front (first ∷ entries) entry apart =
    (λ same. all_last (IsOther first.object.door) entries entry apart.0 (sym same), others_front entries entry apart.1)

gone_by : (old new : Doors) (id door : ℕ) (b : Bool) → eqb id door ≡ b → Updates old new door None → (id ≢ door → door_at old id ≡ None) → door_at new id ≡ None
gone_by old new id door true is updates then = ap (door_at new) (eqb-true id door is) ∙ updates.changed
gone_by old new id door false is updates then =
    let other : id ≢ door = λ same. true≢false (sym (eq-eqb id door same) ∙ is) in
    updates.others id other ∙ then other

-- the door of an identifier, if no entry but one that is given up has it
gone : (old new : Doors) (id door : ℕ) → Updates old new door None → (id ≢ door → door_at old id ≡ None) → door_at new id ≡ None
gone old new id door updates then = gone_by old new id door (eqb id door) refl updates then

-- the last entry's door left the domain
pub are_held-pop : (old new : Doors) (entries : List Entry) (entry : Entry) → AreHeld old (entries ++ entry ∷ []) → Updates old new entry.object.door None → AreHeld new entries
are_held-pop old new entries entry held updates =
    record {
      held = held_stays old new entry.object.door None entries updates (others_front entries entry held.apart) (all_front (HeldBy old) entries entry held.held);
      apart = apart_front entries entry held.apart;
      only = λ id others.
          gone old new id entry.object.door updates
          (λ other. held.only id (all_append (IsOther id) entries entry others (λ same. other (sym same))));
    }

pub seen-pop : (old new : Doors) (entries : List Entry) (entry : Entry) → AreHeld old (entries ++ entry ∷ []) → Updates old new entry.object.door None → seen new entries ≡ seen old entries
seen-pop old new entries entry held updates = seen_stays old new entry.object.door None entries updates (others_front entries entry held.apart)

pub held-last : (domain : Doors) (entries : List Entry) (entry : Entry) → AreHeld domain (entries ++ entry ∷ []) → IsHeld domain entry.kind entry.object
held-last domain entries entry held = all_last (HeldBy domain) entries entry held.held

apart_remove : (entries : List Entry) (i : ℕ) → AreApart entries → AreApart (remove entries i)
apart_remove [] zero apart = tt
apart_remove [] (suc i) apart = tt
apart_remove (first ∷ entries) zero apart = apart.1
apart_remove (first ∷ entries) (suc i) apart = (all_remove (IsOther first.object.door) entries i apart.0, apart_remove entries i apart.1)

others_remove : (entries : List Entry) (i : ℕ) (entry : Entry) → AreApart entries → i < length entries → entry ≡ slice_index_or entries i entry → AllByRecursion (IsOther entry.object.door) (remove entries i)
others_remove [] i entry apart lt is = absurd (omega arith)
others_remove (first ∷ entries) zero entry apart lt is = subst (λ (e : Entry). AllByRecursion (IsOther e.object.door) entries) (sym is) apart.0
others_remove (first ∷ entries) (suc i) entry apart lt is =
    (λ same. all_at (IsOther first.object.door) entries i entry apart.0 (omega arith) is (sym same), others_remove entries i entry apart.1 (omega arith) is)

all_put : {X : Type 0} (P : X → Type 0) (xs : List X) (i : ℕ) (x : X) → i < length xs → x ≡ slice_index_or xs i x → P x → AllByRecursion P (remove xs i) → AllByRecursion P xs
all_put P [] i x lt is this all = tt
all_put P (y ∷ ys) zero x lt is this all = (subst P is this, all)
all_put P (y ∷ ys) (suc i) x lt is this all = (all.0, all_put P ys i x (omega arith) is this all.1)

-- the door of an entry left the domain
pub are_held-remove : (old new : Doors) (entries : List Entry) (i : ℕ) (entry : Entry) → AreHeld old entries → i < length entries → entry ≡ slice_index_or entries i entry → Updates old new entry.object.door None → AreHeld new (remove entries i)
are_held-remove old new entries i entry held lt is updates =
    record {
      held = held_stays old new entry.object.door None (remove entries i) updates (others_remove entries i entry held.apart lt is) (all_remove (HeldBy old) entries i held.held);
      apart = apart_remove entries i held.apart;
      only = λ id others.
          gone old new id entry.object.door updates
          (λ other. held.only id (all_put (IsOther id) entries i entry lt is (λ same. other (sym same)) others));
    }

-- the entry of a name, and the place at which the first one stands
abbrev IsNamed : List ℕ → Entry → Bool
IsNamed name entry = bytes_eq entry.name name

abbrev place : List ℕ → List Entry → ℕ
place name entries = position_or_len (IsNamed name) entries

none_if : (b : Bool) (i : ℕ) → cond b (Some i) None ≡ None → b ≡ false
none_if true i is = absurd cc
none_if false i is = refl

placed : (name : List ℕ) (entries : List Entry) (i : ℕ) → position (IsNamed name) entries ≡ Some i → (place name entries ≡ i) × (i < length entries)
placed name entries i is =
    let first = cond_some (ltb (place name entries) (length entries)) (place name entries) i is in
    let lt : place name entries < length entries = ltb-true (place name entries) (length entries) first.0 in
    let same : place name entries ≡ i = first.1 in
    (same, omega arith)

unplaced : (name : List ℕ) (entries : List Entry) → position (IsNamed name) entries ≡ None → length entries ≤ place name entries
unplaced name entries is =
    ltb-false (place name entries) (length entries) (none_if (ltb (place name entries) (length entries)) (place name entries) is)

without_step : (domain : Doors) (b : Bool) (entry : Entry) (entries : List Entry) (i rest : ℕ) (others : List OpenObject) → cond (not b) (1 + rest) 0 ≡ i → i < length (entry ∷ entries)
    → ((j : ℕ) → rest ≡ j → j < length entries → seen domain (remove entries j) ≡ others)
    → seen domain (remove (entry ∷ entries) i) ≡ cond b (seen domain entries) (seen_entry domain entry ∷ others)
without_step domain true entry entries zero rest others is lt then = refl
without_step domain true entry entries (suc i) rest others is lt then = absurd (omega arith)
without_step domain false entry entries zero rest others is lt then = absurd (omega arith)
without_step domain false entry entries (suc i) rest others is lt then =
    ap (λ (os : List OpenObject). seen_entry domain entry ∷ os) (then i (omega arith) (omega arith))

without_at : (domain : Doors) (name : List ℕ) (entries : List Entry) (i : ℕ) → place name entries ≡ i → i < length entries → seen domain (remove entries i) ≡ without name (seen domain entries)
without_at domain name [] i is lt = absurd (omega arith)
without_at domain name (entry ∷ entries) i is lt =
    without_step domain (IsNamed name entry) entry entries i (place name entries) (without name (seen domain entries)) is lt
    (λ j at below. without_at domain name entries j at below)

keeps_step : (b : Bool) (first : OpenObject) (entries : List OpenObject) (others : List OpenObject) (n rest : ℕ) → suc n ≤ cond (not b) (1 + rest) 0 → (n ≤ rest → others ≡ entries) → cond b entries (first ∷ others) ≡ first ∷ entries
keeps_step true first entries others n rest few then = absurd (omega arith)
keeps_step false first entries others n rest few then = ap (λ (os : List OpenObject). first ∷ os) (then (omega arith))

keeps_all : (domain : Doors) (name : List ℕ) (entries : List Entry) → length entries ≤ place name entries → without name (seen domain entries) ≡ seen domain entries
keeps_all domain name [] few = refl
keeps_all domain name (entry ∷ entries) few =
    keeps_step (IsNamed name entry) (seen_entry domain entry) (seen domain entries) (without name (seen domain entries)) (length entries) (place name entries) few (keeps_all domain name entries)

-- no object of a name is given up
pub without-none : (domain : Doors) (name : List ℕ) (entries : List Entry) → position (IsNamed name) entries ≡ None → seen domain entries ≡ without name (seen domain entries)
without-none domain name entries none = sym (keeps_all domain name entries (unplaced name entries none))

-- the first object of a name is given up
pub seen-remove : (old new : Doors) (name : List ℕ) (entries : List Entry) (i : ℕ) (entry : Entry) → AreHeld old entries → position (IsNamed name) entries ≡ Some i → entry ≡ slice_index_or entries i entry → Updates old new entry.object.door None
    → seen new (remove entries i) ≡ without name (seen old entries)
seen-remove old new name entries i entry held at is updates =
    let first = placed name entries i at in
    seen_stays old new entry.object.door None (remove entries i) updates (others_remove entries i entry held.apart first.1 is)
    ∙ without_at old name entries i first.0 first.1

abbrev target_found : Option OpenObject → Option Target
target_found found = option_map (λ (o : OpenObject). o.target) found

abbrev first_named : List ℕ → List OpenObject → Option OpenObject
first_named name objects = find (λ (o : OpenObject). bytes_eq o.name name) objects

found_step : (domain : Doors) (b : Bool) (first entry : Entry) (entries : List Entry) (i rest : ℕ) (found : Option OpenObject) → cond (not b) (1 + rest) 0 ≡ i → i < length (first ∷ entries) → entry ≡ slice_index_or (first ∷ entries) i entry
    → ((j : ℕ) → rest ≡ j → j < length entries → entry ≡ slice_index_or entries j entry → target_found found ≡ Some (target_in domain entry.kind entry.object))
    → target_found (cond b (Some (seen_entry domain first)) found) ≡ Some (target_in domain entry.kind entry.object)
found_step domain true first entry entries zero rest found is lt at then = ap (λ (e : Entry). Some (target_in domain e.kind e.object)) (sym at)
found_step domain true first entry entries (suc i) rest found is lt at then = absurd (omega arith)
found_step domain false first entry entries zero rest found is lt at then = absurd (omega arith)
found_step domain false first entry entries (suc i) rest found is lt at then = then i (omega arith) (omega arith) at

found_at : (domain : Doors) (name : List ℕ) (entries : List Entry) (i : ℕ) (entry : Entry) → place name entries ≡ i → i < length entries → entry ≡ slice_index_or entries i entry → object_of name (seen domain entries) ≡ Some (target_in domain entry.kind entry.object)
found_at domain name [] i entry is lt at = absurd (omega arith)
found_at domain name (first ∷ entries) i entry is lt at =
    found_step domain (IsNamed name first) first entry entries i (place name entries) (first_named name (seen domain entries)) is lt at
    (λ j next below there. found_at domain name entries j entry next below there)

-- the object of a name
pub object_of-at : (domain : Doors) (name : List ℕ) (entries : List Entry) (i : ℕ) (entry : Entry) → position (IsNamed name) entries ≡ Some i → entry ≡ slice_index_or entries i entry → object_of name (seen domain entries) ≡ Some (target_in domain entry.kind entry.object)
object_of-at domain name entries i entry at is =
    let first = placed name entries i at in
    found_at domain name entries i entry first.0 first.1 is

missed_step : (b : Bool) (first : OpenObject) (found : Option OpenObject) (n rest : ℕ) → suc n ≤ cond (not b) (1 + rest) 0 → (n ≤ rest → target_found found ≡ None) → target_found (cond b (Some first) found) ≡ None
missed_step true first found n rest few then = absurd (omega arith)
missed_step false first found n rest few then = then (omega arith)

missed : (domain : Doors) (name : List ℕ) (entries : List Entry) → length entries ≤ place name entries → object_of name (seen domain entries) ≡ None
missed domain name [] few = refl
missed domain name (entry ∷ entries) few =
    missed_step (IsNamed name entry) (seen_entry domain entry) (first_named name (seen domain entries)) (length entries) (place name entries) few (missed domain name entries)

abbrev word_found : Option OpenObject → List ℕ
word_found found = unwrap_or (option_map (λ (o : OpenObject). o.word) found) []

word_step : (domain : Doors) (b : Bool) (first entry : Entry) (entries : List Entry) (i rest : ℕ) (found : Option OpenObject) → cond (not b) (1 + rest) 0 ≡ i → i < length (first ∷ entries) → entry ≡ slice_index_or (first ∷ entries) i entry
    → ((j : ℕ) → rest ≡ j → j < length entries → entry ≡ slice_index_or entries j entry → word_found found ≡ entry.object.name)
    → word_found (cond b (Some (seen_entry domain first)) found) ≡ entry.object.name
word_step domain true first entry entries zero rest found is lt at then = ap (λ (e : Entry). e.object.name) (sym at)
word_step domain true first entry entries (suc i) rest found is lt at then = absurd (omega arith)
word_step domain false first entry entries zero rest found is lt at then = absurd (omega arith)
word_step domain false first entry entries (suc i) rest found is lt at then = then i (omega arith) (omega arith) at

word_at : (domain : Doors) (name : List ℕ) (entries : List Entry) (i : ℕ) (entry : Entry) → place name entries ≡ i → i < length entries → entry ≡ slice_index_or entries i entry → word_of name (seen domain entries) ≡ entry.object.name
word_at domain name [] i entry is lt at = absurd (omega arith)
word_at domain name (first ∷ entries) i entry is lt at =
    word_step domain (IsNamed name first) first entry entries i (place name entries) (first_named name (seen domain entries)) is lt at
    (λ j next below there. word_at domain name entries j entry next below there)

-- the word of the object of a name
pub word_of-at : (domain : Doors) (name : List ℕ) (entries : List Entry) (i : ℕ) (entry : Entry) → position (IsNamed name) entries ≡ Some i → entry ≡ slice_index_or entries i entry → word_of name (seen domain entries) ≡ entry.object.name
word_of-at domain name entries i entry at is =
    let first = placed name entries i at in
    word_at domain name entries i entry first.0 first.1 is

-- no object has the name
pub object_of-none : (domain : Doors) (name : List ℕ) (entries : List Entry) → position (IsNamed name) entries ≡ None → object_of name (seen domain entries) ≡ None
object_of-none domain name entries none = missed domain name entries (unplaced name entries none)

-- a copy leads where its object leads
target_copy : (old new : Doors) (kind : ObjectKind) (object copy : Object) → CopiesObject object copy old new → target_at kind copy (unwrap_or (door_of old object) no_door) ≡ target_in old kind object
target_copy old new kind object copy copies =
    ap (λ (o : Object). target_at kind o (unwrap_or (door_of old object) no_door)) copies.same

is_of_copy : (kind : ObjectKind) (object copy : Object) → copy ≡ record object { door = copy.door } → IsOf (form_of kind) object → IsOf (form_of kind) copy
is_of_copy kind object copy same of =
    let there : IsOf (form_of kind) (record object { door = copy.door }) = record { tag = of.tag; name = of.name } in
    subst (λ (o : Object). IsOf (form_of kind) o) (sym same) there

-- the entry of a copy, under another name
abbrev pub copied : Entry → List ℕ → Object → Entry
copied entry name copy = record { name = name; kind = entry.kind; object = copy }

-- an entry's object was copied under another name
pub are_held-copy : (old new : Doors) (entries : List Entry) (i : ℕ) (entry : Entry) (name : List ℕ) (copy : Object) → AreHeld old entries → i < length entries → entry ≡ slice_index_or entries i entry → CopiesObject entry.object copy old new
    → AreHeld new (entries ++ copied entry name copy ∷ [])
are_held-copy old new entries i entry name copy held lt is copies =
    let original : IsHeld old entry.kind entry.object = all_at (HeldBy old) entries i entry held.held lt is in
    are_held-push old new entries (copied entry name copy) (door_of old entry.object) held copies.door.vacant copies.door.updates copies.door.held
    (ap (λ (o : Object). o.sub) copies.same ∙ original.sub)
    (is_of_copy entry.kind entry.object copy copies.same original.of)

pub seen-copy : (old new : Doors) (entries : List Entry) (entry : Entry) (name : List ℕ) (copy : Object) → AreHeld old entries → CopiesObject entry.object copy old new
    → seen new (entries ++ copied entry name copy ∷ []) ≡ with_object (seen old entries) name (target_in old entry.kind entry.object) entry.object.name
seen-copy old new entries entry name copy held copies =
    seen-push old new entries (copied entry name copy) (door_of old entry.object) held copies.door.vacant copies.door.updates
    ∙ ap (λ (t : Target). with_object (seen old entries) name t copy.name) (target_copy old new entry.kind entry.object copy copies)
    ∙ ap (λ (o : Object). with_object (seen old entries) name (target_in old entry.kind entry.object) o.name) copies.same

-- what was received has the form of its subcontract
form_received : (kind : ObjectKind) (object : Object) → object.sub ≡ id_of kind → IsOf (form_at object.sub) object → IsOf (form_of kind) object
form_received kind object sub of = subst (λ form. IsOf form object) (ap form_at sub ∙ form_at-id kind) of

-- what was received was entered
pub are_held-receive : (old new : Doors) (entries : List Entry) (name : List ℕ) (kind : ObjectKind) (object : Object) (from end : Reading) → AreHeld old entries → object.sub ≡ id_of kind → UnmarshalsAny is_built form_at old new from end object
    → AreHeld new (entries ++ record { name = name; kind = kind; object = object } ∷ [])
are_held-receive old new entries name kind object from end held sub got =
    are_held-push old new entries (record { name = name; kind = kind; object = object }) (Some got.reads.fields.door) held got.reads.vacant got.reads.enters refl sub (form_received kind object sub got.reads.of)

target_received : (kind : ObjectKind) (object : Object) (fields : Fields) → object.tag ≡ fields.tag → object.life ≡ 0 → target_at kind object fields.door ≡ target_of kind fields
target_received kind object fields tag life =
    ap (λ (n : ℕ). let t : Target = record { kind = kind; tag = n; view = fields.door.node; file = file_of kind fields.door n; life = object.life } in t) tag
    ∙ ap (λ (n : ℕ). let t : Target = record { kind = kind; tag = fields.tag; view = fields.door.node; file = file_of kind fields.door fields.tag; life = n } in t) life

pub seen-receive : (old new : Doors) (entries : List Entry) (name : List ℕ) (kind : ObjectKind) (object : Object) (from end : Reading) → AreHeld old entries → (got : UnmarshalsAny is_built form_at old new from end object)
    → seen new (entries ++ record { name = name; kind = kind; object = object } ∷ []) ≡ with_object (seen old entries) name (target_of kind got.reads.fields) got.reads.fields.name
seen-receive old new entries name kind object from end held got =
    seen-push old new entries (record { name = name; kind = kind; object = object }) (Some got.reads.fields.door) held got.reads.vacant got.reads.enters
    ∙ ap (λ (t : Target). with_object (seen old entries) name t object.name) (target_received kind object got.reads.fields got.reads.tag got.reads.life)
    ∙ ap (with_object (seen old entries) name (target_of kind got.reads.fields)) got.reads.name

-- a received object is held, and its target is where its fields lead
pub held-receive : (old new : Doors) (kind : ObjectKind) (object : Object) (from end : Reading) → object.sub ≡ id_of kind → UnmarshalsAny is_built form_at old new from end object → IsHeld new kind object
held-receive old new kind object from end sub got =
    record { door = ap (λ (door : Option Door). is_some door) got.reads.enters.changed; sub = sub; of = form_received kind object sub got.reads.of }

pub target_in-receive : (old new : Doors) (kind : ObjectKind) (object : Object) (from end : Reading) → (got : UnmarshalsAny is_built form_at old new from end object) → target_in new kind object ≡ target_of kind got.reads.fields
target_in-receive old new kind object from end got =
    ap (λ (held : Option Door). target_at kind object (unwrap_or held no_door)) got.reads.enters.changed
    ∙ target_received kind object got.reads.fields got.reads.tag got.reads.life

-- two lists with one more each
ends_same : {X : Type 0} (xs ys : List X) (x y : X) → xs ++ x ∷ [] ≡ ys ++ y ∷ [] → (xs ≡ ys) × (x ≡ y)
ends_same [] [] x y same = (refl, cc)
ends_same [] (b ∷ []) x y same = absurd cc
ends_same [] (b ∷ c ∷ ys) x y same = absurd cc
ends_same (a ∷ []) [] x y same = absurd cc
ends_same (a ∷ c ∷ xs) [] x y same = absurd cc
ends_same {X} (a ∷ xs) (b ∷ ys) x y same =
    let head : a ≡ b = cc in
    let tail : xs ++ x ∷ [] ≡ ys ++ y ∷ [] = cc in
    let ends = ends_same xs ys x y tail in
    (ap (λ (first : X). first ∷ xs) head ∙ ap (λ (more : List X). b ∷ more) ends.0, ends.1)

seen-ends : (domain : Doors) (entries : List Entry) (entry : Entry) (objects : List OpenObject) (name word : List ℕ) (target : Target) → seen domain (entries ++ entry ∷ []) ≡ with_object objects name target word
    → (seen domain entries ≡ objects) × (seen_entry domain entry ≡ record { name = name; target = target; word = word })
seen-ends domain entries entry objects name word target is =
    ends_same (seen domain entries) objects (seen_entry domain entry) (record { name = name; target = target; word = word }) (sym (map-append (seen_entry domain) entries (entry ∷ [])) ∙ is)

-- the last object is given up
pub seen-popped : (old new : Doors) (entries : List Entry) (entry : Entry) (objects : List OpenObject) (name word : List ℕ) (target : Target) → AreHeld old (entries ++ entry ∷ []) → Updates old new entry.object.door None
    → seen old (entries ++ entry ∷ []) ≡ with_object objects name target word → seen new entries ≡ objects
seen-popped old new entries entry objects name word target held updates is =
    seen-pop old new entries entry held updates ∙ (seen-ends old entries entry objects name word target is).0

all_seen : (P : OpenObject → Type 0) (domain : Doors) (entries : List Entry) → AllByRecursion P (seen domain entries) → AllByRecursion (λ (e : Entry). P (seen_entry domain e)) entries
all_seen P domain [] all = tt
all_seen P domain (entry ∷ entries) all = (all.0, all_seen P domain entries all.1)

-- the objects lead onto the stack, so their doors lead to views
pub leads_to_view : (mount : Mount) (domain : Doors) (entries : List Entry) (i : ℕ) (entry : Entry) → AllByRecursion (IsOnStack mount) (seen domain entries) → i < length entries → entry ≡ slice_index_or entries i entry → LeadsToView mount domain entry.object
leads_to_view mount domain entries i entry all lt is door held =
    let on = all_at (λ (e : Entry). IsOnStack mount (seen_entry domain e)) entries i entry (all_seen (IsOnStack mount) domain entries all) lt is in
    subst (λ (found : Option Door). is_view_in mount.nodes (unwrap_or found no_door).node ≡ true) held on.view

-- a list, and the list with another last item
split_end : {X : Type 0} (xs : List X) (i : ℕ) (x : X) → suc i ≡ length xs → x ≡ slice_index_or xs i x → xs ≡ take i xs ++ x ∷ []
split_end [] i x last is = absurd (omega arith)
split_end {X} (y ∷ []) zero x last is = ap (λ (only : X). only ∷ []) (sym is)
split_end (y ∷ []) (suc i) x last is = absurd (omega arith)
split_end (y ∷ z ∷ zs) zero x last is = absurd (omega arith)
split_end {X} (y ∷ z ∷ zs) (suc i) x last is =
    let more : suc i ≡ length (z ∷ zs) = omega arith in
    ap (λ (rest : List X). y ∷ rest) (split_end (z ∷ zs) i x more is)

set_end : {X : Type 0} (xs : List X) (i : ℕ) (x : X) → suc i ≡ length xs → slice_set xs i x ≡ take i xs ++ x ∷ []
set_end [] i x last = absurd (omega arith)
set_end (y ∷ []) zero x last = refl
set_end (y ∷ []) (suc i) x last = absurd (omega arith)
set_end (y ∷ z ∷ zs) zero x last = absurd (omega arith)
set_end {X} (y ∷ z ∷ zs) (suc i) x last =
    let more : suc i ≡ length (z ∷ zs) = omega arith in
    ap (λ (rest : List X). y ∷ rest) (set_end (z ∷ zs) i x more)

-- the entry, with its object of another life
abbrev pub of_life : Entry → ℕ → Entry
of_life entry life = record { name = entry.name; kind = entry.kind; object = record entry.object { life = life } }

held_of_life : (domain : Doors) (entries : List Entry) (entry : Entry) (life : ℕ) → AreHeld domain (entries ++ entry ∷ []) → AreHeld domain (entries ++ of_life entry life ∷ [])
held_of_life domain entries entry life held =
    let last : IsHeld domain entry.kind entry.object = all_last (HeldBy domain) entries entry held.held in
    record {
      held =
          all_append (HeldBy domain) entries (of_life entry life) (all_front (HeldBy domain) entries entry held.held)
          (record { door = last.door; sub = last.sub; of = record { tag = last.of.tag; name = last.of.name } });
      apart = apart_push entries (of_life entry life) (apart_front entries entry held.apart) (others_front entries entry held.apart);
      only = λ id others.
          held.only id
          (all_append (IsOther id) entries entry (all_front (IsOther id) entries (of_life entry life) others) (all_last (IsOther id) entries (of_life entry life) others));
    }

-- the last object got another life
pub are_held-life : (domain : Doors) (entries : List Entry) (i : ℕ) (entry : Entry) (life : ℕ) → AreHeld domain entries → suc i ≡ length entries → entry ≡ slice_index_or entries i entry → AreHeld domain (slice_set entries i (of_life entry life))
are_held-life domain entries i entry life held last is =
    subst (λ (es : List Entry). AreHeld domain es) (sym (set_end entries i (of_life entry life) last))
    (held_of_life domain (take i entries) entry life (subst (λ (es : List Entry). AreHeld domain es) (split_end entries i entry last is) held))

pub seen-life : (domain : Doors) (entries : List Entry) (i : ℕ) (entry : Entry) (life : ℕ) (objects : List OpenObject) (name word : List ℕ) (target : Target) → suc i ≡ length entries → entry ≡ slice_index_or entries i entry
    → seen domain entries ≡ with_object objects name target word → seen domain (slice_set entries i (of_life entry life)) ≡ with_object objects name (record target { life = life }) word
seen-life domain entries i entry life objects name word target last is old =
    let ends = seen-ends domain (take i entries) entry objects name word target (ap (seen domain) (sym (split_end entries i entry last is)) ∙ old) in
    ap (seen domain) (set_end entries i (of_life entry life) last)
    ∙ map-append (seen_entry domain) (take i entries) (of_life entry life ∷ [])
    ∙ ap (λ (os : List OpenObject). os ++ seen_entry domain (of_life entry life) ∷ []) ends.0
    ∙ ap (λ (o : OpenObject). with_object objects o.name (record o.target { life = life }) o.word) ends.1

-- where no object is seen, there is no last one
pub seen-no_last : {X : Type 0} (domain : Doors) (entries : List Entry) (i : ℕ) → suc i ≡ length entries → seen domain entries ≡ [] → X
seen-no_last domain [] i last none = absurd (omega arith)
seen-no_last domain (entry ∷ entries) i last none = absurd cc

pub seen-no_end : {X : Type 0} (domain : Doors) (entries : List Entry) (entry : Entry) → seen domain (entries ++ entry ∷ []) ≡ [] → X
seen-no_end domain [] entry none = absurd cc
seen-no_end domain (first ∷ entries) entry none = absurd cc

-- AN OBJECT THAT LEADS ELSEWHERE

all_set : {X : Type 0} (P : X → Type 0) (xs : List X) (i : ℕ) (y : X) → AllByRecursion P xs → P y → AllByRecursion P (slice_set xs i y)
all_set P [] i y all new = tt
all_set P (x ∷ xs) zero y all new = (new, all.1)
all_set P (x ∷ xs) (suc i) y all new = (all.0, all_set P xs i y all.1 new)

all_others : {X : Type 0} (P : X → Type 0) (xs : List X) (i : ℕ) (y : X) → AllByRecursion P (remove xs i) → P y → AllByRecursion P (slice_set xs i y)
all_others P [] zero y all new = tt
all_others P [] (suc i) y all new = tt
all_others P (x ∷ xs) zero y all new = (new, all)
all_others P (x ∷ xs) (suc i) y all new = (all.0, all_others P xs i y all.1 new)

all_back : {X : Type 0} (P : X → Type 0) (xs : List X) (i : ℕ) (x y : X) → i < length xs → x ≡ slice_index_or xs i x → AllByRecursion P (slice_set xs i y) → (P y → P x) → AllByRecursion P xs
all_back P [] i x y lt is all back = tt
all_back P (z ∷ xs) zero x y lt is all back = (subst P is (back all.0), all.1)
all_back P (z ∷ xs) (suc i) x y lt is all back = (all.0, all_back P xs i x y (omega arith) is all.1 back)

put_there : {X : Type 0} (P : X → Type 0) (xs : List X) (i : ℕ) (y : X) → i < length xs → AllByRecursion P (slice_set xs i y) → P y
put_there P [] i y lt all = absurd (omega arith)
put_there P (x ∷ xs) zero y lt all = all.0
put_there P (x ∷ xs) (suc i) y lt all = put_there P xs i y (omega arith) all.1

-- the other doors are other ones still
apart_put : (entries : List Entry) (i : ℕ) (entry next : Entry) → i < length entries → entry ≡ slice_index_or entries i entry → next.object.door ≡ entry.object.door → AreApart entries → AreApart (slice_set entries i next)
apart_put [] i entry next lt is same apart = tt
apart_put (first ∷ entries) zero entry next lt is same apart =
    (subst (λ (id : ℕ). AllByRecursion (IsOther id) entries) (ap (λ (e : Entry). e.object.door) (sym is) ∙ sym same) apart.0, apart.1)
apart_put (first ∷ entries) (suc i) entry next lt is same apart =
    let here : IsOther first.object.door entry = all_at (IsOther first.object.door) entries i entry apart.0 (omega arith) is in
    (all_set (IsOther first.object.door) entries i next apart.0 (λ door. here (sym same ∙ door)), apart_put entries i entry next (omega arith) is same apart.1)

-- the entry, with its object of another life
abbrev Stays : Doors → Doors → Entry → Type 0
Stays old new entry = seen_entry new entry ≡ seen_entry old entry

all_stay : (old new : Doors) (id : ℕ) (what : Option Door) (entries : List Entry) → Updates old new id what → AllByRecursion (IsOther id) entries → AllByRecursion (Stays old new) entries
all_stay old new id what [] updates others = tt
all_stay old new id what (entry ∷ entries) updates others = (entry_stays old new id what entry updates others.0, all_stay old new id what entries updates others.1)

stay_seen : (old new : Doors) (entries : List Entry) → AllByRecursion (Stays old new) entries → seen new entries ≡ seen old entries
stay_seen old new [] stay = refl
stay_seen old new (entry ∷ entries) stay =
    ap (λ (o : OpenObject). o ∷ seen new entries) stay.0 ∙ ap (λ (os : List OpenObject). seen_entry old entry ∷ os) (stay_seen old new entries stay.1)

module _ (old new : Doors) (name : List ℕ) (entry next : Entry) (target : Target) (leads : seen_entry new next ≡ record (seen_entry old entry) { target = target }) where
  led_step : (b : Bool) (first : Entry) (entries : List Entry) (i rest : ℕ) → cond (not b) (1 + rest) 0 ≡ i → i < length (first ∷ entries) → entry ≡ slice_index_or (first ∷ entries) i entry
      → AllByRecursion (Stays old new) (remove (first ∷ entries) i)
      → ((j : ℕ) → rest ≡ j → j < length entries → entry ≡ slice_index_or entries j entry → AllByRecursion (Stays old new) (remove entries j) → seen new (slice_set entries j next) ≡ with_target name target (seen old entries))
      → seen new (slice_set (first ∷ entries) i next) ≡ cond b (record (seen_entry old first) { target = target } ∷ seen old entries) (seen_entry old first ∷ with_target name target (seen old entries))
  led_step true first entries zero rest is lt at stay then =
      ap (λ (o : OpenObject). o ∷ seen new entries) (leads ∙ ap (λ (e : Entry). record (seen_entry old e) { target = target }) at) ∙ ap (λ (os : List OpenObject). record (seen_entry old first) { target = target } ∷ os) (stay_seen old new entries stay)
  led_step true first entries (suc i) rest is lt at stay then = absurd (omega arith)
  led_step false first entries zero rest is lt at stay then = absurd (omega arith)
  led_step false first entries (suc i) rest is lt at stay then =
      ap (λ (o : OpenObject). o ∷ seen new (slice_set entries i next)) stay.0 ∙ ap (λ (os : List OpenObject). seen_entry old first ∷ os) (then i (omega arith) (omega arith) at stay.1)

  led_at : (entries : List Entry) (i : ℕ) → place name entries ≡ i → i < length entries → entry ≡ slice_index_or entries i entry → AllByRecursion (Stays old new) (remove entries i)
      → seen new (slice_set entries i next) ≡ with_target name target (seen old entries)
  led_at [] i is lt at stay = absurd (omega arith)
  led_at (first ∷ entries) i is lt at stay =
      led_step (IsNamed name first) first entries i (place name entries) is lt at stay (λ j there below here more. led_at entries j there below here more)

-- the first object of a name leads by another door
pub seen-led : (old new : Doors) (name : List ℕ) (entries : List Entry) (i : ℕ) (entry next : Entry) (door : Door) (target : Target) → AreHeld old entries → position (IsNamed name) entries ≡ Some i → entry ≡ slice_index_or entries i entry
    → Updates old new entry.object.door (Some door) → seen_entry new next ≡ record (seen_entry old entry) { target = target } → seen new (slice_set entries i next) ≡ with_target name target (seen old entries)
seen-led old new name entries i entry next door target held at is updates leads =
    let first = placed name entries i at in
    led_at old new name entry next target leads entries i first.0 first.1 is
    (all_stay old new entry.object.door (Some door) (remove entries i) updates (others_remove entries i entry held.apart first.1 is))

pub are_held-led : (old new : Doors) (entries : List Entry) (i : ℕ) (entry next : Entry) (door : Door) → AreHeld old entries → i < length entries → entry ≡ slice_index_or entries i entry
    → Updates old new entry.object.door (Some door) → next.object.door ≡ entry.object.door → IsHeld new next.kind next.object → AreHeld new (slice_set entries i next)
are_held-led old new entries i entry next door held lt is updates same new_held = record {
  held = all_others (HeldBy new) entries i next
      (held_stays old new entry.object.door (Some door) (remove entries i) updates (others_remove entries i entry held.apart lt is) (all_remove (HeldBy old) entries i held.held)) new_held;
  apart = apart_put entries i entry next lt is same held.apart;
  only = λ id others.
      let other : IsOther id next = put_there (IsOther id) entries i next lt others in
      updates.others id (λ door. other (same ∙ sym door)) ∙ held.only id (all_back (IsOther id) entries i entry next lt is others (λ n door. n (same ∙ door)));
}

-- the entry of another life is held by its new door
pub held_led : (old new : Doors) (entry : Entry) (door : Door) (life : ℕ) → IsHeld old entry.kind entry.object → Updates old new entry.object.door (Some door) → IsHeld new entry.kind (of_life entry life).object
held_led old new entry door life held updates = record {
  door = ap (λ (d : Option Door). is_some d) updates.changed;
  sub = held.sub;
  of = record { tag = held.of.tag; name = held.of.name };
}

-- and leads there, if it is reconnectable
pub led_entry : (old new : Doors) (entry : Entry) (door : Door) (life : ℕ) → entry.kind ≡ ObjectKind.Reconnectable → IsHeld old entry.kind entry.object → Updates old new entry.object.door (Some door)
    → seen_entry new (of_life entry life) ≡ record (seen_entry old entry) { target = reconnected door life }
led_entry old new entry door life kind held updates =
    let tag : entry.object.tag ≡ 0 = subst (λ (k : ObjectKind). IsTagOf (form_of k) entry.object.tag) kind held.of.tag in
    ap (λ (d : Option Door). let o : OpenObject = record { name = entry.name; target = target_at entry.kind (of_life entry life).object (unwrap_or d no_door); word = entry.object.name } in o) updates.changed
    ∙ ap (λ (k : ObjectKind). let o : OpenObject = record { name = entry.name; target = target_at k (of_life entry life).object door; word = entry.object.name } in o) kind
    ∙ ap (λ (n : ℕ). let o : OpenObject = record { name = entry.name; target = record (reconnected door life) { tag = n }; word = entry.object.name } in o) tag
