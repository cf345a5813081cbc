-- What contracts see of a lock and of a seat.
use Rattle.std.specs.Prelude.{◌≡◌, ℕ, Bool, true, false, ◌||◌, List, [], ◌∷◌, Option, Some, None}
use Rattle.atomic_table.specs.Seated.{TableId}
use Rattle.hist_lock.specs.declared.view.View.{View}
use Rattle.hist_lock.specs.declared.view.Deed.{Deed}
use Rattle.hist_lock.specs.declared.view.Stage.{Stage}
use Rattle.hist_lock.specs.declared.view.Stage.TheVariants.{Idle, Waits, Holds, Noted, Met}
use Rattle.hist_lock.specs.Ranges.{in_range, longer}
use Rattle.hist_lock.specs.Rule.{has_slot}

-- which lock it is, the value that it began with, that value's list and fixed part, and its whole range of callers
pub record Lock (T E F : Type 0) : Type 0 where
  pub name : TableId
  pub value : T
  pub began : List E
  pub first : ℕ
  pub end : ℕ
  pub part : F

-- which lock's seat it is, its range of callers, the beginning of the list that it knows, whether it has taken the value now,
-- whether it, or a seat that went into it, ever took it, and the lock's fixed part
pub record Known (E F : Type 0) : Type 0 where
  pub lock : TableId
  pub first : ℕ
  pub end : ℕ
  pub seen : List E
  pub taken : Bool
  pub took : Bool
  pub part : Option F

-- a lock that begins with this value and this range
pub record Begins {T E F : Type 0} (entries : T → List E) (fixed : T → F) (value : T) (first end : ℕ) (l : Lock T E F) : Type 0 where
  pub value_is : l.value ≡ value
  pub list_is : l.began ≡ entries value
  pub first_is : l.first ≡ first
  pub end_is : l.end ≡ end
  pub part_is : l.part ≡ fixed value

module _ {T E F : Type 0} where
  -- the seat of all callers, which knows the list that the lock began with
  abbrev pub whole : Lock T E F → Known E F
  whole l = record { lock = l.name; first = l.first; end = l.end; seen = l.began; taken = false; took = false; part = Some l.part }

  -- it is a seat of this lock
  abbrev pub IsOf : Lock T E F → Known E F → Type 0
  IsOf l s = (s.lock ≡ l.name) × (s.part ≡ Some l.part)

  -- it is a seat of this lock that has not taken the value
  abbrev pub IsFree : Lock T E F → Known E F → Type 0
  IsFree l s = IsOf l s × (s.taken ≡ false)

  -- it is a seat of this lock that has taken the value
  abbrev pub HasTaken : Lock T E F → Known E F → Type 0
  HasTaken l s = IsOf l s × (s.taken ≡ true)

  -- what contracts see of a lock, by what it was told when it was made
  abbrev pub lock_of : (T → List E) → (T → F) → TableId → Deed T → Lock T E F
  lock_of entries fixed z d = record { name = z; value = d.value.value; began = entries d.value.value; first = d.first; end = d.end; part = fixed d.value.value }

module _ {E F : Type 0} where
  -- whether an entry's caller is in the seat's range
  abbrev pub is_own : (E → Option ℕ) → Known E F → E → Bool
  is_own caller s e = in_range s.first s.end (caller e)

  -- the seat took a value with this list
  abbrev pub taking : Known E F → List E → Known E F
  taking s xs = record { lock = s.lock; first = s.first; end = s.end; seen = xs; taken = true; took = true; part = s.part }

  -- the seat gave a value with this list
  abbrev pub giving : Known E F → List E → Known E F
  giving s xs = record { lock = s.lock; first = s.first; end = s.end; seen = xs; taken = false; took = s.took; part = s.part }

  -- the seat with another range
  abbrev pub with_range : Known E F → ℕ → ℕ → Known E F
  with_range s first end = record { lock = s.lock; first = first; end = end; seen = s.seen; taken = s.taken; took = s.took; part = s.part }

  -- one seat of both ranges, which knows the longer of the two lists
  abbrev pub meeting : Known E F → Known E F → Known E F
  meeting s t = record { lock = s.lock; first = s.first; end = t.end; seen = longer s.seen t.seen; taken = false; took = s.took || t.took; part = s.part }

  -- what contracts see of a seat, by its view
  abbrev pub known : TableId → View E F → Known E F
  known z v = record { lock = z; first = v.first; end = v.end; seen = v.seen; taken = has_slot v.stage; took = v.drew; part = v.fixed }

module _ {T E : Type 0} where
  -- between two calls a seat has nothing, or the emptied slot
  abbrev pub Rests : Stage E → List (ℕ × Option T) → Type 0
  Rests Idle c = c ≡ []
  Rests (Waits t) c = ⊥
  Rests (Holds t) c = c ≡ (0, None) ∷ []
  Rests (Noted t) c = ⊥
  Rests (Met at xs ys) c = ⊥
