-- The rule that the lock keeps: what holds between any two steps.
-- Word 0 counts the tickets that were drawn, word 1 those that were served, and word 2 is the length of the log, which is the list of the value in the one slot. The sixteen others are bells, of which the rule says nothing.
use Rattle.std.specs.Prelude.{◌≡◌, ◌≢◌, ◌⊎◌, ℕ, ◌<◌, ◌≤◌, Bool, true, false, List, [], ◌∷◌, ◌++◌, length, Option, Some, None}
use mathlib.Core.Option.{some, none}
use mathlib.Core.Option as maybe
use lib.ListN.{get_elem?}
use Rattle.atomic_table.specs.Table.{State}
use Rattle.hist_lock.specs.declared.view.View.{View}
use Rattle.hist_lock.specs.declared.view.Deed.{Deed}
use Rattle.hist_lock.specs.declared.view.Stage.{Stage}
use Rattle.hist_lock.specs.declared.view.Stage.TheVariants.{Idle, Waits, Holds, Noted, Met}
use Rattle.hist_lock.specs.Ranges.{in_range, may_add, Each, Follows}

module _ {E : Type 0} where
  -- the ticket that a seat has, if it has one
  abbrev pub ticket : Stage E → Option ℕ
  ticket Idle = None
  ticket (Waits t) = Some t
  ticket (Holds t) = Some t
  ticket (Noted t) = Some t
  ticket (Met at xs ys) = None

  abbrev pub number : Stage E → ℕ
  number Idle = 0
  number (Waits t) = t
  number (Holds t) = t
  number (Noted t) = t
  number (Met at xs ys) = 0

  abbrev pub has_slot : Stage E → Bool
  has_slot Idle = false
  has_slot (Waits t) = false
  has_slot (Holds t) = true
  has_slot (Noted t) = true
  has_slot (Met at xs ys) = false

module _ {E F : Type 0} (caller : E → Option ℕ) (served drawn : ℕ) (log : List E) (v : View E F) where
  -- it is the view's turn, and it knows the whole log
  abbrev pub Turn : ℕ → Type 0
  Turn t = (v.first < v.end) × (t ≡ served) × (t < drawn) × (v.seen ≡ log)

  -- a ticket is one that was drawn and not yet served; a slot is out at the turn alone; two joined lists go on in what the view has seen
  abbrev pub Standing : Stage E → Type 0
  Standing Idle = Unit {0}
  Standing (Waits t) = (v.first < v.end) × (served ≤ t) × (t < drawn)
  Standing (Holds t) = Turn t
  Standing (Noted t) = Turn t
  Standing (Met at xs ys) = Follows (λ e. in_range v.first at (caller e)) xs v.seen × Follows (λ e. in_range at v.end (caller e)) ys v.seen

-- the two ranges have no caller in common
abbrev pub Apart : {E F : Type 0} → View E F → View E F → Type 0
Apart v w = (c : ℕ) → v.first ≤ c → c < v.end → w.first ≤ c → c < w.end → ⊥

-- whether the entry's caller is one of the view's
abbrev pub own : {E F : Type 0} → (E → Option ℕ) → View E F → E → Bool
own caller v e = in_range v.first v.end (caller e)

module _ {T E F : Type 0} (entries : T → List E) (fixed : T → F) where
  -- the first view has the whole range and the opening list
  abbrev pub starting : Deed T → View E F
  starting d = record { first = d.first; end = d.end; seen = entries d.value.value; stage = Idle; fixed = Some (fixed d.value.value); drew = false }

module _ {T E F : Type 0} (entries : T → List E) (caller : E → Option ℕ) (fixed : T → F) where
  -- what holds of one view. One with an empty range, which was joined with another, has no ticket
  pub record Sits (d : Deed T) (served drawn : ℕ) (log : List E) (v : View E F) : Type 0 where
    pub follows : Follows (own caller v) v.seen log
    pub within : v.first < v.end → (d.first ≤ v.first) × (v.end ≤ d.end)
    pub part : v.first < v.end → v.fixed ≡ Some (fixed d.value.value)
    pub standing : Standing caller served drawn log v v.stage

  -- what holds of all views together: their ranges are disjoint; each ticket from the served up to the drawn is one view's; one view with a caller has seen the whole log; and if a ticket was
  -- drawn, one view with a caller knows of it
  pub record Seats (d : Deed T) (served drawn : ℕ) (log : List E) (views : List (View E F)) : Type 0 where
    pub sits : (j : ℕ) (v : View E F) → get_elem? views j ≡ some v → Sits d served drawn log v
    pub apart : (j k : ℕ) (v w : View E F) → get_elem? views j ≡ some v → get_elem? views k ≡ some w → j ≢ k → Apart v w
    pub once : (j k : ℕ) (v w : View E F) (t : ℕ) → get_elem? views j ≡ some v → get_elem? views k ≡ some w → ticket v.stage ≡ Some t → ticket w.stage ≡ Some t → j ≡ k
    pub held : (t : ℕ) → served ≤ t → t < drawn → (j : ℕ) × (v : View E F) × (get_elem? views j ≡ some v) × (ticket v.stage ≡ Some t)
    pub whole : (j : ℕ) × (v : View E F) × (get_elem? views j ≡ some v) × (v.first < v.end) × (v.seen ≡ log)
    pub told : 0 < drawn → (j : ℕ) × (v : View E F) × (get_elem? views j ≡ some v) × (v.first < v.end) × (v.drew ≡ true)

  -- the value is at home: its list is the log, and its part is the lock's
  pub record Home (d : Deed T) (log : List E) (homes : List (maybe.Option (Option T))) (views : List (View E F)) (x : T) : Type 0 where
    pub free : (j : ℕ) (v : View E F) → get_elem? views j ≡ some v → has_slot v.stage ≡ false
    pub lies : homes ≡ some (Some x) ∷ []
    pub list : entries x ≡ log
    pub part : fixed x ≡ fixed d.value.value

  -- the value is out with the view j
  pub record Out (homes : List (maybe.Option (Option T))) (views : List (View E F)) (j : ℕ) (v : View E F) : Type 0 where
    pub empty : homes ≡ none ∷ []
    pub at : get_elem? views j ≡ some v
    pub has : has_slot v.stage ≡ true

  abbrev pub Placed : Deed T → List E → List (maybe.Option (Option T)) → List (View E F) → Type 0
  Placed d log homes views = ((x : T) × Home d log homes views x) ⊎ ((j : ℕ) × (v : View E F) × Out homes views j v)

  -- the rule: the words count the tickets and the log; the log is the opening list and what callers of the whole range, or none, added; and before the first ticket the value is the opening one
  pub record Kept (d : Deed T) (s : State (Option T) (View E F)) : Type 0 where
    pub drawn : ℕ
    pub served : ℕ
    pub log : List E
    pub added : List E
    pub bells : List ℕ
    pub words : s.words ≡ drawn ∷ served ∷ length log ∷ bells
    pub many : length bells ≡ 16
    pub order : served ≤ drawn
    pub small : drawn < 18446744073709551616
    pub opened : log ≡ entries d.value.value ++ added
    pub callers : Each (λ e. may_add d.first d.end (caller e)) added
    pub slot : Placed d log s.homes s.views
    pub untouched : drawn ≡ 0 → s.homes ≡ some (Some d.value.value) ∷ []
    pub seats : Seats d served drawn log s.views
