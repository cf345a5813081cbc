-- What each kind of step tells: of the step, the seat before it, the number found, and the seat after it.
use Rattle.std.specs.Prelude.{◌≡◌, ◌≢◌, ℕ, ◌<◌, true, false, ◌||◌, List, [], ◌∷◌, Option, Some, None}
use Rattle.atomic_table.specs.Table.{Me, Step, rest}
use Rattle.hist_lock.specs.declared.view.View.{View}
use Rattle.hist_lock.specs.declared.view.Stage.{Stage}
use Rattle.hist_lock.specs.declared.view.Stage.TheVariants.{Idle, Waits, Holds, Noted, Met}
use Rattle.hist_lock.specs.Ranges.{in_range, Follows, longer}
use Rattle.hist_lock.specs.Rule.{number, own}

-- a seat's view, and the slot that it has taken, if it has
abbrev pub Mine : Type 0 → Type 0 → Type 0 → Type 0
Mine T E F = Me (Option T) (View E F)

module _ {E F : Type 0} where
  abbrev pub with_stage : View E F → Stage E → View E F
  with_stage v g = record { first = v.first; end = v.end; seen = v.seen; stage = g; fixed = v.fixed; drew = v.drew }

  -- the view, waiting with a ticket that it drew
  abbrev pub waiting : View E F → ℕ → View E F
  waiting v ticket = record { first = v.first; end = v.end; seen = v.seen; stage = Waits ticket; fixed = v.fixed; drew = true }

  abbrev pub with_seen : View E F → List E → Stage E → View E F
  with_seen v xs g = record { first = v.first; end = v.end; seen = xs; stage = g; fixed = v.fixed; drew = v.drew }

module _ {T E F : Type 0} where
  -- a ticket was drawn, or nothing changed
  abbrev pub Draws : Step (Option T) → Mine T E F → ℕ → Mine T E F → Type 0
  Draws st m found m' = (found ≡ st.first → m' ≡ (waiting m.0 found, m.1)) × (found ≢ st.first → m' ≡ m)

  -- the slot was given back, and the turn passed on. The number found is not the greatest of its type
  abbrev pub Passes : Step (Option T) → Mine T E F → ℕ → Mine T E F → Type 0
  Passes st m found m' = (m' ≡ (with_stage m.0 Idle, rest m.1)) × (found < 18446744073709551615)

  -- nothing is told, and nothing changes
  abbrev pub Rings : Step (Option T) → Mine T E F → ℕ → Mine T E F → Type 0
  Rings st m found m' = m' ≡ m

  -- of two joined seats each knew a list that goes on in what the one seat knows, with no entry of that seat's callers
  abbrev pub Settles : (E → Option ℕ) → Step (Option T) → Mine T E F → ℕ → Mine T E F → Type 0
  Settles caller st m found m' = (m' ≡ (with_stage m.0 Idle, m.1)) × ((at : ℕ) × (xs ys : List E) × (m.0.stage ≡ Met at xs ys)
      × Follows (λ e. in_range m.0.first at (caller e)) xs m.0.seen × Follows (λ e. in_range at m.0.end (caller e)) ys m.0.seen)

  -- the list of the value that is told is noted
  abbrev pub Notes : (T → List E) → Option T → Step (Option T) → Mine T E F → ℕ → Mine T E F → Type 0
  Notes entries told st m found m' = (y : T) × (told ≡ Some y) × (m' ≡ (with_seen m.0 (entries y) (Noted (number m.0.stage)), m.1))

module _ {T E F : Type 0} (entries : T → List E) (caller : E → Option ℕ) (fixed : T → F) where
  -- the value that was taken goes on from what was seen, without an entry of the own range
  abbrev pub Takes : Mine T E F → ℕ → Mine T E F → Type 0
  Takes m found m' = (x : T) × (m' ≡ (with_seen m.0 (entries x) (Holds found), (0, Some x) ∷ m.1)) × Follows (own caller m.0) m.0.seen (entries x) × (m.0.fixed ≡ Some (fixed x))

  -- at the own turn the value is taken, and else nothing changes
  abbrev pub Looks : Step (Option T) → Mine T E F → ℕ → Mine T E F → Type 0
  Looks st m found m' = (found ≡ number m.0.stage → Takes m found m') × (found ≢ number m.0.stage → m' ≡ m)

module _ {E F : Type 0} where
  -- the view with the callers below a limit, and the view with the others
  abbrev pub below : ℕ → View E F → View E F
  below at v = record { first = v.first; end = at; seen = v.seen; stage = Idle; fixed = v.fixed; drew = v.drew }

  abbrev pub above : ℕ → View E F → View E F
  above at v = record { first = at; end = v.end; seen = v.seen; stage = Idle; fixed = v.fixed; drew = v.drew }

  -- one view of two neighbouring ranges
  abbrev pub both : View E F → View E F → View E F
  both v w = record { first = v.first; end = w.end; seen = longer v.seen w.seen; stage = Met v.end v.seen w.seen; fixed = v.fixed; drew = v.drew || w.drew }

  -- the view of a seat that was joined with another
  abbrev pub spent : View E F
  spent = record { first = 0; end = 0; seen = []; stage = Idle; fixed = None; drew = false }
