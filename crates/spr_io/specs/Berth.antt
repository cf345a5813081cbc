-- What a bay has under a name: a store, a store that was taken, or none.
use Rattle.std.specs.Prelude.{◌≡◌, ℕ, List, Option, Some, None, IfSome, is_some, Bool, true, false}
use Rattle.std.specs.Option.{option_map}
use Rattle.spr_io.specs.Content.{Content, zeros, all_kept}

-- what lies there, if it is told: nothing, or a content; whether its store was taken and not given back;
-- and the count of faults of its store, as it was when it was taken last or given back last
pub record Berth : Type 0 where
  pub holds : Option (Option Content)
  pub out : Bool
  pub faults : ℕ

-- whether something lies there, if it is told what does
abbrev pub Lies : Option (Option Content) → Bool → Type 0
Lies holds there = IfSome holds (λ held. there ≡ is_some held)

-- what a store that is taken holds: what lay there as it was read, all of it kept, or zeros if nothing lay there
abbrev pub Opens : ℕ → ℕ → Option (Option Content) → Option Content → Type 0
Opens size number None content = Unit {0}
Opens size number (Some None) content = content ≡ Some (zeros size number)
Opens size number (Some (Some held)) content = content ≡ Some (all_kept held)

-- the berth after its store was taken
abbrev pub taken : Berth → Berth
taken b = record { holds = option_map {T = Option Content} (λ _. None) b.holds; out = true; faults = b.faults }

-- the berth after a store was given back
abbrev pub given : Option Content → ℕ → Berth → Berth
given content faults b = record { holds = option_map {T = Option Content} (λ _. content) b.holds; out = false; faults = faults }

-- the berth after a store was refused: it is lost, and its count is noted if it had been taken
abbrev pub lost : ℕ → Berth → Berth
lost faults b = by_out b.out where
  by_out : Bool → Berth
  by_out true = record b { faults = faults }
  by_out false = b

-- the berths by disk and file
abbrev pub Berths : Type 0
Berths = List ℕ → List ℕ → Berth

-- what a bay tells: its berths, and the count of its own faults
pub record BaySeen : Type 0 where
  pub berths : Berths
  pub faults : ℕ

-- no berth but this one changes
abbrev pub SameElsewhere : List ℕ → List ℕ → Berths → Berths → Type 0
SameElsewhere disk file before after = (d f : List ℕ) → (d ≡ disk → f ≡ file → ⊥) → after d f ≡ before d f

-- no berth changes
abbrev pub SameBerths : Berths → Berths → Type 0
SameBerths before after = (d f : List ℕ) → after d f ≡ before d f
