-- What a call on the names does, by what its caller's seat knows before and after it.
use Rattle.std.specs.Prelude.{◌≡◌, ℕ, List, Option, Some, IfOk, Result}
use Rattle.marshal_buf.specs.Held.{Held}
use Rattle.name_context.specs.declared.entry.NameCall.{NameCall}
use Rattle.name_context.specs.declared.entry.NameEntry.{NameEntry}
use Rattle.name_context.specs.declared.entry.NameErr.{NameErr}
use Rattle.name_context.specs.Calls.{Answered}
use Rattle.name_context.specs.History.{names_after}
use Rattle.name_context.specs.Names.{Name, kept_at, kept_object}
use Rattle.spr_volume.specs.NamesShared.{Quietly, names_with}

-- A CALL of a caller of a range: the history goes on without an entry of the range, and then the call is entered last, with the
-- refusal that the names then give, and tells this of the names; or memory lacked for it, and it is not entered
pub record Called (began : List Name) (first end caller : ℕ) (call : NameCall) (path : Option (List (List ℕ))) (stored : Option Held) (Tells : List Name → Type 0) (old new : List NameEntry) (refused : Option NameErr) : Type 0 where
  pub before : List NameEntry
  pub quietly : Quietly first end old before
  pub answered : Answered caller call path stored (names_with began before) (names_with began new) refused
  pub tells : Tells (names_after began before)

-- a call that tells nothing but whether it was refused
abbrev pub TellsNothing : List Name → Type 0
TellsNothing names = Unit {0}

-- a call that was not refused gave the object that stands at the path
abbrev pub TellsObject : List (List ℕ) → Result Held NameErr → List Name → Type 0
TellsObject path r names = IfOk r (λ stored. kept_at names path ≡ Some (kept_object stored))
