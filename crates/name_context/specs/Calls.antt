-- What a call leaves.
use Rattle.std.specs.Prelude.{◌≡◌, ℕ, List, [], ◌∷◌, ◌++◌, Option, Some, None, Result, Ok, Err}
use Rattle.std.specs.Option.{option_map}
use Rattle.marshal_buf.specs.Held.{Held}
use Rattle.name_context.specs.declared.entry.NameCall.{NameCall}
use Rattle.name_context.specs.declared.entry.NameErr.{NameErr}
use Rattle.name_context.specs.declared.entry.NameErr.TheVariants as errs
use Rattle.name_context.specs.declared.entry.NameEntry.{NameEntry}
use Rattle.name_context.specs.Names.{kept_object}
use Rattle.name_context.specs.Refusal.{refusal}
use Rattle.name_context.specs.History.{NamesSeen, names_after, count_of}

-- a call was entered at the end of the history, with the refusal that the names before it give
pub record Called (caller : ℕ) (call : NameCall) (path : Option (List (List ℕ))) (stored : Option Held) (old new : NamesSeen) (refused : Option NameErr) : Type 0 where
  pub began : new.began ≡ old.began
  pub entry : NameEntry
  pub history : new.history ≡ old.history ++ entry ∷ []
  pub by : entry.caller ≡ caller
  pub number : entry.number ≡ count_of caller old.history
  pub asked : entry.call ≡ call
  pub named : entry.path ≡ path
  pub object : option_map kept_object entry.object ≡ option_map kept_object stored
  pub told : entry.refused ≡ refused
  pub reason : refused ≡ refusal (names_after old.began old.history) call path

-- a call that lacked memory left everything as it was, and every other call was entered
abbrev pub Answered : ℕ → NameCall → Option (List (List ℕ)) → Option Held → NamesSeen → NamesSeen → Option NameErr → Type 0
Answered caller call path stored old new (Some errs.Memory) = new ≡ old
Answered caller call path stored old new answer = Called caller call path stored old new answer

-- why a call was refused; none if it was done
abbrev pub refused_by : {X : Type 0} → Result X NameErr → Option NameErr
refused_by (Ok x) = None
refused_by (Err err) = Some err

-- the same of a bind, which gives its object back
abbrev pub refused_with : {X : Type 0} → Result X (NameErr × Held) → Option NameErr
refused_with (Ok x) = None
refused_with (Err back) = Some back.0
