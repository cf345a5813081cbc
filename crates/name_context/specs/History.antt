-- The history of the calls, and the names that they leave.
use Rattle.std.specs.Prelude.{◌≡◌, ◌==◌, ℕ, Bool, true, false, not, List, [], ◌∷◌, ◌++◌, filter, fold, count_by, take, slice_get, Option, Some, None, is_some}
use Rattle.std.specs.List.{starts_with}
use Rattle.std.specs.Str.{bytes_eq}
use Rattle.marshal_buf.specs.Held.{Held}
use Rattle.name_context.specs.declared.entry.NameCall.{NameCall}
use Rattle.name_context.specs.declared.entry.NameCall.TheVariants as calls
use Rattle.name_context.specs.declared.entry.NameErr.{NameErr}
use Rattle.name_context.specs.declared.entry.NameEntry.{NameEntry}
use Rattle.name_context.specs.Names.{Kept, context, Name, kept_object, HasParts}
use Rattle.name_context.specs.Refusal.{refusal}

-- the names, and this one behind them
abbrev pub with_name : List Name → List (List ℕ) → Kept → List Name
with_name names path kept = names ++ record { path = path; kept = kept } ∷ []

-- the names but this one and all that begin with it, in order
abbrev pub without : List Name → List (List ℕ) → List Name
without names path = filter (λ name. not (starts_with bytes_eq name.path path)) names

-- what a call that is done makes of the names: a resolve and a list change nothing
abbrev pub effect_on : List Name → NameCall → Option (List (List ℕ)) → Option Held → List Name
effect_on names call None stored = names
effect_on names calls.Context (Some path) stored = with_name names path context
effect_on names calls.Bind (Some path) None = names
effect_on names calls.Bind (Some path) (Some stored) = with_name names path (kept_object stored)
effect_on names calls.Unbind (Some path) stored = without names path
effect_on names calls.Resolve (Some path) stored = names
effect_on names calls.List (Some path) stored = names

-- what a call makes of the names: one that is refused changes nothing
abbrev pub after_call : List Name → NameCall → Option (List (List ℕ)) → Option Held → Option NameErr → List Name
after_call names call path stored None = effect_on names call path stored
after_call names call path stored (Some err) = names

-- what an entry makes of the names
abbrev pub after : List Name → NameEntry → List Name
after names entry = after_call names entry.call entry.path entry.object entry.refused

-- what a history makes of the names
abbrev pub names_after : List Name → List NameEntry → List Name
names_after began history = fold after began history

-- how many entries a caller has
abbrev pub count_of : ℕ → List NameEntry → ℕ
count_of caller history = count_by (λ entry. entry.caller == caller) history

-- a path of a call: only a list names the root
abbrev pub IsPathOf : NameCall → Option (List (List ℕ)) → Type 0
IsPathOf call None = call ≡ calls.List
IsPathOf call (Some path) = HasParts path

abbrev pub has_object : NameCall → Bool
has_object calls.Context = false
has_object calls.Bind = true
has_object calls.Resolve = false
has_object calls.Unbind = false
has_object calls.List = false

-- what holds of an entry that comes behind these
pub record IsNext (began : List Name) (past : List NameEntry) (entry : NameEntry) : Type 0 where
  pub number : entry.number ≡ count_of entry.caller past
  pub refused : entry.refused ≡ refusal (names_after began past) entry.call entry.path
  pub path : IsPathOf entry.call entry.path
  pub object : is_some entry.object ≡ has_object entry.call

-- THE HISTORY EXPLAINS ITSELF: each entry has the number and the refusal that the entries before it give
abbrev pub IsStory : List Name → List NameEntry → Type 0
IsStory began history = (place : ℕ) (entry : NameEntry) → slice_get history place ≡ Some entry → IsNext began (take place history) entry

-- what contracts see of the names of a stack: those at the start, and the calls since
pub record NamesSeen : Type 0 where
  pub began : List Name
  pub history : List NameEntry
