-- The names as they are kept, and what a call is asked.
use Rattle.std.specs.Prelude.{◌≡◌, List, Option, Some, None}
use Rattle.marshal_buf.specs.Held.{Held}
use Rattle.name_context.specs.declared.entry.NameCall.{NameCall}
use Rattle.name_context.specs.declared.entry.NameCall.TheVariants as calls
use Rattle.name_context.specs.declared.entry.NameEntry.{NameEntry}
use Rattle.name_context.specs.Names.{Name}
use Rattle.name_context.specs.History.{names_after, IsStory}

-- the names are those that the history leaves, and the history explains itself
pub record AreKept (began names : List Name) (history : List NameEntry) : Type 0 where
  pub now : names ≡ names_after began history
  pub story : IsStory began history

-- what makes a name: with no object a context is made, and else the object is bound
abbrev pub call_for : Option Held → NameCall
call_for None = calls.Context
call_for (Some stored) = calls.Bind
