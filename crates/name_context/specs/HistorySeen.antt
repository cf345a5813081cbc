-- What contracts see of a history that is kept.
use Rattle.std.specs.Prelude.{ℕ, List}
use Rattle.name_context.specs.declared.entry.NameEntry.{NameEntry}

pub record StorySeen : Type 0 where
  -- the entries, in order
  pub entries : List NameEntry
  -- for how many more there is room
  pub room : ℕ
