-- The names as the tree has them.
use Rattle.std.specs.Prelude.{◌≡◌, ℕ, List, map, Option}
use Rattle.std.specs.List.{AllByRecursion}
use Rattle.std.specs.Option.{option_map, option_copied}
use Rattle.std.specs.Borrow.{Bor}
use Rattle.std.specs.declared.vec.Vec.{Vec}
use Rattle.std.specs.declared.alloc.Global.{Global}
use Rattle.name_context.specs.declared.tree.Binding.{Binding}
use Rattle.name_context.specs.declared.tree.Binding.TheVariants.{Context, Object}
use Rattle.name_context.specs.declared.tree.Bound.{Bound}
use Rattle.name_context.specs.Names.{Kept, context, Name, kept_object}
use Rattle.name_context.specs.Keys.{path_key}

-- what a binding stands for
abbrev pub kept_of : Binding → Kept
kept_of Context = context
kept_of (Object stored) = kept_object stored

-- what was found, if something was
abbrev pub kept_found : Option (Bor Binding) → Option Kept
kept_found found = option_map kept_of (option_copied found)

-- the name of an entry of the map
abbrev pub name_of : Vec ℕ Global × Bound → Name
name_of entry = record { path = entry.1.path; kept = kept_of entry.1.binding }

-- the names of the entries, in order
abbrev pub names_of : List (Vec ℕ Global × Bound) → List Name
names_of entries = map name_of entries

-- each entry's key is that of its path
abbrev pub AreKeyed : List (Vec ℕ Global × Bound) → Type 0
AreKeyed entries = AllByRecursion (λ entry. entry.0.items ≡ path_key entry.1.path) entries
