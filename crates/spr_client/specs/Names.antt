-- Where a path is refused.
use Rattle.std.specs.Prelude.{ℕ, ◌<◌}
use Rattle.name_context.specs.declared.entry.NameErr.{NameErr}
use Rattle.name_context.specs.declared.entry.NameErr.TheVariants as refusals

-- a path of so many parts is refused at one of them, or memory ran out
abbrev pub IsAt : ℕ → NameErr → Type 0
IsAt parts (refusals.NotBound part) = part < parts
IsAt parts (refusals.AlreadyBound part) = part < parts
IsAt parts (refusals.NotContext part) = part < parts
IsAt parts (refusals.NotObject part) = part < parts
IsAt parts refusals.Memory = Unit {0}
