-- What holds of every refusal in a history.
use Rattle.std.specs.Prelude.{ℕ, ◌<◌, List, length, Option, Some, None}
use Rattle.name_context.specs.declared.entry.NameErr.{NameErr}
use Rattle.name_context.specs.declared.entry.NameErr.TheVariants as errs
use Rattle.name_context.specs.Listed.{parts_of}

-- a refusal names a part that the path has
abbrev pub NamesPart : Option (List (List ℕ)) → Option NameErr → Type 0
NamesPart path None = Unit {0}
NamesPart path (Some (errs.NotBound part)) = part < length (parts_of path)
NamesPart path (Some (errs.AlreadyBound part)) = part < length (parts_of path)
NamesPart path (Some (errs.NotContext part)) = part < length (parts_of path)
NamesPart path (Some (errs.NotObject part)) = part < length (parts_of path)
NamesPart path (Some errs.Memory) = ⊥
