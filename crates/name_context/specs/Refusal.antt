-- Why a call is refused.
use Rattle.std.specs.Prelude.{ℕ, List, [], ◌∷◌, ◌++◌, length, Option, Some, None}
use Rattle.name_context.specs.declared.entry.NameCall.{NameCall}
use Rattle.name_context.specs.declared.entry.NameCall.TheVariants as calls
use Rattle.name_context.specs.declared.entry.NameErr.{NameErr}
use Rattle.name_context.specs.declared.entry.NameErr.TheVariants as errs
use Rattle.name_context.specs.Names.{Kept, context, object, Name, kept_at}

-- What a call is refused of which a part leads here. To make a context and to bind need nothing there, to resolve needs an
-- object, to unbind needs something, and to list needs a context.
abbrev pub refused_at : NameCall → ℕ → Option Kept → Option NameErr
refused_at calls.Context part None = None
refused_at calls.Context part (Some kept) = Some (errs.AlreadyBound part)
refused_at calls.Bind part None = None
refused_at calls.Bind part (Some kept) = Some (errs.AlreadyBound part)
refused_at calls.Resolve part None = Some (errs.NotBound part)
refused_at calls.Resolve part (Some context) = Some (errs.NotObject part)
refused_at calls.Resolve part (Some (object bytes doors)) = None
refused_at calls.Unbind part None = Some (errs.NotBound part)
refused_at calls.Unbind part (Some kept) = None
refused_at calls.List part None = Some (errs.NotBound part)
refused_at calls.List part (Some context) = None
refused_at calls.List part (Some (object bytes doors)) = Some (errs.NotContext part)

-- what a part is needed for: the last one for the call, and one with parts behind it as a context, as if it were listed
abbrev pub needed_for : NameCall → List (List ℕ) → NameCall
needed_for call [] = call
needed_for call (next ∷ behind) = calls.List

-- the first of two refusals
abbrev pub first_of : Option NameErr → Option NameErr → Option NameErr
first_of None onward = onward
first_of (Some err) onward = Some err

-- the walk over these parts from the left, behind the parts above: the first that cannot stand gives the refusal
abbrev pub walk : List Name → NameCall → List (List ℕ) → List (List ℕ) → Option NameErr
walk names call above [] = None
walk names call above (part ∷ behind) =
    first_of (refused_at (needed_for call behind) (length above) (kept_at names (above ++ part ∷ []))) (walk names call (above ++ part ∷ []) behind)

-- why a call of a path is refused; of the root never
abbrev pub refusal : List Name → NameCall → Option (List (List ℕ)) → Option NameErr
refusal names call None = None
refusal names call (Some path) = walk names call [] path
