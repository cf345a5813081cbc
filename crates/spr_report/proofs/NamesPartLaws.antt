-- A refusal names a part of the path that was walked.
use Rattle.std.proofs.Common.{◌≡◌, ℕ, ◌+◌, ◌<◌, List, [], ◌∷◌, ◌++◌, length, slice_get, Option, Some, None, sym, subst, arith, length-append}
use Rattle.name_context.specs.declared.entry.NameCall.{NameCall}
use Rattle.name_context.specs.declared.entry.NameCall.TheVariants as calls
use Rattle.name_context.specs.declared.entry.NameErr.{NameErr}
use Rattle.name_context.specs.declared.entry.NameErr.TheVariants as errs
use Rattle.name_context.specs.declared.entry.NameEntry.{NameEntry}
use Rattle.name_context.specs.Names.{Kept, context, object, Name, kept_at}
use Rattle.name_context.specs.Refusal.{refused_at, needed_for, first_of, walk, refusal}
use Rattle.name_context.specs.History.{IsStory}
use Rattle.spr_report.specs.NamesLaws.{NamesPart}

-- a refusal names a part below this number
abbrev pub IsBelow : ℕ → Option NameErr → Type 0
IsBelow end None = Unit {0}
IsBelow end (Some (errs.NotBound part)) = part < end
IsBelow end (Some (errs.AlreadyBound part)) = part < end
IsBelow end (Some (errs.NotContext part)) = part < end
IsBelow end (Some (errs.NotObject part)) = part < end
IsBelow end (Some errs.Memory) = ⊥

refused_at-below : (call : NameCall) (part end : ℕ) (kept : Option Kept) → part < end → IsBelow end (refused_at call part kept)
refused_at-below calls.Context part end None below = tt
refused_at-below calls.Context part end (Some kept) below = below
refused_at-below calls.Bind part end None below = tt
refused_at-below calls.Bind part end (Some kept) below = below
refused_at-below calls.Resolve part end None below = below
refused_at-below calls.Resolve part end (Some context) below = below
refused_at-below calls.Resolve part end (Some (object bytes doors)) below = tt
refused_at-below calls.Unbind part end None below = below
refused_at-below calls.Unbind part end (Some kept) below = tt
refused_at-below calls.List part end None below = below
refused_at-below calls.List part end (Some context) below = tt
refused_at-below calls.List part end (Some (object bytes doors)) below = below

first_of-below : (end : ℕ) (refused onward : Option NameErr) → IsBelow end refused → IsBelow end onward → IsBelow end (first_of refused onward)
first_of-below end None onward here there = there
first_of-below end (Some err) onward here there = here

walk-below : (names : List Name) (call : NameCall) (end : ℕ) (above path : List (List ℕ)) → length above + length path ≡ end → IsBelow end (walk names call above path)
walk-below names call end above [] sum = tt
walk-below names call end above (part ∷ behind) sum =
    let kept = kept_at names (above ++ part ∷ []) in
    first_of-below end (refused_at (needed_for call behind) (length above) kept) (walk names call (above ++ part ∷ []) behind)
    (refused_at-below (needed_for call behind) (length above) end kept (omega arith))
    (walk-below names call end (above ++ part ∷ []) behind (let e = length-append above (part ∷ []) in omega arith))

below-part : (path : List (List ℕ)) (refused : Option NameErr) → IsBelow (length path) refused → NamesPart (Some path) refused
below-part path None below = tt
below-part path (Some (errs.NotBound part)) below = below
below-part path (Some (errs.AlreadyBound part)) below = below
below-part path (Some (errs.NotContext part)) below = below
below-part path (Some (errs.NotObject part)) below = below
below-part path (Some errs.Memory) below = below

refusal-part : (names : List Name) (call : NameCall) (path : Option (List (List ℕ))) → NamesPart path (refusal names call path)
refusal-part names call None = tt
refusal-part names call (Some path) =
    below-part path (walk names call [] path) (walk-below names call (length path) [] path (omega arith))

-- each entry of a history that explains itself
pub story-part : (began : List Name) (history : List NameEntry) → IsStory began history → (place : ℕ) (entry : NameEntry) → slice_get history place ≡ Some entry → NamesPart entry.path entry.refused
story-part began history story place entry at =
    let next = story place entry at in
    subst (NamesPart entry.path) (sym next.refused) (refusal-part _ entry.call entry.path)
