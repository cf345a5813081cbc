-- What a walk tells of the last part, and that no refusal is for memory.
use Rattle.std.proofs.Common.{◌≡◌, ℕ, ◌<◌, List, [], ◌∷◌, ◌++◌, length, Option, Some, None, refl, subst, append_assoc, arith}
use Rattle.std.specs.Option.{IsSomeAnd}
use Rattle.marshal_buf.specs.Held.{Held}
use Rattle.name_context.specs.declared.entry.NameCall.{NameCall}
use Rattle.name_context.specs.declared.entry.NameCall.TheVariants as calls
use Rattle.name_context.specs.declared.entry.NameErr.{NameErr}
use Rattle.name_context.specs.declared.entry.NameErr.TheVariants as errs
use Rattle.name_context.specs.Names.{Kept, context, object, Name, kept_at, IsObject}
use Rattle.name_context.specs.Refusal.{refused_at, needed_for, first_of, walk, refusal}
use Rattle.name_context.specs.NamesView.{call_for}

-- it is no refusal for memory
abbrev pub NotMemory : Option NameErr → Type 0
NotMemory None = Unit {0}
NotMemory (Some (errs.NotBound part)) = Unit {0}
NotMemory (Some (errs.AlreadyBound part)) = Unit {0}
NotMemory (Some (errs.NotContext part)) = Unit {0}
NotMemory (Some (errs.NotObject part)) = Unit {0}
NotMemory (Some errs.Memory) = ⊥

refused_at-NotMemory : (call : NameCall) (part : ℕ) (kept : Option Kept) → NotMemory (refused_at call part kept)
refused_at-NotMemory calls.Context part None = tt
refused_at-NotMemory calls.Context part (Some kept) = tt
refused_at-NotMemory calls.Bind part None = tt
refused_at-NotMemory calls.Bind part (Some kept) = tt
refused_at-NotMemory calls.Resolve part None = tt
refused_at-NotMemory calls.Resolve part (Some context) = tt
refused_at-NotMemory calls.Resolve part (Some (object bytes doors)) = tt
refused_at-NotMemory calls.Unbind part None = tt
refused_at-NotMemory calls.Unbind part (Some kept) = tt
refused_at-NotMemory calls.List part None = tt
refused_at-NotMemory calls.List part (Some context) = tt
refused_at-NotMemory calls.List part (Some (object bytes doors)) = tt

first_of-NotMemory : (refused onward : Option NameErr) → NotMemory refused → NotMemory onward → NotMemory (first_of refused onward)
first_of-NotMemory None onward here there = there
first_of-NotMemory (Some err) onward here there = here

walk-NotMemory : (names : List Name) (call : NameCall) (above path : List (List ℕ)) → NotMemory (walk names call above path)
walk-NotMemory names call above [] = tt
walk-NotMemory names call above (part ∷ behind) =
    first_of-NotMemory (refused_at (needed_for call behind) (length above) (kept_at names (above ++ part ∷ []))) (walk names call (above ++ part ∷ []) behind)
    (refused_at-NotMemory (needed_for call behind) (length above) (kept_at names (above ++ part ∷ [])))
    (walk-NotMemory names call (above ++ part ∷ []) behind)

pub refusal-NotMemory : (names : List Name) (call : NameCall) (path : Option (List (List ℕ))) → NotMemory (refusal names call path)
refusal-NotMemory names call None = tt
refusal-NotMemory names call (Some path) = walk-NotMemory names call [] path

first_of-none : (refused onward : Option NameErr) → first_of refused onward ≡ None → (refused ≡ None) × (onward ≡ None)
first_of-none None onward e = (refl, e)
first_of-none (Some err) onward e = absurd cc

-- if nothing is refused, nothing is at the last part
walk-last : (names : List Name) (call : NameCall) (above path : List (List ℕ)) → 0 < length path → walk names call above path ≡ None
    → (part : ℕ) × (refused_at call part (kept_at names (above ++ path)) ≡ None)
walk-last names call above [] some e = absurd (omega arith)
walk-last names call above (part ∷ []) some e =
    (length above, (first_of-none (refused_at call (length above) (kept_at names (above ++ part ∷ []))) None e).0)
walk-last names call above (part ∷ next ∷ behind) some e =
    let onward = (first_of-none (refused_at calls.List (length above) (kept_at names (above ++ part ∷ []))) (walk names call (above ++ part ∷ []) (next ∷ behind)) e).1 in
    let last = walk-last names call (above ++ part ∷ []) (next ∷ behind) (omega arith) onward in
    (last.0, subst (λ (path : List (List ℕ)). refused_at call last.0 (kept_at names path) ≡ None) (append_assoc above (part ∷ []) (next ∷ behind)) last.1)

context-free : (part : ℕ) (kept : Option Kept) → refused_at calls.Context part kept ≡ None → kept ≡ None
context-free part None e = refl
context-free part (Some kept) e = absurd cc

bind-free : (part : ℕ) (kept : Option Kept) → refused_at calls.Bind part kept ≡ None → kept ≡ None
bind-free part None e = refl
bind-free part (Some kept) e = absurd cc

resolve-object : (part : ℕ) (kept : Option Kept) → refused_at calls.Resolve part kept ≡ None → IsSomeAnd kept IsObject
resolve-object part None e = absurd cc
resolve-object part (Some context) e = absurd cc
resolve-object part (Some (object bytes doors)) e = tt

-- where a context may be made, nothing stands
context-done : (names : List Name) (path : List (List ℕ)) → 0 < length path → walk names calls.Context [] path ≡ None → kept_at names path ≡ None
context-done names path some e = let last = walk-last names calls.Context [] path some e in context-free last.0 (kept_at names path) last.1

-- nor where an object may be bound
bind-done : (names : List Name) (path : List (List ℕ)) → 0 < length path → walk names calls.Bind [] path ≡ None → kept_at names path ≡ None
bind-done names path some e = let last = walk-last names calls.Bind [] path some e in bind-free last.0 (kept_at names path) last.1

-- what is resolved is an object
pub resolve-done : (names : List Name) (path : List (List ℕ)) → 0 < length path → walk names calls.Resolve [] path ≡ None → IsSomeAnd (kept_at names path) IsObject
resolve-done names path some e = let last = walk-last names calls.Resolve [] path some e in resolve-object last.0 (kept_at names path) last.1

-- a part with parts behind it is needed as a context
pub needed_for-behind : (call : NameCall) (behind : List (List ℕ)) → 0 < length behind → calls.List ≡ needed_for call behind
needed_for-behind call [] some = absurd (omega arith)
needed_for-behind call (next ∷ behind) some = refl

-- where a name may be made, nothing stands
pub make-free : (names : List Name) (stored : Option Held) (path : List (List ℕ)) → 0 < length path → refusal names (call_for stored) (Some path) ≡ None → kept_at names path ≡ None
make-free names None path some e = context-done names path some e
make-free names (Some stored) path some e = bind-done names path some e
