-- A history that explains itself in a hold does so for the seat that made it.
use Rattle.std.proofs.Common.{◌≡◌, ℕ, List, Option, None, Some, ap, subst, sym, ◌∙◌}
use Rattle.marshal_buf.specs.Held.{Held}
use Rattle.name_context.specs.declared.entry.NameCall.{NameCall}
use Rattle.name_context.specs.declared.entry.NameEntry.{NameEntry}
use Rattle.name_context.specs.declared.entry.NameErr.{NameErr}
use Rattle.name_context.specs.declared.entry.NameErr.TheVariants as errs
use Rattle.name_context.specs.Calls.{Answered}
use Rattle.name_context.specs.History.{IsStory, NamesSeen}
use Rattle.name_context.specs.Names.{Name}

-- no call changes the names at the start
began_same : (caller : ℕ) (call : NameCall) (path : Option (List (List ℕ))) (stored : Option Held) (old new : NamesSeen) (refused : Option NameErr) → Answered caller call path stored old new refused → new.began ≡ old.began
began_same caller call path stored old new None h = h.began
began_same caller call path stored old new (Some (errs.NotBound part)) h = h.began
began_same caller call path stored old new (Some (errs.AlreadyBound part)) h = h.began
began_same caller call path stored old new (Some (errs.NotContext part)) h = h.began
began_same caller call path stored old new (Some (errs.NotObject part)) h = h.began
began_same caller call path stored old new (Some errs.Memory) h = ap (λ (n : NamesSeen). n.began) h

pub story_given : (caller : ℕ) (call : NameCall) (path : Option (List (List ℕ))) (stored : Option Held) (old new : NamesSeen) (refused : Option NameErr) (part : List Name) (seen : List NameEntry) → Answered caller call path stored old new refused
    → old.began ≡ part → seen ≡ new.history → IsStory new.began new.history → IsStory part seen
story_given caller call path stored old new refused part seen h is given story =
    let P : List Name → Type 0 = λ names. IsStory names seen in
    let Q : List NameEntry → Type 0 = λ history. IsStory new.began history in
    subst P (began_same caller call path stored old new refused h ∙ is) (subst Q (sym given) story)
