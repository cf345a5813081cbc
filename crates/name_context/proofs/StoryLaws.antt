-- A history with one entry more.
use Rattle.std.proofs.Common.{◌≡◌, ℕ, zero, suc, ◌⊎◌, inl, inr, List, [], ◌∷◌, ◌++◌, take, Option, Some, None, is_some, refl, sym, ap, subst, ◌∙◌}
use Rattle.std.specs.List.{slice_get}
use Rattle.std.specs.Option.{option_map}
use Rattle.marshal_buf.specs.Held.{Held}
use Rattle.name_context.specs.declared.entry.NameCall.{NameCall}
use Rattle.name_context.specs.declared.entry.NameCall.TheVariants as calls
use Rattle.name_context.specs.declared.entry.NameErr.{NameErr}
use Rattle.name_context.specs.declared.entry.NameErr.TheVariants as errs
use Rattle.name_context.specs.declared.entry.NameEntry.{NameEntry}
use Rattle.name_context.specs.Names.{Kept, Name, kept_object}
use Rattle.name_context.specs.Refusal.{refusal}
use Rattle.name_context.specs.History.{with_name, after_call, after, names_after, count_of, IsPathOf, has_object, IsNext, IsStory, NamesSeen}
use Rattle.name_context.specs.Calls.{Called, Answered}
use Rattle.name_context.specs.NamesView.{AreKept, call_for}
use Rattle.name_context.proofs.WalkLaws.{NotMemory, refusal-NotMemory}

-- the names after one entry more
pub names_after-push : (began : List Name) (history : List NameEntry) (entry : NameEntry) → names_after began (history ++ entry ∷ []) ≡ after (names_after began history) entry
names_after-push began [] entry = refl
names_after-push began (first ∷ history) entry = names_after-push (after began first) history entry

-- what stands at a place of a list that has one more at its end, and what stands before it
pushed : (history : List NameEntry) (entry : NameEntry) (place : ℕ) (found : NameEntry) → slice_get (history ++ entry ∷ []) place ≡ Some found
    → ((slice_get history place ≡ Some found) × (take place (history ++ entry ∷ []) ≡ take place history)) ⊎ ((found ≡ entry) × (take place (history ++ entry ∷ []) ≡ history))
pushed [] entry zero found at = inr (cc, refl)
pushed [] entry (suc place) found at = absurd cc
pushed (first ∷ history) entry zero found at = inl (at, refl)
pushed (first ∷ history) entry (suc place) found at =
    elim (pushed history entry place found at) [
      | inl old ↦ inl (old.0, ap (λ (es : List NameEntry). first ∷ es) old.1)
      | inr new ↦ inr (new.0, ap (λ (es : List NameEntry). first ∷ es) new.1)
    ]

-- the history goes on explaining itself
pub IsStory-push : (began : List Name) (history : List NameEntry) (entry : NameEntry) → IsStory began history → IsNext began history entry → IsStory began (history ++ entry ∷ [])
IsStory-push began history entry story next = λ place found at.
    elim (pushed history entry place found at) [
      | inl old ↦ subst (λ (past : List NameEntry). IsNext began past found) (sym old.1) (story place found old.0)
      | inr new ↦ subst (λ (past : List NameEntry). IsNext began past found) (sym new.1) (subst (λ (e : NameEntry). IsNext began history e) (sym new.0) next)
    ]

-- the entry of a call
abbrev pub entry_of : ℕ → NameCall → Option (List (List ℕ)) → Option Held → Option NameErr → List NameEntry → NameEntry
entry_of caller call path copy refused history =
    record { caller = caller; number = count_of caller history; call = call; path = path; object = copy; refused = refused }

-- the history with that entry, as a call of the fields tells it
pub history-entered : (caller : ℕ) (call asked : NameCall) (path named : Option (List (List ℕ))) (copy : Option Held) (refused : Option NameErr) (history middle history' : List NameEntry)
    → history' ≡ middle ++ entry_of caller asked named copy refused middle ∷ [] → middle ≡ history → asked ≡ call → named ≡ path
    → history' ≡ history ++ entry_of caller call path copy refused history ∷ []
history-entered caller call asked path named copy refused history middle history' more same asked_is named_is =
    more ∙ (ap (λ (m : List NameEntry). m ++ entry_of caller asked named copy refused m ∷ []) same
    ∙ (ap (λ (a : NameCall). history ++ entry_of caller a named copy refused history ∷ []) asked_is
    ∙ ap (λ (p : Option (List (List ℕ))). history ++ entry_of caller call p copy refused history ∷ []) named_is))

-- a call is entered, and what it makes of the names is made
pub call-kept : (began names names' : List Name) (history history' : List NameEntry) (caller : ℕ) (call : NameCall) (path : Option (List (List ℕ))) (copy : Option Held) (refused : Option NameErr)
    → AreKept began names history → history' ≡ history ++ entry_of caller call path copy refused history ∷ [] → refused ≡ refusal names call path → IsPathOf call path → is_some copy ≡ has_object call
    → names' ≡ after_call names call path copy refused → AreKept began names' history'
call-kept began names names' history history' caller call path copy refused kept more reason path_is has made = record {
  now = made ∙ (ap (λ (ns : List Name). after_call ns call path copy refused) kept.now
      ∙ (sym (names_after-push began history (entry_of caller call path copy refused history)) ∙ ap (names_after began) (sym more)));
  story = subst (IsStory began) (sym more) (IsStory-push began history (entry_of caller call path copy refused history) kept.story (record {
    number = refl;
    refused = reason ∙ ap (λ (ns : List Name). refusal ns call path) kept.now;
    path = path_is;
    object = has;
  }));
}

-- and it was called so
pub call-called : (began names : List Name) (history history' : List NameEntry) (old : NamesSeen) (caller : ℕ) (call : NameCall) (path : Option (List (List ℕ))) (stored copy : Option Held) (refused : Option NameErr)
    → AreKept began names history → (let seen : NamesSeen = record { began = began; history = history } in seen ≡ old) → history' ≡ history ++ entry_of caller call path copy refused history ∷ []
    → refused ≡ refusal names call path → option_map kept_object copy ≡ option_map kept_object stored
    → Called caller call path stored old (record { began = began; history = history' }) refused
call-called began names history history' old caller call path stored copy refused kept view more reason object =
    subst (λ (o : NamesSeen). Called caller call path stored o (record { began = began; history = history' }) refused) view (record {
      began = refl;
      entry = entry_of caller call path copy refused history;
      history = more;
      by = refl;
      number = refl;
      asked = refl;
      named = refl;
      object = object;
      told = refl;
      reason = reason ∙ ap (λ (ns : List Name). refusal ns call path) kept.now;
    })

-- of an object only the bytes and the doors count
pub after_call-object : (names : List Name) (call : NameCall) (path : Option (List (List ℕ))) (stored other : Option Held) (refused : Option NameErr) → option_map kept_object stored ≡ option_map kept_object other
    → after_call names call path stored refused ≡ after_call names call path other refused
after_call-object names call path stored other (Some err) same = refl
after_call-object names call None stored other None same = refl
after_call-object names calls.Context (Some path) stored other None same = refl
after_call-object names calls.Bind (Some path) None None None same = refl
after_call-object names calls.Bind (Some path) None (Some other) None same = absurd cc
after_call-object names calls.Bind (Some path) (Some stored) None None same = absurd cc
after_call-object names calls.Bind (Some path) (Some stored) (Some other) None same =
    let kept : kept_object stored ≡ kept_object other = cc in
    ap (λ (k : Kept). with_name names path k) kept
after_call-object names calls.Unbind (Some path) stored other None same = refl
after_call-object names calls.Resolve (Some path) stored other None same = refl
after_call-object names calls.List (Some path) stored other None same = refl

-- a call that was entered was answered so: no refusal is for memory
pub called-answered : (caller : ℕ) (call : NameCall) (path : Option (List (List ℕ))) (stored : Option Held) (old new : NamesSeen) (refused : Option NameErr) → Called caller call path stored old new refused
    → Answered caller call path stored old new refused
called-answered caller call path stored old new None called = called
called-answered caller call path stored old new (Some (errs.NotBound part)) called = called
called-answered caller call path stored old new (Some (errs.AlreadyBound part)) called = called
called-answered caller call path stored old new (Some (errs.NotContext part)) called = called
called-answered caller call path stored old new (Some (errs.NotObject part)) called = called
called-answered caller call path stored old new (Some errs.Memory) called =
    absurd (subst NotMemory (sym called.reason) (refusal-NotMemory (names_after old.began old.history) call path))

-- the same, where the answer tells the refusal
pub answered-by : (caller : ℕ) (call : NameCall) (path : Option (List (List ℕ))) (stored : Option Held) (old new : NamesSeen) (refused answer : Option NameErr) → answer ≡ refused → Called caller call path stored old new refused
    → Answered caller call path stored old new answer
answered-by caller call path stored old new refused answer told called =
    subst (Answered caller call path stored old new) (sym told) (called-answered caller call path stored old new refused called)

-- a resolve changes nothing, refused or not
pub resolve-same : (names : List Name) (path : List (List ℕ)) (refused : Option NameErr) → names ≡ after_call names calls.Resolve (Some path) None refused
resolve-same names path None = refl
resolve-same names path (Some err) = refl

-- nor does a list
pub list-same : (names : List Name) (path : Option (List (List ℕ))) (refused : Option NameErr) → names ≡ after_call names calls.List path None refused
list-same names None None = refl
list-same names (Some path) None = refl
list-same names path (Some err) = refl

-- a bind has an object, and a new context has none
pub copy-has : (copy stored : Option Held) → option_map kept_object copy ≡ option_map kept_object stored → is_some copy ≡ has_object (call_for stored)
copy-has None None same = refl
copy-has None (Some stored) same = absurd cc
copy-has (Some copy) None same = absurd cc
copy-has (Some copy) (Some stored) same = refl
