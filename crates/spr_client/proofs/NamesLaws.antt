-- What a call on the names is for the one who called, and for the others of its pass.
use Rattle.std.proofs.Common.{◌≡◌, ◌≢◌, ℕ, ◌+◌, ◌≤◌, ◌<◌, ◌==◌, Bool, true, false, cond, List, [], ◌∷◌, ◌++◌, length, Option, Some, None, refl, sym, ap, subst, ◌∙◌, arith, append_assoc, length-append, inl, inr, ⊎_elim}
use Rattle.std.proofs.lemmas.List.{append-nil}
use Rattle.std.proofs.lemmas.Bool.Decides.{nat_tests}
use Rattle.std.specs.Prelude.{slice_get, unwrap_or, ◌⊎◌}
use Rattle.marshal_buf.specs.Held.{Held}
use Rattle.hist_lock.specs.Ranges.{Quiet}
use Rattle.name_context.specs.declared.entry.NameCall.{NameCall}
use Rattle.name_context.specs.declared.entry.NameCall.TheVariants as calls
use Rattle.name_context.specs.declared.entry.NameEntry.{NameEntry}
use Rattle.name_context.specs.declared.entry.NameErr.{NameErr}
use Rattle.name_context.specs.declared.entry.NameErr.TheVariants as errs
use Rattle.name_context.specs.Names.{Kept, context, object, Name, kept_at}
use Rattle.name_context.specs.History.{NamesSeen, after, names_after}
use Rattle.name_context.specs.Refusal.{refused_at, needed_for, first_of, walk, refusal}
use Rattle.spr_volume.specs.NamesShared.{is_own, names_with}
use Rattle.spr_volume.specs.NamesShared.{Quietly as NamesQuietly}
use Rattle.spr_volume.specs.NamesCalls.{Called as NamesCalled}
use Rattle.name_context.specs.Calls.{Answered, Called}
use Rattle.stack_accept.specs.Mount.{Mount}
use Rattle.client_objects.specs.Views.{names_at_start}
use Rattle.tower_log.specs.declared.logged.Logged.{Logged}
use Rattle.tower_log.specs.Log.{place_of}
use Rattle.script_meaning.specs.Log.{Item, NameItem, items, by_caller, name_items, name_items_from, names_by, log_at}
use Rattle.script_text.specs.declared.script.Reply.TheVariants as replies
use Rattle.script_meaning.specs.Plan.{NamesAsk, Made, with_names, AsksNames, asking_names, refused_as}
use Rattle.script_meaning.specs.Fits.{NamesGoOn, Did, SyncsInOrder, made_on, made_with_names}
use Rattle.script_meaning.proofs.Logs.{names_by-more}
use Rattle.script_meaning.proofs.Parts.{goes_on_same}
use Rattle.spr_volume.specs.Passes.{Knows, VolumeSeen}
use Rattle.spr_client.specs.Calls.{NamesDone, histories}
use Rattle.spr_client.specs.Names.{IsAt}

same : (c : ℕ) → (c == c) ≡ true
same c = grind (arith, nat_tests)

differ : (a b : ℕ) → b ≢ a → (a == b) ≡ false
differ a b n = grind (arith, nat_tests)

-- an entry of no caller of a range is not of this caller of it
not_own : (first end c : ℕ) (entry : NameEntry) → first ≤ c → c < end → is_own first end entry ≡ false → (entry.caller == c) ≡ false
not_own first end c entry low high e = grind (arith, nat_tests)

quiet_entries : (first end c : ℕ) → first ≤ c → c < end → (names : List Name) (history : List NameEntry) → Quiet (is_own first end) history → names_by c (name_items_from names history) ≡ []
quiet_entries first end c low high names [] q = refl
quiet_entries first end c low high names (entry ∷ history) q =
    rw (not_own first end c entry low high q.0) (quiet_entries first end c low high (after names entry) history q.1)

-- a history that goes on quietly says nothing more of the range's callers
pub quiet_names : (first end c : ℕ) (began : List Name) (old new : List NameEntry) → first ≤ c → c < end → NamesQuietly first end old new
    → names_by c (name_items_from began new) ≡ names_by c (name_items_from began old)
quiet_names first end c began old new low high q =
    ap (λ (h : List NameEntry). names_by c (name_items_from began h)) q.whole
    ∙ (names_by-more c began old q.rest
    ∙ (ap (λ (is : List NameItem). names_by c (name_items_from began old) ++ is) (quiet_entries first end c low high (names_after began old) q.rest q.quiet)
    ∙ append-nil (names_by c (name_items_from began old))))

-- what a caller did with the names, where the logs stay as they were
did_names : (mount : Mount) (c : ℕ) (old new : Knows) (made : List Made) → new.logs ≡ old.logs → NamesGoOn (histories mount old).names (histories mount new).names → ((file : ℕ) → made_on file made ≡ [])
    → names_by c (name_items (histories mount new).names) ≡ names_by c (name_items (histories mount old).names) ++ made_with_names made → Did c (histories mount old) (histories mount new) made
did_names mount c old new made logs goes none part = record {
  later = record {
    logs = λ file. goes_on_same (log_at (histories mount old) file) (log_at (histories mount new) file) (ap (λ (ls : List (List Logged)). unwrap_or (slice_get ls file) []) logs);
    names = goes;
  };
  part = λ file. ap (λ (ls : List (List Logged)). by_caller c (items (unwrap_or (slice_get ls file) []))) logs
      ∙ (sym (append-nil (by_caller c (items (log_at (histories mount old) file)))) ∙ ap (λ (l : List Item). by_caller c (items (log_at (histories mount old) file)) ++ l) (sym (none file)));
  syncs = λ file. subst (SyncsInOrder (place_of (log_at (histories mount old) file))) (sym (none file)) tt;
  names = part;
}

-- a history that went on quietly, and one entry more
entry_part : (c : ℕ) (began : List Name) (first end : ℕ) (old before new : List NameEntry) (entry : NameEntry) → first ≤ c → c < end → NamesQuietly first end old before → new ≡ before ++ entry ∷ []
    → names_by c (name_items_from began new) ≡ names_by c (name_items_from began old) ++ cond (entry.caller == c) (record { entry = entry; names = names_after began before } ∷ []) []
entry_part c began first end old before new entry low high q is =
    ap (λ (h : List NameEntry). names_by c (name_items_from began h)) is
    ∙ (names_by-more c began before (entry ∷ [])
    ∙ ap (λ (l : List NameItem). l ++ cond (entry.caller == c) (record { entry = entry; names = names_after began before } ∷ []) []) (quiet_names first end c began old before low high q))

-- a call that memory did not lack for was entered
called_of : (caller : ℕ) (call : NameCall) (path : Option (List (List ℕ))) (stored : Option Held) (old new : NamesSeen) (refused : Option NameErr) → refused ≢ Some errs.Memory
    → Answered caller call path stored old new refused → Called caller call path stored old new refused
called_of caller call path stored old new None n a = a
called_of caller call path stored old new (Some (errs.NotBound part)) n a = a
called_of caller call path stored old new (Some (errs.AlreadyBound part)) n a = a
called_of caller call path stored old new (Some (errs.NotContext part)) n a = a
called_of caller call path stored old new (Some (errs.NotObject part)) n a = a
called_of caller call path stored old new (Some errs.Memory) n a = absurd (n refl)

-- WHAT A CALL ON THE NAMES MADE: an entry, which tells this
pub record Entered (mount : Mount) (caller : ℕ) (ask : NamesAsk) (Tells : List Name → Type 0) (old new : Knows) (refused : Option NameErr) : Type 0 where
  pub item : NameItem
  pub asks : AsksNames caller ask item.entry
  pub refused_is : item.entry.refused ≡ refused
  pub reason : refused ≡ refusal item.names ask.call ask.path
  pub tells : Tells item.names
  pub own : old.first ≤ caller → caller < old.end → Did caller (histories mount old) (histories mount new) (with_names item ∷ [])
  pub others : (c : ℕ) → c ≢ caller → old.first ≤ c → c < old.end → Did c (histories mount old) (histories mount new) []

-- the history goes on to this entry
goes_to : (began : List Name) (first end : ℕ) (old before new : List NameEntry) (entry : NameEntry) → NamesQuietly first end old before → new ≡ before ++ entry ∷ [] → NamesGoOn (names_with began old) (names_with began new)
goes_to began first end old before new entry q is = record {
  more = q.rest ++ entry ∷ [];
  began = refl;
  history = is ∙ (ap (λ (h : List NameEntry). h ++ entry ∷ []) q.whole ∙ append_assoc old q.rest (entry ∷ []));
}

pub entered : (mount : Mount) (v : VolumeSeen) (caller : ℕ) (ask : NamesAsk) (stored : Option Held) (Tells : List Name → Type 0) (old new : Knows) (refused : Option NameErr) → v.names.began ≡ names_at_start mount
    → NamesDone v caller ask stored Tells old new refused → refused ≢ Some errs.Memory → Entered mount caller ask Tells old new refused
entered mount v caller ask stored Tells old new refused start done some =
    let began : List Name = names_at_start mount in
    let here : NamesCalled began old.first old.end caller ask.call ask.path stored Tells old.history new.history refused =
    subst (λ (b : List Name). NamesCalled b old.first old.end caller ask.call ask.path stored Tells old.history new.history refused) start done.1.here in
    let called = called_of caller ask.call ask.path stored (names_with began here.before) (names_with began new.history) refused some here.answered in
    let e : NameEntry = called.entry in
    let i : NameItem = record { entry = e; names = names_after began here.before } in
    let goes = goes_to began old.first old.end old.history here.before new.history e here.quietly called.history in
    record {
      item = i;
      asks = record { by = called.by; call = called.asked; path = called.named; bound = called.object ∙ done.0 };
      refused_is = called.told;
      reason = called.reason;
      tells = here.tells;
      own = λ low high. did_names mount caller old new (with_names i ∷ []) done.1.files goes (λ file. refl)
          (entry_part caller began old.first old.end old.history here.before new.history e low high here.quietly called.history
          ∙ ap (λ (b : Bool). names_by caller (name_items_from began old.history) ++ cond b (i ∷ []) []) (ap (λ (n : ℕ). n == caller) called.by ∙ same caller));
      others = λ c n low high. did_names mount c old new [] done.1.files goes (λ file. refl)
          (entry_part c began old.first old.end old.history here.before new.history e low high here.quietly called.history
          ∙ ap (λ (b : Bool). names_by c (name_items_from began old.history) ++ cond b (i ∷ []) []) (ap (λ (m : ℕ). m == c) called.by ∙ differ caller c n));
    }

-- a call that memory lacked for made nothing
pub unnamed : (mount : Mount) (v : VolumeSeen) (caller : ℕ) (ask : NamesAsk) (stored : Option Held) (Tells : List Name → Type 0) (old new : Knows) → v.names.began ≡ names_at_start mount
    → NamesDone v caller ask stored Tells old new (Some errs.Memory) → (c : ℕ) → old.first ≤ c → c < old.end → Did c (histories mount old) (histories mount new) []
unnamed mount v caller ask stored Tells old new start done c low high =
    let began : List Name = names_at_start mount in
    let here : NamesCalled began old.first old.end caller ask.call ask.path stored Tells old.history new.history (Some errs.Memory) =
    subst (λ (b : List Name). NamesCalled b old.first old.end caller ask.call ask.path stored Tells old.history new.history (Some errs.Memory)) start done.1.here in
    let is : new.history ≡ here.before = ap (λ (n : NamesSeen). n.history) here.answered in
    did_names mount c old new [] done.1.files
    (record { more = here.quietly.rest; began = refl; history = is ∙ here.quietly.whole }) (λ file. refl)
    (ap (λ (h : List NameEntry). names_by c (name_items_from began h)) is
    ∙ (quiet_names old.first old.end c began old.history here.before low high here.quietly ∙ sym (append-nil (names_by c (name_items_from began old.history)))))

pub some_same : (a b : NameErr) → Some a ≡ Some b → a ≡ b
some_same a b e = cc

-- a refusal names a part of its path
at_part : (call : NameCall) (part parts : ℕ) (kept : Option Kept) (err : NameErr) → part < parts → refused_at call part kept ≡ Some err → IsAt parts err
at_part calls.Context part parts None err lt is = absurd cc
at_part calls.Context part parts (Some k) err lt is = let e : errs.AlreadyBound part ≡ err = cc in subst (IsAt parts) e lt
at_part calls.Bind part parts None err lt is = absurd cc
at_part calls.Bind part parts (Some k) err lt is = let e : errs.AlreadyBound part ≡ err = cc in subst (IsAt parts) e lt
at_part calls.Resolve part parts None err lt is = let e : errs.NotBound part ≡ err = cc in subst (IsAt parts) e lt
at_part calls.Resolve part parts (Some context) err lt is = let e : errs.NotObject part ≡ err = cc in subst (IsAt parts) e lt
at_part calls.Resolve part parts (Some (object bytes doors)) err lt is = absurd cc
at_part calls.Unbind part parts None err lt is = let e : errs.NotBound part ≡ err = cc in subst (IsAt parts) e lt
at_part calls.Unbind part parts (Some k) err lt is = absurd cc
at_part calls.List part parts None err lt is = let e : errs.NotBound part ≡ err = cc in subst (IsAt parts) e lt
at_part calls.List part parts (Some context) err lt is = absurd cc
at_part calls.List part parts (Some (object bytes doors)) err lt is = let e : errs.NotContext part ≡ err = cc in subst (IsAt parts) e lt

at_first : (parts : ℕ) (first onward : Option NameErr) (err : NameErr) → (first ≡ Some err → IsAt parts err) → (onward ≡ Some err → IsAt parts err) → first_of first onward ≡ Some err → IsAt parts err
at_first parts None onward err f g is = g is
at_first parts (Some e) onward err f g is = f is

walk_at : (names : List Name) (call : NameCall) (above path : List (List ℕ)) (parts : ℕ) (err : NameErr) → length above + length path ≤ parts → walk names call above path ≡ Some err → IsAt parts err
walk_at names call above [] parts err le is = absurd cc
walk_at names call above (part ∷ behind) parts err le is =
    let e = length-append above (part ∷ []) in
    at_first parts (refused_at (needed_for call behind) (length above) (kept_at names (above ++ part ∷ []))) (walk names call (above ++ part ∷ []) behind) err
    (λ here. at_part (needed_for call behind) (length above) parts (kept_at names (above ++ part ∷ [])) err (omega arith) here)
    (λ there. walk_at names call (above ++ part ∷ []) behind parts err (omega arith) there) is

pub refusal_at : (names : List Name) (call : NameCall) (path : List (List ℕ)) (err : NameErr) → Some err ≡ refusal names call (Some path) → IsAt (length path) err
refusal_at names call path err is = walk_at names call [] path (length path) err (omega arith) (sym is)

pub memory_or : (err : NameErr) → (err ≡ errs.Memory → ⊥) ⊎ (err ≡ errs.Memory)
memory_or (errs.NotBound part) = inl (λ e. absurd cc)
memory_or (errs.AlreadyBound part) = inl (λ e. absurd cc)
memory_or (errs.NotContext part) = inl (λ e. absurd cc)
memory_or (errs.NotObject part) = inl (λ e. absurd cc)
memory_or errs.Memory = inr refl

-- a call of a path that was refused was refused at a part of it, if memory did not lack
pub refused_at_part : (v : VolumeSeen) (caller : ℕ) (call : NameCall) (path : List (List ℕ)) (bound : Option Kept) (stored : Option Held) (Tells : List Name → Type 0) (old new : Knows) (err : NameErr)
    → NamesDone v caller (record { call = call; path = Some path; bound = bound }) stored Tells old new (Some err) → IsAt (length path) err
refused_at_part v caller call path bound stored Tells old new err done =
    ⊎_elim
    (λ n.
    let here = done.1.here in
    let called = called_of caller call (Some path) stored (names_with v.names.began here.before) (names_with v.names.began new.history) (Some err) (λ e. n (some_same err errs.Memory e)) here.answered in
    refusal_at (names_after v.names.began here.before) call path err called.reason)
    (λ m. subst (IsAt (length path)) (sym m) tt) (memory_or err)

no_refusal : (err : NameErr) → Some err ≡ None → ⊥
no_refusal err e = cc

-- a call of the root is refused only if memory lacks
pub root_memory : (v : VolumeSeen) (caller : ℕ) (stored : Option Held) (Tells : List Name → Type 0) (old new : Knows) (err : NameErr)
    → NamesDone v caller (asking_names calls.List None) stored Tells old new (Some err) → replies.Memory ≡ refused_as None err
root_memory v caller stored Tells old new err done =
    ⊎_elim
    (λ n.
    let here = done.1.here in
    let called = called_of caller calls.List None stored (names_with v.names.began here.before) (names_with v.names.began new.history) (Some err) (λ e. n (some_same err errs.Memory e)) here.answered in
    absurd (no_refusal err called.reason))
    (λ m. ap (refused_as None) (sym m)) (memory_or err)
