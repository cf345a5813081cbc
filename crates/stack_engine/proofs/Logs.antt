-- A log with one thing more: its trail, its notes, what it keeps, and the numbers of its callers.
use Rattle.std.proofs.Common.{◌≡◌, ℕ, zero, suc, ◌+◌, ◌<◌, ◌≤◌, ◌==◌, ◌||◌, Bool, true, false, cond, List, [], ◌∷◌, ◌++◌, length, Option, Some, None, refl, sym, ap, subst, ◌∙◌, arith}
use Rattle.std.specs.Prelude.{slice_get}
use Rattle.std.proofs.lemmas.List.{append-nil}
use Rattle.std.proofs.lemmas.List.Elements.{filter-append}
use Rattle.std.proofs.lemmas.List.Sums.{fold-append}
use Rattle.std.proofs.lemmas.Bool.Decides.{nat_tests}
use Rattle.hist_plain.specs.declared.event.Event.{Event}
use Rattle.hist_plain.specs.Event.{caller_of, number_of}
use Rattle.hist_plain.specs.History.{mine, is_by, IsCounted, IsNumbered}
use Rattle.layer_laws.specs.Granted.{is_grant_of, is_granted_in}
use Rattle.tower_log.specs.declared.logged.Entry.{Entry}
use Rattle.tower_log.specs.declared.logged.Logged.{Logged}
use Rattle.tower_log.specs.declared.logged.Logged.TheVariants.{Entered, Noted}
use Rattle.tower_log.specs.declared.logged.Note.{Note}
use Rattle.tower_log.specs.Log.{entries_of, first_of, kept_by, kept_in, place_of, trail_of}
use Rattle.tower_log.specs.Notes.{Rises, counts_of}
use Rattle.stack_engine.specs.Opened.{from_after, last_from}

-- THE TRAIL

pub trail_of-entered : (log : List Logged) (entry : Entry) → trail_of (log ++ Entered entry ∷ []) ≡ trail_of log ++ entry.event ∷ []
trail_of-entered [] entry = refl
trail_of-entered (Entered first ∷ log) entry = ap (λ (es : List Event). first.event ∷ es) (trail_of-entered log entry)
trail_of-entered (Noted note ∷ log) entry = trail_of-entered log entry

pub trail_of-noted : (log : List Logged) (note : Note) → trail_of (log ++ Noted note ∷ []) ≡ trail_of log
trail_of-noted [] note = refl
trail_of-noted (Entered first ∷ log) note = ap (λ (es : List Event). first.event ∷ es) (trail_of-noted log note)
trail_of-noted (Noted first ∷ log) note = trail_of-noted log note

pub entries_of-entered : (log : List Logged) (entry : Entry) → entries_of (log ++ Entered entry ∷ []) ≡ entries_of log ++ entry ∷ []
entries_of-entered [] entry = refl
entries_of-entered (Entered first ∷ log) entry = ap (λ (es : List Entry). first ∷ es) (entries_of-entered log entry)
entries_of-entered (Noted note ∷ log) entry = entries_of-entered log entry

pub entries_of-noted : (log : List Logged) (note : Note) → entries_of (log ++ Noted note ∷ []) ≡ entries_of log
entries_of-noted [] note = refl
entries_of-noted (Entered first ∷ log) note = ap (λ (es : List Entry). first ∷ es) (entries_of-noted log note)
entries_of-noted (Noted first ∷ log) note = entries_of-noted log note

pub length-entries_of : (log : List Logged) → length (entries_of log) ≡ place_of log
length-entries_of [] = refl
length-entries_of (Entered first ∷ log) = ap suc (length-entries_of log)
length-entries_of (Noted note ∷ log) = length-entries_of log

-- THE NOTES

counts-cond : (b : Bool) (count : ℕ) (xs ys zs : List ℕ) → zs ≡ xs ++ ys → cond b (count ∷ zs) zs ≡ cond b (count ∷ xs) xs ++ ys
counts-cond true count xs ys zs e = ap (λ (l : List ℕ). count ∷ l) e
counts-cond false count xs ys zs e = e

pub counts_of-append : (disk : ℕ) (xs ys : List Logged) → counts_of disk (xs ++ ys) ≡ counts_of disk xs ++ counts_of disk ys
counts_of-append disk [] ys = refl
counts_of-append disk (Entered entry ∷ xs) ys = counts_of-append disk xs ys
counts_of-append disk (Noted note ∷ xs) ys = counts-cond (note.disk == disk) note.count (counts_of disk xs) (counts_of disk ys) (counts_of disk (xs ++ ys)) (counts_of-append disk xs ys)

pub counts_of-entered : (disk : ℕ) (log : List Logged) (entry : Entry) → counts_of disk (log ++ Entered entry ∷ []) ≡ counts_of disk log
counts_of-entered disk log entry = counts_of-append disk log (Entered entry ∷ []) ∙ append-nil (counts_of disk log)

pub rises-later : (before now now' : ℕ) (counts : List ℕ) → now ≤ now' → Rises before now counts → Rises before now' counts
rises-later before now now' [] le h = omega arith
rises-later before now now' (c ∷ counts) le h = (h.0, rises-later c now now' counts le h.1)

-- one more count, above all so far
pub rises-more : (before now count now' : ℕ) (counts : List ℕ) → Rises before now counts → now < count → count ≤ now' → Rises before now' (counts ++ count ∷ [])
rises-more before now count now' [] h lt le = (omega arith, le)
rises-more before now count now' (c ∷ counts) h lt le = (h.0, rises-more c now count now' counts h.1 lt le)

-- WHAT IS KEPT

first_of-assoc : (a b c : Option (List ℕ)) → first_of (first_of a b) c ≡ first_of a (first_of b c)
first_of-assoc (Some a) b c = refl
first_of-assoc None b c = refl

pub kept_in-append : (page : ℕ) (xs ys : List Logged) → kept_in page (xs ++ ys) ≡ first_of (kept_in page xs) (kept_in page ys)
kept_in-append page [] ys = refl
kept_in-append page (Entered entry ∷ xs) ys = ap (first_of (kept_by page entry)) (kept_in-append page xs ys) ∙ sym (first_of-assoc (kept_by page entry) (kept_in page xs) (kept_in page ys))
kept_in-append page (Noted note ∷ xs) ys = kept_in-append page xs ys

pub kept_in-noted : (page : ℕ) (log : List Logged) (note : Note) → kept_in page (log ++ Noted note ∷ []) ≡ kept_in page log
kept_in-noted page log note = kept_in-append page log (Noted note ∷ []) ∙ last (kept_in page log)
  where
    last : (a : Option (List ℕ)) → first_of a None ≡ a
    last (Some a) = refl
    last None = refl

some-is : {A : Type 0} (a b : A) → Some a ≡ Some b → a ≡ b
some-is a b e = cc

-- what is kept with one entry more was kept before, or is what the entry brought of a page that was not granted before
pub kept-entered : (page : ℕ) (log : List Logged) (entry : Entry) (bytes : List ℕ) (P : Type 0) → kept_in page (log ++ Entered entry ∷ []) ≡ Some bytes
    → (kept_in page log ≡ Some bytes → P) → (kept_in page log ≡ None → is_grant_of page entry.event ≡ true → entry.bytes ≡ bytes → P) → P
kept-entered page log entry bytes P is old new = by (kept_in page log) refl
  where
    by-grant : (b : Bool) → b ≡ is_grant_of page entry.event → first_of (first_of None (cond b (Some entry.bytes) None)) None ≡ Some bytes → (is_grant_of page entry.event ≡ true → entry.bytes ≡ bytes → P) → P
    by-grant true e h go = go (sym e) (some-is entry.bytes bytes h)
    by-grant false e h go = absurd cc

    both : (a : Option (List ℕ)) → first_of a (first_of (kept_by page entry) None) ≡ first_of (first_of a (kept_by page entry)) None
    both (Some a) = refl
    both None = refl

    by : (a : Option (List ℕ)) → kept_in page log ≡ a → P
    by (Some a) e = old (let h : first_of (kept_in page log) (first_of (kept_by page entry) None) ≡ Some bytes = sym (kept_in-append page log (Entered entry ∷ [])) ∙ is in
        let g : Some a ≡ Some bytes = sym (ap (λ (o : Option (List ℕ)). first_of o (first_of (kept_by page entry) None)) e) ∙ h in e ∙ g)
    by None e = by-grant (is_grant_of page entry.event) refl
        (sym (both None) ∙ sym (ap (λ (o : Option (List ℕ)). first_of o (first_of (kept_by page entry) None)) e) ∙ sym (kept_in-append page log (Entered entry ∷ [])) ∙ is)
        (λ grant bytes_are. new e grant bytes_are)

kept-cond : (b : Bool) (bytes : List ℕ) (rest : Option (List ℕ)) (g : Bool) → (g ≡ true → (rest ≡ None) → ⊥) → (b || g) ≡ true → first_of (cond b (Some bytes) None) rest ≡ None → ⊥
kept-cond true bytes rest g ih h e = absurd cc
kept-cond false bytes rest g ih h e = ih h e

-- a page that was granted is kept
pub granted-kept : (page : ℕ) (log : List Logged) → is_granted_in page (trail_of log) ≡ true → kept_in page log ≡ None → ⊥
granted-kept page [] h e = absurd cc
granted-kept page (Entered entry ∷ log) h e = kept-cond (is_grant_of page entry.event) entry.bytes (kept_in page log) (is_granted_in page (trail_of log)) (granted-kept page log) h e
granted-kept page (Noted note ∷ log) h e = granted-kept page log h e

pub not-kept : (page : ℕ) (log : List Logged) → kept_in page log ≡ None → is_granted_in page (trail_of log) ≡ false
not-kept page log e = by (is_granted_in page (trail_of log)) refl
  where
    by : (b : Bool) → is_granted_in page (trail_of log) ≡ b → is_granted_in page (trail_of log) ≡ false
    by true g = absurd (granted-kept page log g e)
    by false g = g

-- THE LAST SYNC

pub last_from-entered : (trail : List Event) (event : Event) → last_from (trail ++ event ∷ []) ≡ from_after (last_from trail) event
last_from-entered trail event = fold-append from_after None trail (event ∷ [])

-- THE NUMBERS

mine-entered : (history : List Event) (event : Event) (c : ℕ) → mine (history ++ event ∷ []) c ≡ mine history c ++ cond (is_by c (caller_of event)) (event ∷ []) []
mine-entered history event c = filter-append (λ (e : Event). is_by c (caller_of e)) history (event ∷ [])

is_by-true : (c : ℕ) (o : Option ℕ) → is_by c o ≡ true → o ≡ Some c
is_by-true c None e = absurd cc
is_by-true c (Some d) e = ap Some (grind (arith, nat_tests))

counted-more : (first : ℕ) (events : List Event) (event : Event) → IsCounted first events → number_of event ≡ first + length events → IsCounted first (events ++ event ∷ [])
counted-more first [] event h is = (is ∙ omega arith, tt)
counted-more first (e ∷ events) event h is = (h.0, counted-more (suc first) events event h.1 (is ∙ omega arith))

counted-cond : (b : Bool) (events : List Event) (event : Event) → IsCounted 0 events → (b ≡ true → number_of event ≡ length events) → IsCounted 0 (events ++ cond b (event ∷ []) [])
counted-cond true events event h is = counted-more 0 events event h (is refl ∙ omega arith)
counted-cond false events event h is = subst (IsCounted 0) (sym (append-nil events)) h

-- an event that has its caller's next number
pub numbered-entered : (history : List Event) (event : Event) → IsNumbered history → ((c : ℕ) → caller_of event ≡ Some c → number_of event ≡ length (mine history c)) → IsNumbered (history ++ event ∷ [])
numbered-entered history event h next = λ c.
    subst (IsCounted 0) (sym (mine-entered history event c)) (counted-cond (is_by c (caller_of event)) (mine history c) event (h c) (λ by. next c (is_by-true c (caller_of event) by)))

-- AT A PLACE

pub at-end : {A : Type 0} (xs : List A) (x y : A) (k : ℕ) → k < length xs → slice_get (xs ++ x ∷ []) k ≡ Some y → slice_get xs k ≡ Some y
at-end [] x y k lt e = absurd (omega arith)
at-end (z ∷ xs) x y zero lt e = e
at-end (z ∷ xs) x y (suc k) lt e = at-end xs x y k (omega arith) e

pub at-last : {A : Type 0} (xs : List A) (x y : A) (k : ℕ) → (k < length xs → ⊥) → slice_get (xs ++ x ∷ []) k ≡ Some y → (k ≡ length xs) × (x ≡ y)
at-last [] x y zero nlt e = (refl, some-is x y e)
at-last [] x y (suc k) nlt e = absurd cc
at-last (z ∷ xs) x y zero nlt e = absurd (nlt (omega arith))
at-last (z ∷ xs) x y (suc k) nlt e =
    let r = at-last xs x y k (λ lt. nlt (omega arith)) e in
    (ap suc r.0, r.1)

pub before-end : {A : Type 0} (xs : List A) (x y : A) (k : ℕ) → slice_get xs k ≡ Some y → slice_get (xs ++ x ∷ []) k ≡ Some y
before-end [] x y k e = absurd cc
before-end (z ∷ xs) x y zero e = e
before-end (z ∷ xs) x y (suc k) e = before-end xs x y k e

pub last-there : {A : Type 0} (xs : List A) (x : A) → slice_get (xs ++ x ∷ []) (length xs) ≡ Some x
last-there [] x = refl
last-there (z ∷ xs) x = last-there xs x
