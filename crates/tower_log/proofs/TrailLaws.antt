-- The counters of a trail that is kept, against its log.
use Rattle.std.proofs.Common.{◌≡◌, ℕ, suc, ◌+◌, ◌^◌, ◌<◌, ◌≤◌, Bool, true, false, cond, List, [], ◌∷◌, ◌++◌, length, refl, sym, ap, ◌∙◌, arith}
use Rattle.hist_plain.specs.declared.event.Event.{Event}
use Rattle.hist_plain.specs.Event.{caller_of}
use Rattle.hist_plain.specs.History.{mine, is_by}
use Rattle.tower_log.specs.declared.logged.Entry.{Entry}
use Rattle.tower_log.specs.declared.logged.Note.{Note}
use Rattle.tower_log.specs.declared.counters.Counter.{Counter}
use Rattle.tower_log.specs.declared.logged.Logged.{Logged}
use Rattle.tower_log.specs.declared.logged.Logged.TheVariants.{Entered, Noted}
use Rattle.tower_log.specs.Counters.{count_of}
use Rattle.tower_log.specs.Log.{trail_of, place_of}
use Rattle.tower_log.proofs.LogLaws.{trail_of-entered, trail_of-noted}

mine-one : (b : Bool) (event : Event) → length (cond b (event ∷ []) []) ≡ 0 + cond b 1 0
mine-one true event = refl
mine-one false event = refl

mine-step : (b : Bool) (first event : Event) (xs ys : List Event) (n : ℕ) → length xs ≡ length ys + n → length (cond b (first ∷ xs) xs) ≡ length (cond b (first ∷ ys) ys) + n
mine-step true first event xs ys n e = omega arith
mine-step false first event xs ys n e = e

-- a caller's events, with one more after them
pub mine-more : (trail : List Event) (event : Event) (c : ℕ) → length (mine (trail ++ event ∷ []) c) ≡ length (mine trail c) + cond (is_by c (caller_of event)) 1 0
mine-more [] event c = mine-one (is_by c (caller_of event)) event
mine-more (first ∷ trail) event c = mine-step (is_by c (caller_of first)) first event (mine (trail ++ event ∷ []) c) (mine trail c) _ (mine-more trail event c)

mine-le-step : (b : Bool) (first : Event) (xs ys : List Event) → length xs ≤ length ys → length (cond b (first ∷ xs) xs) ≤ suc (length ys)
mine-le-step true first xs ys le = omega arith
mine-le-step false first xs ys le = omega arith

-- a caller has at most all events
pub length-mine-le : (trail : List Event) (c : ℕ) → length (mine trail c) ≤ length trail
length-mine-le [] c = omega arith
length-mine-le (first ∷ trail) c = mine-le-step (is_by c (caller_of first)) first (mine trail c) trail (length-mine-le trail c)

-- the counters after an entry
pub counts-entered : (log log' : List Logged) (entry : Entry) (list list' : List Counter) → log' ≡ log ++ Entered entry ∷ [] → ((c : ℕ) → count_of list c ≡ length (mine (trail_of log) c))
    → ((c : ℕ) → count_of list' c ≡ count_of list c + cond (is_by c (caller_of entry.event)) 1 0) → (c : ℕ) → count_of list' c ≡ length (mine (trail_of log') c)
counts-entered log log' entry list list' more counts counted c =
    counted c ∙ (ap (λ n. n + cond (is_by c (caller_of entry.event)) 1 0) (counts c) ∙ (sym (mine-more (trail_of log) entry.event c)
    ∙ ap (λ (trail : List Event). length (mine trail c)) (sym (ap trail_of more ∙ trail_of-entered log entry))))

-- and after a note
pub counts-noted : (log log' : List Logged) (note : Note) (list : List Counter) → log' ≡ log ++ Noted note ∷ [] → ((c : ℕ) → count_of list c ≡ length (mine (trail_of log) c))
    → (c : ℕ) → count_of list c ≡ length (mine (trail_of log') c)
counts-noted log log' note list more counts c =
    counts c ∙ ap (λ (trail : List Event). length (mine trail c)) (sym (ap trail_of more ∙ trail_of-noted log note))

-- a caller's count has room for one more
pub count-fits : (log : List Logged) (list : List Counter) (c : ℕ) → ((d : ℕ) → count_of list d ≡ length (mine (trail_of log) d)) → place_of log < 4194304 → count_of list c + 1 < 2 ^ 32
count-fits log list c counts few =
    let le = length-mine-le (trail_of log) c in
    let is = counts c in
    omega arith
