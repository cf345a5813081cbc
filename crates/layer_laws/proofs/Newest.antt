-- A copy that is not before the newest write shows the page as it is.
use Rattle.std.proofs.Common.{◌≡◌, ℕ, ◌+◌, ◌*◌, ◌<◌, ◌≤◌, ◌==◌, ◌⊎◌, inl, inr, Bool, true, false, cond, List, [], ◌∷◌, ◌++◌, length, take, drop, replicate, get_or, refl, sym, ap, subst, ◌∙◌, arith, append_assoc, append-nil, length-append}
use Rattle.std.specs.List.{fold}
use Rattle.std.proofs.lemmas.List.Sums.{fold-append}
use Rattle.std.proofs.lemmas.Bool.Decides.{eqb_tells}
use Rattle.std.proofs.lemmas.List.{length-take, length-replicate, take-append-drop, take-append-le}
use Rattle.hist_plain.specs.declared.event.Op.{Op}
use Rattle.hist_plain.specs.declared.event.Op.TheVariants as ops
use Rattle.hist_plain.specs.declared.event.Event.{Event}
use Rattle.hist_plain.specs.File.{File}
use Rattle.hist_plain.specs.Plain.{place_of, overwritten, bytes_after, applied, fresh, IsInFile}
use Rattle.hist_plain.specs.History.{page_in, replay}
use Rattle.hist_plain.proofs.Places.{in_file_write, in_file_clear}
use Rattle.hist_plain.proofs.Replay.{replay-append, length-replay}
use Rattle.tower_core.specs.TreeShape.{TreeShape}
use Rattle.tower_core.specs.declared.step.Step.{Step}
use Rattle.tower_core.specs.declared.step.Step.TheVariants.{Untouched, Writes}
use Rattle.tower_core.specs.Column.{newest_after}
use Rattle.tower_core.specs.Trail.{State, state_of, state_after, start, newest_of, of_page, step_of_access, step_of}
use Rattle.tower_core.specs.Legal.{plain_shape, file_after, IsLegal, IsLegalAfter, IsLegalNext}
use Rattle.tower_core.proofs.Legals.{legal_snoc, state_of-snoc}
use Rattle.tower_core.proofs.Lives.{lives_agree, legal_suits}
use Rattle.tower_core.proofs.Trails.{trail_len}
use Rattle.layer_laws.specs.PlacesShown.{page_shown}
use Rattle.layer_laws.proofs.Ranges.{page_in-other, within_page}

-- events that come later leave what the earlier places show
pub shown-earlier : (shape : TreeShape) (size : ℕ) (bytes : List ℕ) (before events : List Event) (page place : ℕ) → place ≤ length before
    → page_shown shape size bytes (before ++ events) page place ≡ page_shown shape size bytes before page place
shown-earlier shape size bytes before events page place le =
    ap (λ (t : List Event). page_in size (replay (plain_shape shape size) (fresh shape.parents bytes) t).bytes page) (take-append-le place before events le)

-- a write that counts and is of the page makes it newer than the length
write-leaves : (b : Bool) (size page p off node len newest : ℕ) (bytes new : List ℕ) → place_of size p off + length new ≤ length bytes → off + length new ≤ size
    → newest_after len newest (cond b (of_page page p (Writes node)) Untouched) ≤ len → page_in size (cond b (overwritten bytes (place_of size p off) new) bytes) page ≡ page_in size bytes page
write-leaves false size page p off node len newest bytes new le fits old = refl
write-leaves true size page p off node len newest bytes new le fits old = elim (eqb_tells p page) [
  | inl same ↦
      let late : newest_after len newest (cond true (Writes node) Untouched) ≤ len = subst (λ b. newest_after len newest (cond b (Writes node) Untouched) ≤ len) same.0 old in
      absurd (omega arith)
  | inr other ↦ page_in-other size page p off bytes new other.1 fits le
]

cond-same : {A : Type 0} (b : Bool) (x : A) → cond b x x ≡ x
cond-same true x = refl
cond-same false x = refl

access-leaves : (size now life : ℕ) (op : Op) (bytes : List ℕ) (page node len newest : ℕ) → IsInFile size bytes op
    → newest_after len newest (cond (life == now) (step_of_access page node op) Untouched) ≤ len → page_in size (bytes_after size now life op bytes) page ≡ page_in size bytes page
access-leaves size now life (ops.Read p off n) bytes page node len newest inside old = ap (λ (xs : List ℕ). page_in size xs page) (cond-same (life == now) bytes)
access-leaves size now life (ops.Write p off new) bytes page node len newest inside old =
    write-leaves (life == now) size page p off node len newest bytes new (in_file_write size p off new bytes inside) (within_page size inside.0 p off (length new) inside.2) old
access-leaves size now life (ops.Clear p) bytes page node len newest inside old =
    let zeros : length {A = ℕ} (replicate size 0) ≡ size = length-replicate size 0 in
    let fits : place_of size p 0 + size ≤ length bytes = in_file_clear size p bytes inside in
    write-leaves (life == now) size page p 0 node len newest bytes (replicate size 0) (omega arith) (omega arith) old
access-leaves size now life ops.Open bytes page node len newest inside old = refl

-- events that do not write a page

pub length-file_after : (shape : TreeShape) (size pages : ℕ) (bytes : List ℕ) (trail : List Event) → length bytes ≡ pages * size → IsLegal shape size pages bytes trail → length (file_after shape size bytes trail).bytes ≡ pages * size
length-file_after shape size pages bytes trail long legal = length-replay (plain_shape shape size) (fresh shape.parents bytes) trail (legal_suits shape size pages bytes trail long legal) ∙ long

newest_of-snoc : (shape : TreeShape) (before : List Event) (event : Event) (page : ℕ)
    → newest_of shape (before ++ event ∷ []) page ≡ newest_after (length before) (newest_of shape before page) (step_of (state_of shape before).life page event)
newest_of-snoc shape before event page =
    ap (λ (s : State). (s.column page).newest) (state_of-snoc shape before event) ∙ ap (λ n. newest_after n (newest_of shape before page) (step_of (state_of shape before).life page event)) (trail_len shape before)

event-leaves : (shape : TreeShape) (size pages : ℕ) (bytes : List ℕ) (before : List Event) (event : Event) (page : ℕ) → length (file_after shape size bytes before).bytes ≡ pages * size
    → IsLegalNext shape size pages bytes before event → newest_after (length before) (newest_of shape before page) (step_of (state_of shape before).life page event) ≤ length before
    → page_in size (applied (plain_shape shape size) (file_after shape size bytes before) event).bytes page ≡ page_in size (file_after shape size bytes before).bytes page
event-leaves shape size pages bytes before (Event.Access caller number node life op) page long next old =
    let lives : get_or (file_after shape size bytes before).lives node 0 ≡ (state_of shape before).life node = lives_agree shape size bytes before node next.allowed.upper.inside in
    access-leaves size (get_or (file_after shape size bytes before).lives node 0) life op (file_after shape size bytes before).bytes page node (length before) (newest_of shape before page) (pages, long, next.fits)
    (subst (λ n. newest_after (length before) (newest_of shape before page) (cond (life == n) (step_of_access page node op) Untouched) ≤ length before) (sym lives) old)
event-leaves shape size pages bytes before _ page long next old = refl

-- a place that was newest stays so, or a later one is
newest_after-ge : (len newest k : ℕ) (step : Step) → k ≤ newest → k ≤ len → k ≤ newest_after len newest step
newest_after-ge len newest k (Writes node) le before = omega arith
newest_after-ge len newest k _ le before = le

newest-ge : (shape : TreeShape) (s : State) (events : List Event) (page k : ℕ) → k ≤ (s.column page).newest → k ≤ s.len → k ≤ ((fold (state_after shape) s events).column page).newest
newest-ge shape s [] page k le before = le
newest-ge shape s (event ∷ events) page k le before =
    newest-ge shape (state_after shape s event) events page k (newest_after-ge s.len (s.column page).newest k (step_of s.life page event) le before) (omega arith)

newest_after-le : (len newest : ℕ) (step : Step) → newest ≤ len → newest_after len newest step ≤ len + 1
newest_after-le len newest (Writes node) le = omega arith
newest_after-le len newest _ le = omega arith

newest-le : (shape : TreeShape) (s : State) (events : List Event) (page : ℕ) → (s.column page).newest ≤ s.len → ((fold (state_after shape) s events).column page).newest ≤ (fold (state_after shape) s events).len
newest-le shape s [] page le = le
newest-le shape s (event ∷ events) page le = newest-le shape (state_after shape s event) events page (newest_after-le s.len (s.column page).newest (step_of s.life page event) le)

-- no write is yet to come
newest_of-le : (shape : TreeShape) (trail : List Event) (page : ℕ) → newest_of shape trail page ≤ length trail
newest_of-le shape trail page = subst (λ n. newest_of shape trail page ≤ n) (trail_len shape trail) (newest-le shape start trail page (omega arith))

-- after a first part of a trail the page was written by its end, or it is written later
newest-first : (shape : TreeShape) (first rest : List Event) (page k : ℕ) → newest_of shape (first ++ rest) page ≤ k → k ≤ length first → newest_of shape first page ≤ k
newest-first shape first rest page k le within = elim (either k (newest_of shape first page)) [
  | inl ok ↦ ok
  | inr late ↦
      let upto : newest_of shape first page ≤ length first = newest_of-le shape first page in
      let len : (state_of shape first).len ≡ length first = trail_len shape first in
      let more : newest_of shape first page ≤ ((fold (state_after shape) (state_of shape first) rest).column page).newest = newest-ge shape (state_of shape first) rest page (newest_of shape first page) (omega arith) (omega arith) in
      let same : ((fold (state_after shape) (state_of shape first) rest).column page).newest ≡ newest_of shape (first ++ rest) page = ap (λ (s : State). (s.column page).newest) (sym (fold-append (state_after shape) start first rest)) in
      absurd (omega arith)
]
  where
    either : (a b : ℕ) → (b ≤ a) ⊎ (a < b)
    either a b = grind arith

page_in-after : (shape : TreeShape) (size pages : ℕ) (bytes : List ℕ) (before events : List Event) (page : ℕ) → length bytes ≡ pages * size
    → IsLegal shape size pages bytes before → IsLegalAfter shape size pages bytes before events → newest_of shape (before ++ events) page ≤ length before
    → page_in size (file_after shape size bytes (before ++ events)).bytes page ≡ page_in size (file_after shape size bytes before).bytes page
page_in-after shape size pages bytes before [] page long legal after old = ap (λ (es : List Event). page_in size (file_after shape size bytes es).bytes page) (append-nil before)
page_in-after shape size pages bytes before (event ∷ events) page long legal after old =
    let next : List Event = before ++ event ∷ [] in
    let parts : next ++ events ≡ before ++ (event ∷ events) = append_assoc before (event ∷ []) events in
    let len : length next ≡ length before + 1 = length-append before (event ∷ []) in
    let old' : newest_of shape (next ++ events) page ≤ length before = subst (λ (es : List Event). newest_of shape es page ≤ length before) (sym parts) old in
    let here : newest_of shape next page ≤ length before = newest-first shape next events page (length before) old' (omega arith) in
    let rest : page_in size (file_after shape size bytes (next ++ events)).bytes page ≡ page_in size (file_after shape size bytes next).bytes page =
    page_in-after shape size pages bytes next events page long (legal_snoc shape size pages bytes before event legal after.0) after.1 (omega arith) in
    let file : file_after shape size bytes next ≡ applied (plain_shape shape size) (file_after shape size bytes before) event = replay-append (plain_shape shape size) (fresh shape.parents bytes) before (event ∷ []) in
    ap (λ (es : List Event). page_in size (file_after shape size bytes es).bytes page) (sym parts)
    ∙ (rest ∙ (ap (λ (f : File). page_in size f.bytes page) file
    ∙ event-leaves shape size pages bytes before event page (length-file_after shape size pages bytes before long legal) after.0 (subst (λ n. n ≤ length before) (newest_of-snoc shape before event page) here)))

-- a legal trail in two parts
legal-split : (shape : TreeShape) (size pages : ℕ) (bytes : List ℕ) (before xs ys : List Event) → IsLegalAfter shape size pages bytes before (xs ++ ys)
    → IsLegalAfter shape size pages bytes before xs × IsLegalAfter shape size pages bytes (before ++ xs) ys
legal-split shape size pages bytes before [] ys legal = (tt, subst (λ (es : List Event). IsLegalAfter shape size pages bytes es ys) (sym (append-nil before)) legal)
legal-split shape size pages bytes before (x ∷ xs) ys legal =
    let rest = legal-split shape size pages bytes (before ++ x ∷ []) xs ys legal.1 in
    ((legal.0, rest.0), subst (λ (es : List Event). IsLegalAfter shape size pages bytes es ys) (append_assoc before (x ∷ []) xs) rest.1)

-- a copy that is not before the newest write shows the page as it is
pub page_at-newest : (shape : TreeShape) (size pages : ℕ) (bytes : List ℕ) (trail : List Event) (page at : ℕ) → length bytes ≡ pages * size → IsLegal shape size pages bytes trail
    → newest_of shape trail page ≤ at → at ≤ length trail → page_shown shape size bytes trail page at ≡ page_in size (file_after shape size bytes trail).bytes page
page_at-newest shape size pages bytes trail page at long legal new within =
    let whole : take at trail ++ drop at trail ≡ trail = take-append-drop at trail in
    let parts = legal-split shape size pages bytes [] (take at trail) (drop at trail) (subst (λ (es : List Event). IsLegal shape size pages bytes es) (sym whole) legal) in
    let len : length (take at trail) ≡ at = omega (arith, length-take at trail) in
    let old : newest_of shape (take at trail ++ drop at trail) page ≤ length (take at trail) = subst (λ (es : List Event). newest_of shape es page ≤ length (take at trail)) (sym whole) (omega arith) in
    sym (page_in-after shape size pages bytes (take at trail) (drop at trail) page long parts.0 parts.1 old) ∙ ap (λ (es : List Event). page_in size (file_after shape size bytes es).bytes page) whole
