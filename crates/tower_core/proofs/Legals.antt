-- A legal trail is a run of allowed events, and grows by one legal event at a time.
use Rattle.std.proofs.Common.{◌≡◌, ◌≢◌, ℕ, zero, suc, ◌<◌, ◌≤◌, sym, ◌∙◌, subst, refl, arith, List, [], ◌∷◌, ◌++◌, length, take, get_or, append-nil, append_assoc}
use Rattle.std.specs.List.{fold}
use Rattle.std.proofs.lemmas.List.Sums.{fold-append}
use Rattle.hist_plain.specs.declared.event.Event.{Event}
use Rattle.tower_core.specs.declared.right.Right.{Right}
use Rattle.tower_core.specs.TreeShape.{TreeShape, parent}
use Rattle.tower_core.specs.Column.{Column, IsCoherent, strength}
use Rattle.tower_core.specs.Trail.{State, state_after, state_of, start, IsAllowed, IsRun}
use Rattle.tower_core.specs.Legal.{IsLegal, IsLegalNext, IsLegalAfter}

-- one more event is one more step of the fold
pub state_of-snoc : (shape : TreeShape) (trail : List Event) (event : Event) → state_of shape (trail ++ event ∷ []) ≡ state_after shape (state_of shape trail) event
state_of-snoc shape trail event = fold-append (state_after shape) start trail (event ∷ [])

legal_run_after : (shape : TreeShape) (size pages : ℕ) (bytes : List ℕ) (before events : List Event) → IsLegalAfter shape size pages bytes before events → IsRun shape pages (state_of shape before) events
legal_run_after shape size pages bytes before [] legal = tt
legal_run_after shape size pages bytes before (event ∷ events) legal =
    (legal.0.allowed, subst (λ s. IsRun shape pages s events) (state_of-snoc shape before event) (legal_run_after shape size pages bytes (before ++ event ∷ []) events legal.1))

-- a legal trail is a run of allowed events
pub legal_run : (shape : TreeShape) (size pages : ℕ) (bytes : List ℕ) (trail : List Event) → IsLegal shape size pages bytes trail → IsRun shape pages start trail
legal_run shape size pages bytes trail legal = legal_run_after shape size pages bytes [] trail legal

legal_after_snoc : (shape : TreeShape) (size pages : ℕ) (bytes : List ℕ) (before events : List Event) (event : Event) → IsLegalAfter shape size pages bytes before events → IsLegalNext shape size pages bytes (before ++ events) event → IsLegalAfter shape size pages bytes before (events ++ event ∷ [])
legal_after_snoc shape size pages bytes before [] event legal next = (subst (λ xs. IsLegalNext shape size pages bytes xs event) (append-nil before) next, tt)
legal_after_snoc shape size pages bytes before (first ∷ events) event legal next =
    (legal.0, legal_after_snoc shape size pages bytes (before ++ first ∷ []) events event legal.1 (subst (λ xs. IsLegalNext shape size pages bytes xs event) (sym (append_assoc before (first ∷ []) events)) next))

-- a legal trail goes on by a legal event
pub legal_snoc : (shape : TreeShape) (size pages : ℕ) (bytes : List ℕ) (trail : List Event) (event : Event) → IsLegal shape size pages bytes trail → IsLegalNext shape size pages bytes trail event → IsLegal shape size pages bytes (trail ++ event ∷ [])
legal_snoc shape size pages bytes trail event legal next = legal_after_snoc shape size pages bytes [] trail event legal next

-- a run goes on by an event that is allowed at its end
pub run_snoc : (shape : TreeShape) (pages : ℕ) (s : State) (trail : List Event) (event : Event) → IsRun shape pages s trail → IsAllowed shape pages (fold (state_after shape) s trail) event → IsRun shape pages s (trail ++ event ∷ [])
run_snoc shape pages s [] event run ok = (ok, tt)
run_snoc shape pages s (first ∷ trail) event run ok = (run.0, run_snoc shape pages (state_after shape s first) trail event run.1 ok)

-- a column that starts with Read at every node but the ground is coherent too
abbrev pub right_all_read : ℕ → Right
right_all_read zero = Right.Write
right_all_read (suc node) = Right.Read

abbrev pub column_all_read : Column
column_all_read = record { right = right_all_read; at = λ node. 0; newest = 0 }

above_reads : (node : ℕ) → 0 < node → right_all_read node ≡ Right.Read
above_reads zero h = absurd (omega arith)
above_reads (suc node) h = refl

all_have_one : (node : ℕ) → 1 ≤ strength (right_all_read node)
all_have_one zero = omega arith
all_have_one (suc node) = omega arith

pub all_read_coherent : (shape : TreeShape) (len : ℕ) → IsCoherent shape len column_all_read
all_read_coherent shape len = record {
  capped = λ node un. rw (above_reads node un.above) (all_have_one (parent shape node));
  alone = λ node un w. absurd (two (sym (above_reads node un.above) ∙ w));
  reading = λ node un r. refl;
  writing = λ node un r. omega arith;
  current = λ node inside r none. omega arith;
  placed = λ node inside. omega arith;
}
  where
    two : Right.Read ≢ Right.Write
    two e = cc

-- each event of a run is allowed after those before it
pub run_at : (shape : TreeShape) (pages : ℕ) (s : State) (trail : List Event) (i : ℕ) (d : Event) → i < length trail → IsRun shape pages s trail → IsAllowed shape pages (fold (state_after shape) s (take i trail)) (get_or trail i d)
run_at shape pages s [] i d inside run = absurd (omega arith)
run_at shape pages s (event ∷ events) zero d inside run = run.0
run_at shape pages s (event ∷ events) (suc i) d inside run = run_at shape pages (state_after shape s event) events i d (omega arith) run.1

-- what is seen in place of the state after the trail so far
pub allowed_seen : (shape : TreeShape) (p q : ℕ) (s t : State) (event : Event) → p ≡ q → s ≡ t → IsAllowed shape p s event → IsAllowed shape q t event
allowed_seen shape p q s t event e f ok = subst (λ r. IsAllowed shape r t event) e (subst (λ u. IsAllowed shape p u event) f ok)
