-- What a run reads from the ground: a page by its first grant, and again only if it was taken from node 1 before.
use Rattle.std.specs.Prelude.{◌==◌, ◌&&◌, slice_get}
use Rattle.std.proofs.Common.{◌≡◌, ◌≢◌, ◌⊎◌, ℕ, zero, suc, ◌*◌, ◌<◌, ◌≤◌, ◌||◌, inl, inr, Bool, true, false, cond, List, [], ◌∷◌, ◌++◌, length, take, Option, Some, None, refl, sym, ap, subst, ◌∙◌, arith, append_assoc, append-nil}
use Rattle.std.specs.List.{AllByRecursion}
use Rattle.std.proofs.lemmas.Bool.{eq-eqb}
use Rattle.std.proofs.lemmas.Bool.Decides.{eqb_tells}
use Rattle.hist_plain.specs.declared.event.Event.{Event}
use Rattle.hist_plain.specs.declared.event.Event.TheVariants as events
use Rattle.hist_plain.specs.declared.event.Op.{Op}
use Rattle.hist_plain.specs.History.{page_in}
use Rattle.tower_core.specs.declared.right.Right.{Right}
use Rattle.tower_core.specs.declared.step.Step.{Step}
use Rattle.tower_core.specs.declared.step.Step.TheVariants.{Untouched, Reads, Writes, Grants, PagesOut, Denies, Pushes, Flushes, Deletes}
use Rattle.tower_core.specs.TreeShape.{IsTree, IsUpper, TreeShape, frames_of, parent}
use Rattle.tower_core.specs.Column.{IsStepOf, MayStep, right_after, updated}
use Rattle.tower_core.specs.Trail.{IsAllowed, IsRun, State, at_of, of_page, right_of, start, state_after, state_of, step_of, step_of_access}
use Rattle.tower_core.specs.Legal.{FitsFile}
use Rattle.tower_core.proofs.Legals.{run_snoc, state_of-snoc}
use Rattle.tower_core.proofs.Trails.{on_each_page}
use Rattle.layer_laws.specs.Granted.{is_grant_of, is_granted_in}
use Rattle.layer_laws.proofs.Grants.{never_granted}
use Rattle.tower_log.specs.declared.logged.Entry.{Entry}
use Rattle.tower_log.specs.declared.logged.Logged.{Logged}
use Rattle.tower_log.specs.declared.logged.Logged.TheVariants.{Entered, Noted}
use Rattle.tower_log.specs.Log.{entries_of, first_of, kept_by, kept_in, trail_of}
use Rattle.page_exchange.specs.Steps.{ReadsGround}
use Rattle.tower_shows.specs.Began.{ground_shown}
use Rattle.tower_shows.specs.Reads.{IsRead}
use Rattle.tower_shows.proofs.Firsts.{granted_above, ground_or_upper}
use Rattle.stack_engine.specs.Answers.{FindsPagesOf, KeepsPagesOf}
use Rattle.spr_volume.specs.Reads.{AreTakenBefore, FindsAgain, IsReadAgain, StandsByFirst, is_taken_in, takes_from_first}
use Rattle.spr_volume.proofs.Unwritten.{unwritten}

-- WHICH STEPS take the page from node 1

abbrev Drops : Step → Type 0
Drops (PagesOut node) = node ≡ 1
Drops (Flushes node) = node ≡ 1
Drops (Deletes node) = node ≡ 1
Drops step = ⊥

of_page_none : (page p : ℕ) (step : Step) → (Drops step → ⊥) → Drops (of_page page p step) → ⊥
of_page_none page p step never drops = elim (eqb_tells p page) [
  | inl e ↦ never (rw e.0 at drops)
  | inr d ↦ (rw d.0 at drops)
]

access_none : (page node : ℕ) (op : Op) → Drops (step_of_access page node op) → ⊥
access_none page node (Op.Read p off len) drops = of_page_none page p (Reads node) (λ never. never) drops
access_none page node (Op.Write p off bytes) drops = of_page_none page p (Writes node) (λ never. never) drops
access_none page node (Op.Clear p) drops = of_page_none page p (Writes node) (λ never. never) drops
access_none page node Op.Open drops = drops

set_here : (right : ℕ → Right) (node : ℕ) (to : Right) → to ≢ Right.Nothing → right 1 ≢ Right.Nothing → updated right node to 1 ≢ Right.Nothing
set_here right node to some had = elim (eqb_tells 1 node) [ inl e ↦ rw e.0 some | inr d ↦ rw d.0 had ]

lost_there : (right : ℕ → Right) (node : ℕ) → (node ≡ 1 → ⊥) → right 1 ≢ Right.Nothing → updated right node Right.Nothing 1 ≢ Right.Nothing
lost_there right node other had = elim (eqb_tells 1 node) [ inl e ↦ absurd (other (sym e.1)) | inr d ↦ rw d.0 had ]

read_some : Right.Read ≢ Right.Nothing
read_some e = cc

write_some : Right.Write ≢ Right.Nothing
write_some e = cc

stays_held : (right : ℕ → Right) (step : Step) → right 1 ≢ Right.Nothing → (Drops step → ⊥) → right_after right step 1 ≢ Right.Nothing
stays_held right Untouched had never = had
stays_held right (Reads node) had never = had
stays_held right (Writes node) had never = had
stays_held right (Grants node true) had never = set_here right node Right.Write write_some had
stays_held right (Grants node false) had never = set_here right node Right.Read read_some had
stays_held right (PagesOut node) had never = lost_there right node never had
stays_held right (Denies node) had never = set_here right node Right.Read read_some had
stays_held right (Pushes node) had never = had
stays_held right (Flushes node) had never = lost_there right node never had
stays_held right (Deletes node) had never = lost_there right node never had

granted_held : (right : ℕ → Right) (write : Bool) → right_after right (Grants 1 write) 1 ≢ Right.Nothing
granted_held right true = write_some
granted_held right false = read_some

test_or : (b : Bool) → (b ≡ true) ⊎ (b ≡ false)
test_or true = inl refl
test_or false = inr refl

module _ (tree : TreeShape) (pages : ℕ) (is_tree : IsTree tree) (first : StandsByFirst tree) where
  -- an event that is allowed takes no page from node 1, but for one that says so
  both_true : (a b : Bool) → a ≡ true → b ≡ true → (a && b) ≡ true
  both_true true true e f = refl
  both_true true false e f = absurd cc
  both_true false b e f = absurd cc

  named_none : (page p node : ℕ) (step : Step) → (Drops step → node ≡ 1) → ((node == 1) && (p == page)) ≡ false → Drops (of_page page p step) → ⊥
  named_none page p node step own off drops = elim (eqb_tells p page) [
    | inl same ↦ (let one : node ≡ 1 = own (rw same.0 at drops) in let on : ((node == 1) && (p == page)) ≡ true = both_true (node == 1) (p == page) (eq-eqb node 1 one) (eq-eqb p page same.1) in let both : true ≡ false = sym on ∙ off in cc)
    | inr d ↦ (rw d.0 at drops)
  ]

  allowed_none : (s : State) (event : Event) → IsAllowed tree pages s event → (page : ℕ) → takes_from_first page event ≡ false → Drops (step_of s.life page event) → ⊥
  allowed_none s (events.Access caller number node l op) allowed page off drops = elim (eqb_tells l (s.life node)) [ inl e ↦ access_none page node op (rw e.0 at drops) | inr d ↦ (rw d.0 at drops) ]
  allowed_none s (events.PageIn node p write) allowed page off drops = of_page_none page p (Grants node write) (λ never. never) drops
  allowed_none s (events.ZeroFill node p write) allowed page off drops = of_page_none page p (Grants node write) (λ never. never) drops
  allowed_none s (events.PageOut node p) allowed page off drops = of_page_none page p (PagesOut node) (λ own. allowed.line.0 (ap (frames_of tree) own ∙ first.bare)) drops
  allowed_none s (events.WriteOut node p) allowed page off drops = of_page_none page p (Denies node) (λ never. never) drops
  allowed_none s (events.SyncOut node p) allowed page off drops = of_page_none page p (Pushes node) (λ never. never) drops
  allowed_none s (events.FlushBack node p) allowed page off drops = named_none page p node (Flushes node) (λ own. own) off drops
  allowed_none s (events.DenyWrites node p) allowed page off drops = of_page_none page p (Denies node) (λ never. never) drops
  allowed_none s (events.WriteBack node p) allowed page off drops = of_page_none page p (Pushes node) (λ never. never) drops
  allowed_none s (events.DeleteRange node p) allowed page off drops = named_none page p node (Deletes node) (λ own. own) off drops
  allowed_none s (events.DestroyCache caller number node) allowed page off drops = drops
  allowed_none s (events.DonePager caller number node) allowed page off drops = drops
  allowed_none s (events.Synced caller number node from keep) allowed page off drops = drops

  -- ALONG A RUN: node 1 has each page that was granted, unless it was taken from there

  abbrev Holds : List Event → Type 0
  Holds before = (page : ℕ) → is_granted_in page before ≡ true → is_taken_in page before ≡ false → right_of tree before 1 page ≢ Right.Nothing

  right-snoc : (before : List Event) (event : Event) (page : ℕ) → right_of tree (before ++ event ∷ []) 1 page ≡ right_after ((state_of tree before).column page).right (step_of (state_of tree before).life page event) 1
  right-snoc before event page = ap (λ (s : State). (s.column page).right 1) (state_of-snoc tree before event)

  -- a grant of a page that nobody has is to node 1
  to_first : (before : List Event) (page node : ℕ) (write : Bool) → IsRun tree pages start before → is_granted_in page before ≡ false → IsUpper tree node → MayStep tree ((state_of tree before).column page) (Grants node write) → node ≡ 1
  to_first before page node write run none upper may =
      let above : right_of tree before (parent tree node) page ≢ Right.Nothing = granted_above tree ((state_of tree before).column page) node write may in
      elim (ground_or_upper tree node is_tree upper) [
        | inl ground ↦ first.alone node upper ground
        | inr up ↦ absurd (above (never_granted tree pages before page (parent tree node) is_tree run none up))
      ]

  step_granted : (before : List Event) (page : ℕ) (step : Step) (node : ℕ) (write : Bool) → step ≡ Grants node write → IsRun tree pages start before → is_granted_in page before ≡ false → IsStepOf tree step → MayStep tree ((state_of tree before).column page) step
      → right_after ((state_of tree before).column page).right step 1 ≢ Right.Nothing
  step_granted before page step node write is run none of may =
      let own : node ≡ 1 = to_first before page node write run none (subst (IsStepOf tree) is of) (subst (MayStep tree ((state_of tree before).column page)) is may) in
      let one : step ≡ Grants 1 write = is ∙ ap (λ (n : ℕ). Grants n write) own in
      subst (λ (s : Step). right_after ((state_of tree before).column page).right s 1 ≢ Right.Nothing) (sym one) (granted_held ((state_of tree before).column page).right write)

  -- a grant of the page is that step
  record IsGrant (life : ℕ → ℕ) (page : ℕ) (event : Event) : Type 0 where
    node : ℕ
    write : Bool
    is : step_of life page event ≡ Grants node write

  same_page : (page p : ℕ) (step : Step) → (page == p) ≡ true → of_page page p step ≡ step
  same_page page p step e = elim (eqb_tells p page) [ inl same ↦ rw same.0 refl | inr d ↦ absurd (elim (eqb_tells page p) [ inl same ↦ d.1 (sym same.1) | inr d' ↦ (let both : false ≡ true = sym d'.0 ∙ e in cc) ]) ]

  grant_step : (life : ℕ → ℕ) (page : ℕ) (event : Event) → is_grant_of page event ≡ true → IsGrant life page event
  grant_step life page (events.PageIn node p write) e = record { node = node; write = write; is = same_page page p (Grants node write) e }
  grant_step life page (events.ZeroFill node p write) e = record { node = node; write = write; is = same_page page p (Grants node write) e }
  grant_step life page (events.Access caller number node l op) e = absurd cc
  grant_step life page (events.PageOut node p) e = absurd cc
  grant_step life page (events.WriteOut node p) e = absurd cc
  grant_step life page (events.SyncOut node p) e = absurd cc
  grant_step life page (events.FlushBack node p) e = absurd cc
  grant_step life page (events.DenyWrites node p) e = absurd cc
  grant_step life page (events.WriteBack node p) e = absurd cc
  grant_step life page (events.DeleteRange node p) e = absurd cc
  grant_step life page (events.DestroyCache caller number node) e = absurd cc
  grant_step life page (events.DonePager caller number node) e = absurd cc
  grant_step life page (events.Synced caller number node from keep) e = absurd cc

  granted-snoc : (page : ℕ) (before : List Event) (event : Event) → is_granted_in page (before ++ event ∷ []) ≡ true → (is_granted_in page before ≡ true) ⊎ (is_grant_of page event ≡ true)
  granted-snoc page [] event e = inr (or-last (is_grant_of page event) e)
    where
      or-last : (a : Bool) → (a || false) ≡ true → a ≡ true
      or-last true e = refl
      or-last false e = absurd cc
  granted-snoc page (other ∷ before) event e = by (is_grant_of page other) (is_granted_in page before) (is_granted_in page (before ++ event ∷ [])) e (granted-snoc page before event)
    where
      by : (a b c : Bool) → (a || c) ≡ true → (c ≡ true → (b ≡ true) ⊎ (is_grant_of page event ≡ true)) → ((a || b) ≡ true) ⊎ (is_grant_of page event ≡ true)
      by true b c e rest = inl refl
      by false b c e rest = rest e

  neither : (a b : Bool) → (a || b) ≡ false → (a ≡ false) × (b ≡ false)
  neither true b e = absurd cc
  neither false b e = (refl, e)

  taken-snoc : (page : ℕ) (before : List Event) (event : Event) → is_taken_in page (before ++ event ∷ []) ≡ false → (is_taken_in page before ≡ false) × (takes_from_first page event ≡ false)
  taken-snoc page [] event e = (refl, (neither (takes_from_first page event) false e).0)
  taken-snoc page (other ∷ before) event e =
      let parts = neither (takes_from_first page other) (is_taken_in page (before ++ event ∷ [])) e in
      let rest = taken-snoc page before event parts.1 in
      (rw parts.0 rest.0, rest.1)

  holds_next : (before : List Event) (event : Event) → IsRun tree pages start before → IsAllowed tree pages (state_of tree before) event → Holds before → Holds (before ++ event ∷ [])
  holds_next before event run allowed held page granted left =
      let off = taken-snoc page before event left in
      let may = on_each_page tree pages (state_of tree before) event is_tree allowed.upper allowed.line page in
      subst (λ (r : Right). r ≢ Right.Nothing) (sym (right-snoc before event page)) (elim (test_or (is_granted_in page before)) [
        | inl was ↦ stays_held ((state_of tree before).column page).right (step_of (state_of tree before).life page event) (held page was off.0) (allowed_none (state_of tree before) event allowed page off.1)
        | inr none ↦ (elim (granted-snoc page before event granted) [
          | inl was ↦ absurd (let both : true ≡ false = sym was ∙ none in cc)
          | inr grant ↦
              let g = grant_step (state_of tree before).life page event grant in
              step_granted before page (step_of (state_of tree before).life page event) g.node g.write g.is run none may.0 may.1
        ])
      ])

  -- WHAT IS READ AGAIN was taken from node 1

  reads_first : (right : ℕ → Right) (step : Step) → IsStepOf tree step → ReadsGround tree right step → right 1 ≡ Right.Nothing
  reads_first right (Grants node write) of read = subst (λ (n : ℕ). right n ≡ Right.Nothing) (first.alone node of read.0) read.1
  reads_first right Untouched of read = absurd read
  reads_first right (Reads node) of read = absurd read
  reads_first right (Writes node) of read = absurd read
  reads_first right (PagesOut node) of read = absurd read
  reads_first right (Denies node) of read = absurd read
  reads_first right (Pushes node) of read = absurd read
  reads_first right (Flushes node) of read = absurd read
  reads_first right (Deletes node) of read = absurd read

  taken_here : (before : List Event) (event : Event) (page : ℕ) → IsAllowed tree pages (state_of tree before) event → Holds before → IsRead tree before page event → is_granted_in page before ≡ true → is_taken_in page before ≡ true
  taken_here before event page allowed held read granted =
      let may = on_each_page tree pages (state_of tree before) event is_tree allowed.upper allowed.line page in
      elim (test_or (is_taken_in page before)) [
        | inl taken ↦ taken
        | inr left ↦ absurd (held page granted left (reads_first (λ node. right_of tree before node page) (step_of (state_of tree before).life page event) may.0 read))
      ]

  taken_at : (before : List Event) (log : List Logged) (place page : ℕ) (entry : Entry) → IsRun tree pages start before → Holds before → IsRun tree pages (state_of tree before) (trail_of log)
      → slice_get (entries_of log) place ≡ Some entry → IsRead tree (before ++ take place (trail_of log)) page entry.event → is_granted_in page (before ++ take place (trail_of log)) ≡ true → is_taken_in page (before ++ take place (trail_of log)) ≡ true
  taken_at before [] place page entry run held after is read granted = absurd cc
  taken_at before (Noted note ∷ log) place page entry run held after is read granted = taken_at before log place page entry run held after is read granted
  taken_at before (Entered one ∷ log) zero page entry run held after is read granted =
      let same : one ≡ entry = (let both : Some one ≡ Some entry = is in cc) in
      let here : (before ++ []) ≡ before = append-nil before in
      subst (λ (es : List Event). is_taken_in page es ≡ true) (sym here)
      (taken_here before entry.event page (subst (λ (e : Entry). IsAllowed tree pages (state_of tree before) e.event) same after.0) held (subst (λ (es : List Event). IsRead tree es page entry.event) here read)
      (subst (λ (es : List Event). is_granted_in page es ≡ true) here granted))
  taken_at before (Entered one ∷ log) (suc place) page entry run held after is read granted =
      let parts : (before ++ one.event ∷ []) ++ take place (trail_of log) ≡ before ++ (one.event ∷ take place (trail_of log)) = append_assoc before (one.event ∷ []) (take place (trail_of log)) in
      subst (λ (es : List Event). is_taken_in page es ≡ true) parts
      (taken_at (before ++ one.event ∷ []) log place page entry (run_snoc tree pages start before one.event run after.0) (holds_next before one.event run after.0 held)
      (subst (λ (s : State). IsRun tree pages s (trail_of log)) (sym (state_of-snoc tree before one.event)) after.1) is
      (subst (λ (es : List Event). IsRead tree es page entry.event) (sym parts) read) (subst (λ (es : List Event). is_granted_in page es ≡ true) (sym parts) granted))

pub taken_before : (tree : TreeShape) (pages : ℕ) (log : List Logged) → IsTree tree → StandsByFirst tree → IsRun tree pages start (trail_of log) → AreTakenBefore tree log
taken_before tree pages log is_tree first run place page entry r = taken_at tree pages is_tree first [] log place page entry tt (λ p granted left. absurd (let both : false ≡ true = granted in cc)) run r.stands r.read r.again

-- WHAT IS READ FIRST is as the file began with it

module _ (tree : TreeShape) (pages : ℕ) (is_tree : IsTree tree) where
  -- what is read is granted
  of_page_read : (right : ℕ → Right) (page p : ℕ) (step : Step) → ReadsGround tree right (of_page page p step) → ((page == p) ≡ true) × ReadsGround tree right step
  of_page_read right page p step read = elim (eqb_tells p page) [
    | inl e ↦ (eq-eqb page p (sym e.1), rw e.0 at read)
    | inr d ↦ absurd (rw d.0 at read)
  ]

  access_unread : (right : ℕ → Right) (page node : ℕ) (op : Op) → ReadsGround tree right (step_of_access page node op) → ⊥
  access_unread right page node (Op.Read p off len) read = (of_page_read right page p (Reads node) read).1
  access_unread right page node (Op.Write p off bytes) read = (of_page_read right page p (Writes node) read).1
  access_unread right page node (Op.Clear p) read = (of_page_read right page p (Writes node) read).1
  access_unread right page node Op.Open read = read

  read_grants : (right : ℕ → Right) (life : ℕ → ℕ) (page : ℕ) (event : Event) → ReadsGround tree right (step_of life page event) → is_grant_of page event ≡ true
  read_grants right life page (events.PageIn node p write) read = (of_page_read right page p (Grants node write) read).0
  read_grants right life page (events.ZeroFill node p write) read = (of_page_read right page p (Grants node write) read).0
  read_grants right life page (events.Access caller number node l op) read = absurd (elim (eqb_tells l (life node)) [ inl e ↦ access_unread right page node op (rw e.0 at read) | inr d ↦ (rw d.0 at read) ])
  read_grants right life page (events.PageOut node p) read = absurd (of_page_read right page p (PagesOut node) read).1
  read_grants right life page (events.WriteOut node p) read = absurd (of_page_read right page p (Denies node) read).1
  read_grants right life page (events.SyncOut node p) read = absurd (of_page_read right page p (Pushes node) read).1
  read_grants right life page (events.FlushBack node p) read = absurd (of_page_read right page p (Flushes node) read).1
  read_grants right life page (events.DenyWrites node p) read = absurd (of_page_read right page p (Denies node) read).1
  read_grants right life page (events.WriteBack node p) read = absurd (of_page_read right page p (Pushes node) read).1
  read_grants right life page (events.DeleteRange node p) read = absurd (of_page_read right page p (Deletes node) read).1
  read_grants right life page (events.DestroyCache caller number node) read = absurd read
  read_grants right life page (events.DonePager caller number node) read = absurd read
  read_grants right life page (events.Synced caller number node from keep) read = absurd read

  module _ (size : ℕ) (opening : List ℕ) (long : length opening ≡ pages * size) where
    -- a read of a page that was not granted yet is its first grant, and the page is as the file began with it
    record IsFirst (before : List Event) (page : ℕ) (event : Event) : Type 0 where
      grant : is_grant_of page event ≡ true
      shown : ground_shown tree size opening before page ≡ page_in size opening page

    is_first : (before : List Event) (event : Event) (page : ℕ) → IsRun tree pages start before → AllByRecursion (FitsFile size pages) before → IsRead tree before page event → is_granted_in page before ≡ false → IsFirst before page event
    is_first before event page run fits read none = record {
      grant = read_grants (λ node. right_of tree before node page) (state_of tree before).life page event read;
      shown = unwritten tree size pages opening page is_tree before (at_of tree before 0 page) run fits none long;
    }

    fits-snoc : (before : List Event) (event : Event) → AllByRecursion (FitsFile size pages) before → FitsFile size pages event → AllByRecursion (FitsFile size pages) (before ++ event ∷ [])
    fits-snoc [] event all here = (here, tt)
    fits-snoc (other ∷ before) event all here = (all.0, fits-snoc before event all.1 here)

    first_at : (before : List Event) (log : List Logged) (place page : ℕ) (entry : Entry) → IsRun tree pages start before → AllByRecursion (FitsFile size pages) before
        → IsRun tree pages (state_of tree before) (trail_of log) → AllByRecursion (FitsFile size pages) (trail_of log)
        → slice_get (entries_of log) place ≡ Some entry → IsRead tree (before ++ take place (trail_of log)) page entry.event → is_granted_in page (before ++ take place (trail_of log)) ≡ false → IsFirst (before ++ take place (trail_of log)) page entry.event
    first_at before [] place page entry run fits after more is read none = absurd cc
    first_at before (Noted note ∷ log) place page entry run fits after more is read none = first_at before log place page entry run fits after more is read none
    first_at before (Entered one ∷ log) zero page entry run fits after more is read none =
        let here : (before ++ []) ≡ before = append-nil before in
        subst (λ (es : List Event). IsFirst es page entry.event) (sym here)
        (is_first before entry.event page run fits (subst (λ (es : List Event). IsRead tree es page entry.event) here read) (subst (λ (es : List Event). is_granted_in page es ≡ false) here none))
    first_at before (Entered one ∷ log) (suc place) page entry run fits after more is read none =
        let parts : (before ++ one.event ∷ []) ++ take place (trail_of log) ≡ before ++ (one.event ∷ take place (trail_of log)) = append_assoc before (one.event ∷ []) (take place (trail_of log)) in
        subst (λ (es : List Event). IsFirst es page entry.event) parts
        (first_at (before ++ one.event ∷ []) log place page entry (run_snoc tree pages start before one.event run after.0) (fits-snoc before one.event fits more.0)
        (subst (λ (s : State). IsRun tree pages s (trail_of log)) (sym (state_of-snoc tree before one.event)) after.1) more.1 is
        (subst (λ (es : List Event). IsRead tree es page entry.event) (sym parts) read) (subst (λ (es : List Event). is_granted_in page es ≡ false) (sym parts) none))

-- the first grant of a page is what is kept of it
kept_first : (page : ℕ) (log : List Logged) (place : ℕ) (entry : Entry) → slice_get (entries_of log) place ≡ Some entry → is_granted_in page (take place (trail_of log)) ≡ false → is_grant_of page entry.event ≡ true → kept_in page log ≡ Some entry.bytes
kept_first page [] place entry is none grant = absurd cc
kept_first page (Noted note ∷ log) place entry is none grant = kept_first page log place entry is none grant
kept_first page (Entered one ∷ log) zero entry is none grant =
    let same : entry ≡ one = (let both : Some one ≡ Some entry = is in cc) in
    subst (λ (e : Entry). is_grant_of page e.event ≡ true → kept_in page (Entered one ∷ log) ≡ Some e.bytes) (sym same) (λ own. rw own refl) grant
kept_first page (Entered one ∷ log) (suc place) entry is none grant =
    let parts = neither (is_grant_of page one.event) (is_granted_in page (take place (trail_of log))) none in
    rw parts.0 (kept_first page log place entry is parts.1 grant)
  where
    neither : (a b : Bool) → (a || b) ≡ false → (a ≡ false) × (b ≡ false)
    neither true b e = absurd cc
    neither false b e = (refl, e)

pub reads_find : (tree : TreeShape) (size pages : ℕ) (opening : List ℕ) (log : List Logged) → IsTree tree → length opening ≡ pages * size → IsRun tree pages start (trail_of log)
    → AllByRecursion (FitsFile size pages) (trail_of log) → KeepsPagesOf size opening log → FindsAgain tree size opening log → FindsPagesOf tree size opening log
reads_find tree size pages opening log is_tree long run fits keeps again place page entry is read = elim (test_or (is_granted_in page (take place (trail_of log)))) [
  | inl granted ↦ again place page entry (record { stands = is; read = read; again = granted })
  | inr none ↦
      let f = first_at tree pages is_tree size opening long [] log place page entry tt tt run fits is read none in
      keeps page entry.bytes (kept_first page log place entry is none f.grant) ∙ sym f.shown
]
