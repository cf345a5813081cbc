-- What opens a tower, completes a sync, and goes on with one.
use Rattle.std.proofs.Common.{◌≡◌, ℕ, ◌*◌, ◌<◌, ◌≤◌, ◌==◌, not, cond, Bool, true, false, List, [], ◌∷◌, ◌++◌, length, Option, Some, None, IfSome, IfNone, OnErr, Result, Ok, Err, refl, sym, ap, subst, ◌∙◌, arith}
use Rattle.hist_plain.specs.declared.event.Event.{Event}
use Rattle.hist_plain.specs.declared.event.Event.TheVariants as events
use Rattle.hist_plain.specs.declared.event.Keep.{Keep}
use Rattle.page_ground.specs.Seen.{Seen}
use Rattle.page_messages.specs.declared.paged.PagedFile.{PagedFile}
use Rattle.tower_core.specs.declared.sheet.Sheet.{Sheet}
use Rattle.tower_core.specs.Sheet.{seen}
use Rattle.tower_core.specs.TreeShape.{IsTree, IsUpper, TreeShape, is_within}
use Rattle.tower_core.specs.Trail.{IsSettled, State}
use Rattle.tower_core.proofs.Trails.{trail_len}
use Rattle.tower_plan.specs.Sync.{IsNextOfSync, IsUnsettled, Push, pushing}
use Rattle.tower_log.specs.declared.logged.Logged.{Logged}
use Rattle.tower_log.specs.Log.{place_of, trail_of}
use Rattle.tower_shows.specs.Began.{ArePagesOf, BeganWith}
use Rattle.tower_shows.proofs.Bytes.{bytes_start}
use Rattle.tower_shows.proofs.Telling.{began_shown, pages_by, pages_each, pages_many}
use Rattle.hist_plain.specs.History.{page_in}
use Rattle.layer_laws.specs.Side.{Side}
use Rattle.layer_laws.specs.Tables.{AreBare}
use Rattle.stack_engine.specs.Answers.{AreAnswers, KeepsPagesOf, ShowsWhatItRead}
use Rattle.stack_engine.specs.Engine.{EngineSeen, IsEngine, IsNext, column_in, events_in, file_in, log_in, sides_in, state_in, tree_in}
use Rattle.stack_engine.specs.Moves.{Sends, StandsFor}
use Rattle.stack_engine.specs.Opened.{IsOf, last_from}
use Rattle.stack_engine.specs.Plans.{IsLowest, IsLowestUnsettled, SettlesBy}
use Rattle.stack_engine.specs.Start.{Opens}
use Rattle.stack_engine.specs.Tower.{Settles, TowerSeen}
use Rattle.stack_engine.specs.declared.turns.Turn.{Turn}
use Rattle.stack_engine.specs.declared.turns.TurnOf.{TurnOf}
use Rattle.stack_engine.specs.declared.turns.TurnOf.TheVariants.{Leaf, Page}
use Rattle.stack_engine.specs.Turns.{holder_of, leaf_emptied, pushed_as, turns_stepping, turns_with, with_leaf, with_turn, without_turns}
use Rattle.std.proofs.lemmas.List.{append-nil}
use Rattle.std.proofs.lemmas.List.Elements.{filter-append}
use Rattle.std.proofs.lemmas.Bool.Decides.{nat_tests}

-- a completed sync may come next where every page is settled
pub sync_next : (e : EngineSeen) (caller number node from : ℕ) (keep : Keep) → IsUpper (tree_in e) node → from ≤ place_of (log_in e) → ((page : ℕ) → page < (file_in e).pages → IsSettled from (column_in e page))
    → IsNext e (events.Synced caller number node from keep)
sync_next e caller number node from keep upper le settled = record {
  fits = λ page some. absurd cc;
  allowed = record { upper = upper; line = (omega (arith, le, trail_len (tree_in e) (events_in e)), settled) };
}

-- THE LOWEST PAGE THAT IS NOT SETTLED

pub none_unsettled : (e : EngineSeen) (sheet : Sheet) → IsEngine e sheet → (pages from : ℕ) → pages ≡ (file_in e).pages → (found : Option ℕ) → IfNone found ((page : ℕ) → page < pages → IsSettled from ((seen sheet).column page))
    → IfNone found ((page : ℕ) → page < (file_in e).pages → IsSettled from (column_in e page))
none_unsettled e sheet is pages from same (Some page) h = tt
none_unsettled e sheet is pages from same None h = λ page inside.
    subst (λ (s : State). IsSettled from (s.column page)) is.sheet_is.state_is (h page (subst (λ (n : ℕ). page < n) (sym same) inside))

pub some_unsettled : (e : EngineSeen) (sheet : Sheet) → IsEngine e sheet → (pages from : ℕ) → pages ≡ (file_in e).pages → (found : Option ℕ) → IfSome found (IsLowest (seen sheet) pages from) → IfSome found (IsLowestUnsettled e from)
some_unsettled e sheet is pages from same None h = tt
some_unsettled e sheet is pages from same (Some page) h = record {
  inside = subst (λ (n : ℕ). page < n) same h.inside;
  unsettled = subst (λ (s : State). IsUnsettled from (s.column page)) is.sheet_is.state_is h.unsettled;
  lowest = λ lower le. subst (λ (s : State). IsSettled from (s.column lower)) is.sheet_is.state_is (h.lowest lower le);
}

-- A PUSH stands for itself
push_same : (keep : Keep) (on : Bool) (node page : ℕ) (old new : EngineSeen) (event : Event) → StandsFor old new (pushing keep on node page) event → event ≡ pushing keep on node page
push_same Keep.Write true node page old new event h = h
push_same Keep.Write false node page old new event h = h
push_same Keep.Read true node page old new event h = h
push_same Keep.Read false node page old new event h = h

sync_same : (shape : TreeShape) (s : State) (page node from : ℕ) (keep : Keep) (asked : Event) → IsNextOfSync shape s page node from keep asked → (old new : EngineSeen) (event : Event) → StandsFor old new asked event → event ≡ asked
sync_same shape s page node from keep asked (Push other unsettled deepest) old new event h = push_same keep (is_within shape node other) other page old new event h

pub settles_of : (old new : TowerSeen) (caller page node from : ℕ) (keep : Keep) (asked event : Event) → IsLowestUnsettled old.engine from page → SettlesBy old.engine page node from (pushed_as caller page keep old.turns) asked → Sends asked old.engine new.engine event → new.turns ≡ old.turns
    → Settles caller node from keep old new event
settles_of old new caller page node from keep asked event lowest settles sends turns =
    let same : event ≡ asked = sync_same (tree_in old.engine) (state_in old.engine) page node from (pushed_as caller page keep old.turns) asked settles.plan old.engine new.engine event sends.stands in
    record {
      page = page;
      lowest = lowest;
      settles = subst (SettlesBy old.engine page node from (pushed_as caller page keep old.turns)) (sym same) settles;
      sends = subst (λ (a : Event). Sends a old.engine new.engine event) (sym same) sends;
      turns = turns;
    }

-- THE FILE THAT THE TRAIL BEGAN WITH, before the first event
pub opened_of : (tree : TreeShape) (file : PagedFile) (ground : Seen) (e : EngineSeen) → IsTree tree → Opens tree file ground e → (opening : List ℕ) (told : List (List ℕ)) → ground.pages ≡ Some told → length opening ≡ file.pages * file.page_size
    → ArePagesOf file.page_size file.pages opening told → IsOf opening e
opened_of tree file ground e over opens opening told is long pages = record {
  began = subst (λ (t : TreeShape). BeganWith t (file_in e).page_size (file_in e).pages opening (events_in e) (sides_in e) e.ground.pages) (sym opens.tree_is)
      (subst (λ (f : PagedFile). BeganWith tree f.page_size f.pages opening (events_in e) (sides_in e) e.ground.pages) (sym opens.file_is)
      (subst (λ (log : List Logged). BeganWith tree file.page_size file.pages opening (trail_of log) (sides_in e) e.ground.pages) (sym opens.no_log)
      (subst (BeganWith tree file.page_size file.pages opening [] (sides_in e)) (sym (ap (λ (s : Seen). s.pages) opens.ground_is ∙ is))
      (bytes_start tree file.page_size file.pages opening (sides_in e) told over opens.bare long pages))));
  keeps = subst (KeepsPagesOf (file_in e).page_size opening) (sym opens.no_log) (λ page bytes none. absurd cc);
  answers = subst (AreAnswers (tree_in e) (file_in e).page_size opening) (sym opens.no_log) (λ place entry none. absurd cc);
  synced = λ from last. let none : None ≡ Some from = sym (ap (λ (log : List Logged). last_from (trail_of log)) opens.no_log) ∙ last in absurd cc;
}

-- and whatever the ground tells, it shows each file as one that has read nothing
pub shows_start : (shape : TreeShape) (size pages : ℕ) (sides : ℕ → ℕ → Side) → IsTree shape → AreBare sides → ShowsWhatItRead shape size pages [] sides
shows_start shape size pages sides tree bare opening sized finds = (
  began_shown shape size pages opening [] sides (Some (pages_by (page_in size opening) pages))
      (bytes_start shape size pages opening sides (pages_by (page_in size opening) pages) tree bare sized (record { many = pages_many (page_in size opening) pages; each = λ page inside. pages_each (page_in size opening) pages page inside })),
  λ place entry none. absurd cc,
)

-- THE TURNS, taken and given up

pub on_err : {A E : Type 0} (r : Result A E) (P : Type 0) → P → OnErr r P
on_err (Ok x) P h = tt
on_err (Err e) P h = h

own_turn : (caller : ℕ) → not (caller == caller) ≡ false
own_turn caller = grind (arith, nat_tests)

undone_by : (caller : ℕ) (of : TurnOf) (turns : List Turn) (holder : Option ℕ) → without_turns caller (turns_with caller of turns holder) ≡ without_turns caller turns
undone_by caller of turns (Some holder) = refl
undone_by caller of turns None =
    filter-append (λ (turn : Turn). not (turn.caller == caller)) turns (record { caller = caller; of = of } ∷ [])
    ∙ ap (λ b. without_turns caller turns ++ cond b (record { caller = caller; of = of } ∷ []) []) (own_turn caller)
    ∙ append-nil (without_turns caller turns)

pub turns_undone : (caller : ℕ) (of : TurnOf) (turns : List Turn) → without_turns caller (with_turn caller of turns) ≡ without_turns caller turns
turns_undone caller of turns = undone_by caller of turns (holder_of of turns)

leaf_undone : (caller : ℕ) (leaf : Option ℕ) (turns : List Turn) → without_turns caller (with_leaf caller leaf turns) ≡ without_turns caller turns
leaf_undone caller None turns = refl
leaf_undone caller (Some leaf) turns = turns_undone caller (Leaf leaf) turns

pub stepping_undone : (caller page : ℕ) (event : Event) (turns : List Turn) → without_turns caller (turns_stepping caller page event turns) ≡ without_turns caller turns
stepping_undone caller page event turns = leaf_undone caller (leaf_emptied event) (with_turn caller (Page page) turns) ∙ turns_undone caller (Page page) turns
