-- A file whose closing sync is done: nothing changed it behind the place that the sync is from, so pages from there on are those that it has now.
use Rattle.std.proofs.Common.{◌≡◌, ℕ, ◌≤◌, Bool, true, false, List, [], ◌∷◌, ◌++◌, length, Option, Some, None, refl, sym, ap, subst, ◌∙◌, arith, append_assoc}
use Rattle.std.specs.Prelude.{max, unwrap_or}
use Rattle.std.specs.List.{AllByRecursion}
use Rattle.hist_plain.specs.declared.event.Event.{Event}
use Rattle.hist_plain.specs.declared.event.Event.TheVariants.{Synced}
use Rattle.hist_plain.specs.Event.{caller_of}
use Rattle.hist_lock.specs.Ranges.{Each, Quiet, in_range, may_add}
use Rattle.tower_core.specs.Legal.{file_after}
use Rattle.tower_core.specs.TreeShape.{TreeShape}
use Rattle.tower_log.specs.declared.logged.Logged.{Logged}
use Rattle.tower_log.specs.declared.logged.Logged.TheVariants.{Entered, Noted}
use Rattle.tower_log.specs.Log.{trail_of}
use Rattle.tower_log.proofs.LogLaws.{trail_of-append}
use Rattle.tower_shows.specs.Began.{ArePagesOf}
use Rattle.tower_shows.specs.Since.{AreSince, IsSince}
use Rattle.stack_engine.specs.Engine.{events_in, file_in, log_in, tree_in}
use Rattle.stack_engine.specs.Opened.{last_from}
use Rattle.stack_engine.specs.Tower.{TowerSeen}
use Rattle.stack_engine.proofs.Logs.{last_from-entered}
use Rattle.spr_volume.specs.TowerShared.{by}
use Rattle.spr_volume.proofs.Laters.{all-append}
use Rattle.spr_volume.proofs.Whole.{IsIdle, IsQuiet, all_idle, pages_end}
use Rattle.spr_volume.specs.Passes.{is_own}
use Rattle.run_phases.specs.Closing.{EndsQuietly}
use Rattle.run_files.specs.Play.{IsClosed}

-- the event is of a caller below this one, or of none
abbrev pub MayBe : ℕ → Event → Type 0
MayBe end event = may_add 0 end (caller_of event) ≡ true

events-may : (end : ℕ) (log : List Logged) → Each (λ x. may_add 0 end (by x)) log → AllByRecursion (MayBe end) (trail_of log)
events-may end [] h = tt
events-may end (Entered entry ∷ log) h = (h.0, events-may end log h.1)
events-may end (Noted note ∷ log) h = events-may end log h.1

first-part : (P : Event → Type 0) (xs ys : List Event) → AllByRecursion P (xs ++ ys) → AllByRecursion P xs
first-part P [] ys h = tt
first-part P (x ∷ xs) ys h = (h.0, first-part P xs ys h.1)

last-part : (P : Event → Type 0) (xs ys : List Event) → AllByRecursion P (xs ++ ys) → AllByRecursion P ys
last-part P [] ys h = h
last-part P (x ∷ xs) ys h = last-part P xs ys h.1

differ : (b : Bool) → b ≡ false → b ≡ true → ⊥
differ true no_ yes_ = cc
differ false no_ yes_ = cc

nobody : (end : ℕ) (o : Option ℕ) → in_range 0 end o ≡ false → may_add 0 end o ≡ true → o ≡ None
nobody end None out may = refl
nobody end (Some c) out may = absurd (differ (may_add 0 end (Some c)) out may)

-- an event that is of no caller below, though it may be of no other, is nobody's
quiet-events : (end : ℕ) (log : List Logged) → Quiet (is_own 0 end) log → AllByRecursion (MayBe end) (trail_of log) → AllByRecursion IsQuiet (trail_of log)
quiet-events end [] quiet may = tt
quiet-events end (Entered entry ∷ log) quiet may = (nobody end (caller_of entry.event) quiet.0 may.0, quiet-events end log quiet.1 may.1)
quiet-events end (Noted note ∷ log) quiet may = quiet-events end log quiet.1 may

since-more : (tree : TreeShape) (size : ℕ) (opening : List ℕ) (trail : List Event) (least from : ℕ) (ps : List (List ℕ)) → least ≤ from → AreSince tree size opening trail from ps → AreSince tree size opening trail least ps
since-more tree size opening trail least from ps le since = λ page bytes is.
    let at : IsSince tree size opening trail from page bytes = since page bytes is in
    let low = at.not_before in
    record { place = at.place; not_before = omega (arith, le, low); not_after = at.not_after; is = at.is }

-- pages since a place are, where nothing changed the file behind it, those that it has now
pages-now : (tree : TreeShape) (size : ℕ) (opening : List ℕ) (events trail more : List Event) (from : ℕ) (ps : List (List ℕ)) → events ≡ trail ++ more → AllByRecursion IsIdle more → length trail ≤ from
    → AreSince tree size opening events from ps → ArePagesOf size (length ps) (file_after tree size opening events).bytes ps
pages-now tree size opening events trail more from ps is idle le are =
    subst (λ (es : List Event). ArePagesOf size (length ps) (file_after tree size opening es).bytes ps) (sym is)
    (pages_end tree size opening trail more idle (length ps) ps refl
    (subst (λ (es : List Event). AreSince tree size opening es (length trail) ps) is (since-more tree size opening events (length trail) from ps le are)))

-- a file that a caller's sync ended, of whose callers nobody did anything behind the place that the sync is from
pub closed-now : (end closer : ℕ) (t : TowerSeen) → EndsQuietly 0 end closer (log_in t.engine) → Each (λ x. may_add 0 end (by x)) (log_in t.engine) → IsClosed closer t
closed-now end closer t q made =
    let e = t.engine in
    let rest : List Logged = q.quietly.rest in
    let last : List Event = Synced closer q.number q.node q.from q.keep ∷ [] in
    let more : List Event = trail_of rest ++ last in
    let before_is : trail_of q.before ≡ trail_of q.start ++ trail_of rest = ap trail_of q.quietly.whole ∙ trail_of-append q.start rest in
    let events_are : events_in e ≡ trail_of q.start ++ more = q.is ∙ (ap (λ (es : List Event). es ++ last) before_is ∙ append_assoc (trail_of q.start) (trail_of rest) last) in
    let may : AllByRecursion (MayBe end) (trail_of rest) =
    first-part (MayBe end) (trail_of rest) last
    (last-part (MayBe end) (trail_of q.start) more (subst (λ (es : List Event). AllByRecursion (MayBe end) es) events_are (events-may end (log_in e) made))) in
    let idle : AllByRecursion IsIdle more =
    all-append IsIdle (trail_of rest) last (all_idle (trail_of rest) (quiet-events end rest q.quietly.quiet may)) ((λ shape file. refl), tt) in
    let latest : ℕ = max (unwrap_or (last_from (trail_of q.before)) 0) q.from in
    let last_is : last_from (events_in e) ≡ Some latest = ap last_from q.is ∙ last_from-entered (trail_of q.before) (Synced closer q.number q.node q.from q.keep) in
    record {
      ends = record { before = trail_of q.before; number = q.number; node = q.node; from = q.from; keep = q.keep; is = q.is };
      whole = record {
        from = latest;
        last = last_is;
        now = λ opening ps since.
            let low = q.from_is in pages-now (tree_in e) (file_in e).page_size opening.bytes (events_in e) (trail_of q.start) more latest ps events_are idle (omega (arith, low)) since;
      };
    }
