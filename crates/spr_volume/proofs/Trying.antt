-- One try of a call: what it adds to the log, and that the file stays the same file later on.
use Rattle.std.proofs.Common.{◌≡◌, ℕ, ◌≤◌, IsTrue, List, [], length, Option, Some, None, Result, Ok, Err, IfOk, IfErr, refl, sym, ap, ◌∙◌}
use Rattle.hist_plain.specs.declared.event.Answer.TheVariants as answers
use Rattle.hist_plain.specs.declared.event.Event.{Event}
use Rattle.hist_plain.specs.declared.event.Event.TheVariants as events
use Rattle.hist_plain.specs.declared.event.Keep.{Keep}
use Rattle.hist_plain.specs.declared.event.Op.{Op}
use Rattle.hist_plain.specs.Event.{caller_of, fits_page}
use Rattle.hist_plain.specs.History.{mine}
use Rattle.tower_core.specs.TreeShape.{IsUpper}
use Rattle.tower_log.specs.declared.logged.Logged.{Logged}
use Rattle.tower_log.specs.Log.{place_of}
use Rattle.stack_engine.specs.declared.ends.End.{End}
use Rattle.stack_engine.specs.declared.moved.Moved.{Moved}
use Rattle.stack_engine.specs.declared.moved.Moved.TheVariants.{Busy, Done, Stepped}
use Rattle.stack_engine.specs.declared.refusal.StepErr.{StepErr}
use Rattle.stack_engine.specs.declared.refusal.StepErr.TheVariants.{StoreFault, TrailFull, Memory}
use Rattle.stack_engine.specs.Engine.{EngineSeen, IsSound, events_in, file_in, log_in, state_in, tree_in}
use Rattle.stack_engine.specs.Messages.{IsPageMessage}
use Rattle.stack_engine.specs.Moves.{FindsZeros, IsRefused, Sends, StandsFor, bytes_to}
use Rattle.stack_engine.specs.Ended.{event_ended}
use Rattle.stack_engine.specs.Ends.{AdvancesEnd}
use Rattle.stack_engine.specs.Tower.{Advances, AdvancesSync, Fails, IsDone, TowerSeen}
use Rattle.stack_engine.specs.Turns.{pushed_as}
use Rattle.stack_engine.proofs.Draining.{drain_kind}
use Rattle.stack_engine.proofs.Planning.{plan_kind, sync_kind}
use Rattle.spr_volume.specs.TowerCalls.{Moves, Refuses, Tries, access_of, end_of, sync_of}
use Rattle.stack_engine.specs.Opened.{from_after}
use Rattle.spr_volume.specs.Later.{IsLater, answer_by}
use Rattle.spr_volume.proofs.Needing.{IsFor, for_access, for_end, for_sync}
use Rattle.spr_volume.proofs.Laters.{IsTry, later_trans, later_try, noted_by, try_entered, try_none, try_refused, unanswered, unsynced}

-- MESSAGES are nobody's

quiet_zeros : (P : Type 0) (event zeros other : Event) (caller : Option ℕ) → caller_of event ≡ caller → caller_of zeros ≡ None → caller_of other ≡ None → (P → event ≡ zeros) → ((P → ⊥) → event ≡ other) → caller_of event ≡ None
quiet_zeros P event zeros other None is z o found not_found = is
quiet_zeros P event zeros other (Some caller) is z o found not_found =
    let missed : P → ⊥ = λ p. let e : caller_of event ≡ None = ap caller_of (found p) ∙ z in let both : Some caller ≡ None = sym is ∙ e in cc in
    ap caller_of (not_found missed) ∙ o

stands_quiet : (old new : EngineSeen) (asked event : Event) → IsPageMessage asked → StandsFor old new asked event → caller_of event ≡ None
stands_quiet old new (events.PageIn node page write) event kind stands = quiet_zeros (FindsZeros old new node page) event (events.ZeroFill node page write) (events.PageIn node page write) (caller_of event) refl refl refl stands.0 stands.1
stands_quiet old new (events.PageOut node page) event kind stands = ap caller_of stands
stands_quiet old new (events.WriteOut node page) event kind stands = ap caller_of stands
stands_quiet old new (events.SyncOut node page) event kind stands = ap caller_of stands
stands_quiet old new (events.FlushBack node page) event kind stands = ap caller_of stands
stands_quiet old new (events.DenyWrites node page) event kind stands = ap caller_of stands
stands_quiet old new (events.WriteBack node page) event kind stands = ap caller_of stands
stands_quiet old new (events.DeleteRange node page) event kind stands = ap caller_of stands
stands_quiet old new asked event kind stands = absurd kind

-- ONE TRY of a call whose event is this, and what it adds to the log
pub record IsTried (caller : ℕ) (event : Event) (old new : EngineSeen) (out : List ℕ) (r : Result Moved StepErr) : Type 0 where
  pub last : List Logged
  pub is_try : IsTry last old new
  pub moves : Moves caller event (log_in old) last out r

module _ (caller : ℕ) (event : Event) (old new : EngineSeen) (out : List ℕ) where
  -- a page message was sent for it
  sent : (asked message : Event) → IsPageMessage asked → Sends asked old new message → IsFor old message → IsTried caller event old new out (Ok (Stepped message))
  sent asked message kind sends needed = record {
    last = _;
    is_try = try_entered _ old new sends.enters (unanswered (state_in old) message (stands_quiet old new asked message kind sends.stands)) needed
        (λ at is. absurd (unsynced message at (stands_quiet old new asked message kind sends.stands) is));
    moves = (_, refl, refl, stands_quiet old new asked message kind sends.stands);
  }

  refuses : (err : StepErr) → IsRefused caller old new err → Refuses caller (log_in old) (noted_by caller err) err
  refuses (StoreFault disk count) refused = refl
  refuses TrailFull refused = (refl, refused.why.1)
  refuses Memory refused = (refl, refused.why.1)

  refused_so : (err : StepErr) → IsRefused caller old new err → IsTried caller event old new out (Err err)
  refused_so err refused = record { last = noted_by caller err; is_try = try_refused caller old new err refused; moves = refuses err refused }

-- A TRY OF AN ACCESS, which has the caller's next number
module _ (caller number node life : ℕ) (op : Op) (old new : TowerSeen) (out : List ℕ) (number_is : number ≡ length (mine (events_in old.engine) caller)) (sound : IsSound old.engine) (upper : IsUpper (tree_in old.engine) node)
    (fits : IsTrue (fits_page (file_in old.engine).page_size (file_in old.engine).pages op)) where
  pub tried_access : (r : Result Moved StepErr) → IfOk r (Advances caller number node life op old new) → IfOk r (λ moved. IsDone answers.Bytes moved → out ≡ bytes_to old.engine node life op)
      → IfErr r (Fails caller old new) → IsTried caller (access_of caller node life op (events_in old.engine)) old.engine new.engine out r
  tried_access (Ok (Done answer)) hits bytes fails = record {
    last = _;
    is_try = try_entered _ old.engine new.engine hits.makes.enters (ap Some hits.makes.is) (λ quiet. absurd cc) (λ at is. absurd cc);
    moves = (_, refl, record { event_is = ap (λ (n : ℕ). events.Access caller n node life op) number_is; answer_is = refl; bytes = λ read. sym (bytes read) });
  }
  tried_access (Ok (Stepped message)) steps bytes fails =
      let kind = plan_kind _ _ _ node steps.page steps.want steps.asked steps.steps.plan in
      sent caller _ old.engine new.engine out steps.asked message kind steps.sends (for_access caller node life op old new message upper fits steps kind)
  tried_access (Ok (Busy holder)) waits bytes fails = record { last = []; is_try = try_none old.engine new.engine (ap (λ (t : TowerSeen). t.engine) waits.same); moves = refl }
  tried_access (Err err) advances bytes fails = refused_so caller _ old.engine new.engine out err fails.refused

-- A TRY OF A SYNC, which has the caller's next number
module _ (caller number node from : ℕ) (keep : Keep) (old new : TowerSeen) (number_is : number ≡ length (mine (events_in old.engine) caller)) (upper : IsUpper (tree_in old.engine) node)
    (reached : from ≤ place_of (log_in old.engine)) where
  pub tried_sync : (r : Result Moved StepErr) → IfOk r (AdvancesSync caller number node from keep old new) → IfErr r (Fails caller old new)
      → IsTried caller (sync_of caller node from keep (events_in old.engine)) old.engine new.engine [] r
  tried_sync (Ok (Done answer)) syncs fails = record {
    last = _;
    is_try = try_entered _ old.engine new.engine syncs.enters refl (λ quiet. absurd cc) (λ at is. syncs.kept.paid);
    moves = (_, refl, record { event_is = ap (λ (n : ℕ). events.Synced caller n node from keep) number_is; answer_is = ap Some (sym syncs.is); bytes = λ read. refl });
  }
  tried_sync (Ok (Stepped message)) settles fails =
      sent caller _ old.engine new.engine [] message message (sync_kind _ _ settles.page node from (pushed_as caller settles.page keep old.turns) message settles.settles.plan) settles.sends (for_sync caller node from keep old new message upper reached settles)
  tried_sync (Ok (Busy holder)) never fails = absurd never
  tried_sync (Err err) advances fails = refused_so caller _ old.engine new.engine [] err fails.refused

-- A TRY OF AN END, which has the caller's next number
end_answered : (old : EngineSeen) (end : End) (caller number node : ℕ) → answer_by (state_in old) (event_ended end caller number node) ≡ Some answers.Done
end_answered old End.Destroy caller number node = refl
end_answered old End.Done caller number node = refl

end_called : (end : End) (caller number node : ℕ) → caller_of (event_ended end caller number node) ≡ None → ⊥
end_called End.Destroy caller number node none = cc
end_called End.Done caller number node none = cc

end_unsynced : (end : End) (caller number node from : ℕ) → from_after None (event_ended end caller number node) ≡ Some from → ⊥
end_unsynced End.Destroy caller number node from is = cc
end_unsynced End.Done caller number node from is = cc

module _ (caller number node : ℕ) (end : End) (old new : TowerSeen) (number_is : number ≡ length (mine (events_in old.engine) caller)) (upper : IsUpper (tree_in old.engine) node) where
  pub tried_end : (r : Result Moved StepErr) → IfOk r (AdvancesEnd caller number node end old new) → IfErr r (Fails caller old new)
      → IsTried caller (end_of caller node end (events_in old.engine)) old.engine new.engine [] r
  tried_end (Ok (Done answer)) ends fails = record {
    last = _;
    is_try = try_entered _ old.engine new.engine ends.ended.enters (sym (end_answered old.engine end caller number node)) (λ quiet. absurd (end_called end caller number node quiet)) (λ from is. absurd (end_unsynced end caller number node from is));
    moves = (_, refl, record { event_is = ap (λ (n : ℕ). event_ended end caller n node) number_is; answer_is = ap Some (sym ends.is); bytes = λ read. refl });
  }
  tried_end (Ok (Stepped message)) drains fails =
      sent caller _ old.engine new.engine [] message message (drain_kind _ _ _ node message drains.drains.plan) drains.sends (for_end caller node old new message upper drains)
  tried_end (Ok (Busy holder)) waits fails = record { last = []; is_try = try_none old.engine new.engine (ap (λ (t : TowerSeen). t.engine) waits.same); moves = refl }
  tried_end (Err err) advances fails = refused_so caller _ old.engine new.engine [] err fails.refused

-- WHAT A TRY KEEPS
module _ (caller : ℕ) (event : List Event → Event) (old new : EngineSeen) (out : List ℕ) (r : Result Moved StepErr) (tried : IsTried caller (event (events_in old)) old new out r) where
  pub tries : Tries caller event (log_in old) (log_in new) out r
  tries = record { last = tried.last; log = tried.is_try.log; moves = tried.moves }

  pub later_tried : (began : EngineSeen) → IsSound old → IsSound new → IsLater began old → IsLater began new
  later_tried began sound sound_new later = later_trans began old new later (later_try tried.last old new sound sound_new tried.is_try)
