use Rattle.std.proofs.Common.{◌≡◌, ◌≤◌, [], IfErr, IfOk, length, subst, sym}
use Rattle.hist_plain.specs.History.{mine}
use Rattle.tower_core.specs.TreeShape.{IsUpper, TreeShape}
use Rattle.tower_log.specs.Log.{place_of}
use Rattle.page_messages.specs.declared.paged.PagedFile.{PagedFile}
use Rattle.stack_engine.specs.Engine.{events_in, log_in}
use Rattle.stack_engine.specs.Plans.{SyncNeedsDisks}
use Rattle.stack_engine.specs.Tower.{AdvancesSync, Fails}
use Rattle.stack_engine.specs.Turns.{pushed_as}
use Rattle.spr_volume.specs.TowerCalls.{Tries, sync_of}
use Rattle.spr_volume.specs.TowerShared.{SharedSeen, log_of}
use Rattle.spr_volume.proofs.Sharing.{asked_now, later_lent, viewed}
use Rattle.spr_volume.proofs.Trying.{later_tried, tried_sync, tries}
use Rattle.spr_volume.proofs.shared_tower.SharedTower.try_sync.Goals as goal

pub invariant_of-self : goal.invariant_of-self
invariant_of-self g c =
    let upper = asked_now (λ (t : TreeShape) (f : PagedFile). IsUpper t c.args.node) c.self.inside.began.value c.deref_mut-tower.result.now c.args.self.now (viewed c.self.inside.began.value c.self.inside.tower.value c.deref_mut-tower.result.now c.args.self.now c.deref_mut-tower.ensures.value c.self.view_is) (later_lent c.self.inside.began.value.engine c.self.inside.tower.value c.deref_mut-tower.result.now c.deref_mut-tower.ensures.value c.self.invariant.later) c.requires.upper in
    let reached = subst (λ (s : SharedSeen). c.args.from ≤ place_of (log_of s)) (sym (viewed c.self.inside.began.value c.self.inside.tower.value c.deref_mut-tower.result.now c.args.self.now c.deref_mut-tower.ensures.value c.self.view_is)) c.requires.from in
    record {
      later = later_tried c.args.caller (sync_of c.args.caller c.args.node c.args.from c.args.keep) c.deref_mut-tower.result.now.engine c.advance_sync-result.new.self.engine [] c.advance_sync-result.result
          (tried_sync c.args.caller c.number-number.result c.args.node c.args.from c.args.keep c.deref_mut-tower.result.now c.advance_sync-result.new.self c.number-number.ensures upper reached
          c.advance_sync-result.result c.advance_sync-result.ensures.advances c.advance_sync-result.ensures.fails)
          c.self.inside.began.value.engine c.sound.ensures c.sound-2.ensures (later_lent c.self.inside.began.value.engine c.self.inside.tower.value c.deref_mut-tower.result.now c.deref_mut-tower.ensures.value c.self.invariant.later);
      long = c.log_len-self-inside.ensures;
    }

pub returns-clause-tries : goal.returns-clause-tries
returns-clause-tries g c =
    let upper = asked_now (λ (t : TreeShape) (f : PagedFile). IsUpper t c.args.node) c.self.inside.began.value c.deref_mut-tower.result.now c.args.self.now (viewed c.self.inside.began.value c.self.inside.tower.value c.deref_mut-tower.result.now c.args.self.now c.deref_mut-tower.ensures.value c.self.view_is) (later_lent c.self.inside.began.value.engine c.self.inside.tower.value c.deref_mut-tower.result.now c.deref_mut-tower.ensures.value c.self.invariant.later) c.requires.upper in
    let reached = subst (λ (s : SharedSeen). c.args.from ≤ place_of (log_of s)) (sym (viewed c.self.inside.began.value c.self.inside.tower.value c.deref_mut-tower.result.now c.args.self.now c.deref_mut-tower.ensures.value c.self.view_is)) c.requires.from in
    subst (λ (s : SharedSeen). Tries c.args.caller (sync_of c.args.caller c.args.node c.args.from c.args.keep) (log_of s) (log_in c.advance_sync-result.new.self.engine) [] c.advance_sync-result.result) (viewed c.self.inside.began.value c.self.inside.tower.value c.deref_mut-tower.result.now c.args.self.now c.deref_mut-tower.ensures.value c.self.view_is)
    (tries c.args.caller (sync_of c.args.caller c.args.node c.args.from c.args.keep) c.deref_mut-tower.result.now.engine c.advance_sync-result.new.self.engine [] c.advance_sync-result.result
    (tried_sync c.args.caller c.number-number.result c.args.node c.args.from c.args.keep c.deref_mut-tower.result.now c.advance_sync-result.new.self c.number-number.ensures upper reached
    c.advance_sync-result.result c.advance_sync-result.ensures.advances c.advance_sync-result.ensures.fails))

pub returns-clause-advances : goal.returns-clause-advances
returns-clause-advances g c =
    subst (λ (s : SharedSeen). IfOk c.advance_sync-result.result (AdvancesSync c.args.caller (length (mine (events_in s.tower.engine) c.args.caller)) c.args.node c.args.from c.args.keep s.tower c.advance_sync-result.new.self)) (viewed c.self.inside.began.value c.self.inside.tower.value c.deref_mut-tower.result.now c.args.self.now c.deref_mut-tower.ensures.value c.self.view_is)
    (subst (λ n. IfOk c.advance_sync-result.result (AdvancesSync c.args.caller n c.args.node c.args.from c.args.keep c.deref_mut-tower.result.now c.advance_sync-result.new.self)) c.number-number.ensures c.advance_sync-result.ensures.advances)

pub returns-clause-fails : goal.returns-clause-fails
returns-clause-fails g c = subst (λ (s : SharedSeen). IfErr c.advance_sync-result.result (Fails c.args.caller s.tower c.advance_sync-result.new.self)) (viewed c.self.inside.began.value c.self.inside.tower.value c.deref_mut-tower.result.now c.args.self.now c.deref_mut-tower.ensures.value c.self.view_is) c.advance_sync-result.ensures.fails

pub returns-clause-idle : goal.returns-clause-idle
returns-clause-idle g c = subst (λ (s : SharedSeen). (SyncNeedsDisks s.tower.engine c.args.node c.args.from (λ page. pushed_as c.args.caller page c.args.keep s.tower.turns) → ⊥) → c.advance_sync-result.new.self.engine.ground ≡ s.tower.engine.ground) (viewed c.self.inside.began.value c.self.inside.tower.value c.deref_mut-tower.result.now c.args.self.now c.deref_mut-tower.ensures.value c.self.view_is) c.advance_sync-result.ensures.idle
