use Rattle.std.proofs.Common.{◌≡◌, [], IfErr, IfOk, length, subst}
use Rattle.hist_plain.specs.History.{mine}
use Rattle.tower_core.specs.TreeShape.{IsUpper, TreeShape}
use Rattle.page_messages.specs.declared.paged.PagedFile.{PagedFile}
use Rattle.stack_engine.specs.Engine.{events_in, log_in}
use Rattle.stack_engine.specs.Ended.{EndNeedsDisks}
use Rattle.stack_engine.specs.Ends.{AdvancesEnd}
use Rattle.stack_engine.specs.Tower.{Fails}
use Rattle.spr_volume.specs.TowerCalls.{Tries, end_of}
use Rattle.spr_volume.specs.TowerShared.{SharedSeen, log_of}
use Rattle.spr_volume.proofs.Sharing.{asked_now, later_lent, viewed}
use Rattle.spr_volume.proofs.Trying.{later_tried, tried_end, tries}
use Rattle.spr_volume.proofs.shared_tower.SharedTower.try_end.Goals as goal

pub invariant_of-self : goal.invariant_of-self
invariant_of-self g c =
    let upper = asked_now (λ (t : TreeShape) (f : PagedFile). IsUpper t c.args.node) c.self.inside.began.value c.deref_mut-tower.result.now c.args.self.now (viewed c.self.inside.began.value c.self.inside.tower.value c.deref_mut-tower.result.now c.args.self.now c.deref_mut-tower.ensures.value c.self.view_is) (later_lent c.self.inside.began.value.engine c.self.inside.tower.value c.deref_mut-tower.result.now c.deref_mut-tower.ensures.value c.self.invariant.later) c.requires.upper in
    record {
      later = later_tried c.args.caller (end_of c.args.caller c.args.node c.args.end) c.deref_mut-tower.result.now.engine c.advance_end-result.new.self.engine [] c.advance_end-result.result
          (tried_end c.args.caller c.number-number.result c.args.node c.args.end c.deref_mut-tower.result.now c.advance_end-result.new.self c.number-number.ensures upper
          c.advance_end-result.result c.advance_end-result.ensures.advances c.advance_end-result.ensures.fails)
          c.self.inside.began.value.engine c.sound.ensures c.sound-2.ensures (later_lent c.self.inside.began.value.engine c.self.inside.tower.value c.deref_mut-tower.result.now c.deref_mut-tower.ensures.value c.self.invariant.later);
      long = c.log_len-self-inside.ensures;
    }

pub returns-clause-tries : goal.returns-clause-tries
returns-clause-tries g c =
    let upper = asked_now (λ (t : TreeShape) (f : PagedFile). IsUpper t c.args.node) c.self.inside.began.value c.deref_mut-tower.result.now c.args.self.now (viewed c.self.inside.began.value c.self.inside.tower.value c.deref_mut-tower.result.now c.args.self.now c.deref_mut-tower.ensures.value c.self.view_is) (later_lent c.self.inside.began.value.engine c.self.inside.tower.value c.deref_mut-tower.result.now c.deref_mut-tower.ensures.value c.self.invariant.later) c.requires.upper in
    subst (λ (s : SharedSeen). Tries c.args.caller (end_of c.args.caller c.args.node c.args.end) (log_of s) (log_in c.advance_end-result.new.self.engine) [] c.advance_end-result.result) (viewed c.self.inside.began.value c.self.inside.tower.value c.deref_mut-tower.result.now c.args.self.now c.deref_mut-tower.ensures.value c.self.view_is)
    (tries c.args.caller (end_of c.args.caller c.args.node c.args.end) c.deref_mut-tower.result.now.engine c.advance_end-result.new.self.engine [] c.advance_end-result.result
    (tried_end c.args.caller c.number-number.result c.args.node c.args.end c.deref_mut-tower.result.now c.advance_end-result.new.self c.number-number.ensures upper
    c.advance_end-result.result c.advance_end-result.ensures.advances c.advance_end-result.ensures.fails))

pub returns-clause-advances : goal.returns-clause-advances
returns-clause-advances g c =
    subst (λ (s : SharedSeen). IfOk c.advance_end-result.result (AdvancesEnd c.args.caller (length (mine (events_in s.tower.engine) c.args.caller)) c.args.node c.args.end s.tower c.advance_end-result.new.self)) (viewed c.self.inside.began.value c.self.inside.tower.value c.deref_mut-tower.result.now c.args.self.now c.deref_mut-tower.ensures.value c.self.view_is)
    (subst (λ n. IfOk c.advance_end-result.result (AdvancesEnd c.args.caller n c.args.node c.args.end c.deref_mut-tower.result.now c.advance_end-result.new.self)) c.number-number.ensures c.advance_end-result.ensures.advances)

pub returns-clause-fails : goal.returns-clause-fails
returns-clause-fails g c = subst (λ (s : SharedSeen). IfErr c.advance_end-result.result (Fails c.args.caller s.tower c.advance_end-result.new.self)) (viewed c.self.inside.began.value c.self.inside.tower.value c.deref_mut-tower.result.now c.args.self.now c.deref_mut-tower.ensures.value c.self.view_is) c.advance_end-result.ensures.fails

pub returns-clause-idle : goal.returns-clause-idle
returns-clause-idle g c = subst (λ (s : SharedSeen). (EndNeedsDisks s.tower.engine c.args.node → ⊥) → c.advance_end-result.new.self.engine.ground ≡ s.tower.engine.ground) (viewed c.self.inside.began.value c.self.inside.tower.value c.deref_mut-tower.result.now c.args.self.now c.deref_mut-tower.ensures.value c.self.view_is) c.advance_end-result.ensures.idle
