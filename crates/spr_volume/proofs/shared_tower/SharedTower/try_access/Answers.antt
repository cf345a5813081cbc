use Rattle.std.proofs.Common.{◌≡◌, IfErr, IfOk, IsTrue, length, subst}
use Rattle.hist_plain.specs.Event.{fits_page}
use Rattle.hist_plain.specs.History.{mine}
use Rattle.tower_core.specs.TreeShape.{IsUpper, TreeShape}
use Rattle.page_messages.specs.declared.paged.PagedFile.{PagedFile}
use Rattle.stack_engine.specs.Engine.{events_in, log_in}
use Rattle.stack_engine.specs.Plans.{AccessNeedsDisks}
use Rattle.stack_engine.specs.Tower.{Advances, Fails}
use Rattle.spr_volume.specs.TowerCalls.{Tries, access_of}
use Rattle.spr_volume.specs.TowerShared.{SharedSeen, log_of}
use Rattle.spr_volume.proofs.Sharing.{asked_now, later_lent, viewed}
use Rattle.spr_volume.proofs.Trying.{IsTried, later_tried, tried_access, tries}
use Rattle.spr_volume.proofs.shared_tower.SharedTower.try_access.Goals as goal

pub invariant_of-self : goal.invariant_of-self
invariant_of-self g c =
    let upper = asked_now (λ (t : TreeShape) (f : PagedFile). IsUpper t c.args.node) c.self.inside.began.value c.deref_mut-tower.result.now c.args.self.now (viewed c.self.inside.began.value c.self.inside.tower.value c.deref_mut-tower.result.now c.args.self.now c.deref_mut-tower.ensures.value c.self.view_is) (later_lent c.self.inside.began.value.engine c.self.inside.tower.value c.deref_mut-tower.result.now c.deref_mut-tower.ensures.value c.self.invariant.later) c.requires.upper in
    let fits = asked_now (λ (t : TreeShape) (f : PagedFile). IsTrue (fits_page f.page_size f.pages c.args.op.now)) c.self.inside.began.value c.deref_mut-tower.result.now c.args.self.now (viewed c.self.inside.began.value c.self.inside.tower.value c.deref_mut-tower.result.now c.args.self.now c.deref_mut-tower.ensures.value c.self.view_is) (later_lent c.self.inside.began.value.engine c.self.inside.tower.value c.deref_mut-tower.result.now c.deref_mut-tower.ensures.value c.self.invariant.later) c.requires.fits in
    let tried : IsTried c.args.caller (access_of c.args.caller c.args.node c.args.life c.args.op.now (events_in c.deref_mut-tower.result.now.engine)) c.deref_mut-tower.result.now.engine c.advance-result.new.self.engine c.advance-result.new.out c.advance-result.result =
    tried_access c.args.caller c.number-number.result c.args.node c.args.life c.args.op.now c.deref_mut-tower.result.now c.advance-result.new.self c.advance-result.new.out
    c.number-number.ensures c.sound.ensures upper fits c.advance-result.result c.advance-result.ensures.advances c.advance-result.ensures.bytes c.advance-result.ensures.fails in
    record {
      later = later_tried c.args.caller (access_of c.args.caller c.args.node c.args.life c.args.op.now) c.deref_mut-tower.result.now.engine c.advance-result.new.self.engine c.advance-result.new.out c.advance-result.result tried
          c.self.inside.began.value.engine c.sound.ensures c.sound-2.ensures (later_lent c.self.inside.began.value.engine c.self.inside.tower.value c.deref_mut-tower.result.now c.deref_mut-tower.ensures.value c.self.invariant.later);
      long = c.log_len-self-inside.ensures;
    }

pub returns-clause-tries : goal.returns-clause-tries
returns-clause-tries g c =
    let upper = asked_now (λ (t : TreeShape) (f : PagedFile). IsUpper t c.args.node) c.self.inside.began.value c.deref_mut-tower.result.now c.args.self.now (viewed c.self.inside.began.value c.self.inside.tower.value c.deref_mut-tower.result.now c.args.self.now c.deref_mut-tower.ensures.value c.self.view_is) (later_lent c.self.inside.began.value.engine c.self.inside.tower.value c.deref_mut-tower.result.now c.deref_mut-tower.ensures.value c.self.invariant.later) c.requires.upper in
    let fits = asked_now (λ (t : TreeShape) (f : PagedFile). IsTrue (fits_page f.page_size f.pages c.args.op.now)) c.self.inside.began.value c.deref_mut-tower.result.now c.args.self.now (viewed c.self.inside.began.value c.self.inside.tower.value c.deref_mut-tower.result.now c.args.self.now c.deref_mut-tower.ensures.value c.self.view_is) (later_lent c.self.inside.began.value.engine c.self.inside.tower.value c.deref_mut-tower.result.now c.deref_mut-tower.ensures.value c.self.invariant.later) c.requires.fits in
    subst (λ (s : SharedSeen). Tries c.args.caller (access_of c.args.caller c.args.node c.args.life c.args.op.now) (log_of s) (log_in c.advance-result.new.self.engine) c.advance-result.new.out c.advance-result.result) (viewed c.self.inside.began.value c.self.inside.tower.value c.deref_mut-tower.result.now c.args.self.now c.deref_mut-tower.ensures.value c.self.view_is)
    (tries c.args.caller (access_of c.args.caller c.args.node c.args.life c.args.op.now) c.deref_mut-tower.result.now.engine c.advance-result.new.self.engine c.advance-result.new.out c.advance-result.result
    (tried_access c.args.caller c.number-number.result c.args.node c.args.life c.args.op.now c.deref_mut-tower.result.now c.advance-result.new.self c.advance-result.new.out
    c.number-number.ensures c.sound.ensures upper fits c.advance-result.result c.advance-result.ensures.advances c.advance-result.ensures.bytes c.advance-result.ensures.fails))

pub returns-clause-advances : goal.returns-clause-advances
returns-clause-advances g c =
    subst (λ (s : SharedSeen). IfOk c.advance-result.result (Advances c.args.caller (length (mine (events_in s.tower.engine) c.args.caller)) c.args.node c.args.life c.args.op.now s.tower c.advance-result.new.self)) (viewed c.self.inside.began.value c.self.inside.tower.value c.deref_mut-tower.result.now c.args.self.now c.deref_mut-tower.ensures.value c.self.view_is)
    (subst (λ n. IfOk c.advance-result.result (Advances c.args.caller n c.args.node c.args.life c.args.op.now c.deref_mut-tower.result.now c.advance-result.new.self)) c.number-number.ensures c.advance-result.ensures.advances)

pub returns-clause-fails : goal.returns-clause-fails
returns-clause-fails g c = subst (λ (s : SharedSeen). IfErr c.advance-result.result (Fails c.args.caller s.tower c.advance-result.new.self)) (viewed c.self.inside.began.value c.self.inside.tower.value c.deref_mut-tower.result.now c.args.self.now c.deref_mut-tower.ensures.value c.self.view_is) c.advance-result.ensures.fails

pub returns-clause-idle : goal.returns-clause-idle
returns-clause-idle g c = subst (λ (s : SharedSeen). (AccessNeedsDisks s.tower.engine c.args.node c.args.life c.args.op.now → ⊥) → c.advance-result.new.self.engine.ground ≡ s.tower.engine.ground) (viewed c.self.inside.began.value c.self.inside.tower.value c.deref_mut-tower.result.now c.args.self.now c.deref_mut-tower.ensures.value c.self.view_is) c.advance-result.ensures.idle
