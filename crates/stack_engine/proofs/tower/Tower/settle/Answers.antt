use Rattle.std.proofs.Common.{ap, subst, ◌∙◌}
use Rattle.hist_plain.specs.declared.event.Keep.{Keep}
use Rattle.stack_engine.specs.Messages.{NeedsDisks}
use Rattle.stack_engine.specs.Moves.{Sends}
use Rattle.stack_engine.specs.Plans.{SettlesBy}
use Rattle.stack_engine.specs.Tower.{TowerSeen}
use Rattle.stack_engine.specs.Turns.{pushed_as}
use Rattle.stack_engine.proofs.Driving as driving
use Rattle.stack_engine.proofs.tower.Tower.settle.Goals as goal

pub returns-in-Ok-clause-advances : goal.returns-in-Ok-clause-advances
returns-in-Ok-clause-advances g c = λ number.
    driving.settles_of c.args.self.now (record { engine = c.message.new.self; turns = c.self.inside.turns.items }) c.args.caller c.args.page c.args.node c.args.from c.args.keep c.next_push-event.result c.in-Ok.event c.requires.lowest
    (subst (λ (k : Keep). SettlesBy c.args.self.now.engine c.args.page c.args.node c.args.from k c.next_push-event.result) (c.pushed_as-pushed.ensures ∙ ap (pushed_as c.args.caller c.args.page c.args.keep) c.deref.ensures.value ∙ ap (λ (t : TowerSeen). pushed_as c.args.caller c.args.page c.args.keep t.turns) c.self.view_is)
    (subst (λ (t : TowerSeen). SettlesBy t.engine c.args.page c.args.node c.args.from c.pushed_as-pushed.result c.next_push-event.result) c.self.view_is c.next_push-event.ensures.settles))
    (subst (λ (t : TowerSeen). Sends c.next_push-event.result t.engine c.message.new.self c.in-Ok.event) c.self.view_is c.in-Ok.ensures.sends)
    (ap (λ (t : TowerSeen). t.turns) c.self.view_is)

pub returns-in-Ok-clause-idle : goal.returns-in-Ok-clause-idle
returns-in-Ok-clause-idle g c = λ needless.
    c.in-Ok.ensures.idle (λ needs. needless (record {
      page = c.args.page;
      event = c.next_push-event.result;
      lowest = c.requires.lowest;
      settles = (subst (λ (k : Keep). SettlesBy c.args.self.now.engine c.args.page c.args.node c.args.from k c.next_push-event.result) (c.pushed_as-pushed.ensures ∙ ap (pushed_as c.args.caller c.args.page c.args.keep) c.deref.ensures.value ∙ ap (λ (t : TowerSeen). pushed_as c.args.caller c.args.page c.args.keep t.turns) c.self.view_is)
          (subst (λ (t : TowerSeen). SettlesBy t.engine c.args.page c.args.node c.args.from c.pushed_as-pushed.result c.next_push-event.result) c.self.view_is c.next_push-event.ensures.settles));
      needs = subst (λ (t : TowerSeen). NeedsDisks t.engine c.next_push-event.result) c.self.view_is needs;
    })) ∙ ap (λ (t : TowerSeen). t.engine.ground) c.self.view_is

pub returns-in-Ok-clause-spare : goal.returns-in-Ok-clause-spare
returns-in-Ok-clause-spare g c = c.in-Ok.ensures.sends.spare ∙ ap (λ (t : TowerSeen). t.engine.trail.spare) c.self.view_is

pub returns-in-Err-clause-idle : goal.returns-in-Err-clause-idle
returns-in-Err-clause-idle g c = λ needless.
    c.in-Err.ensures.idle (λ needs. needless (record {
      page = c.args.page;
      event = c.next_push-event.result;
      lowest = c.requires.lowest;
      settles = (subst (λ (k : Keep). SettlesBy c.args.self.now.engine c.args.page c.args.node c.args.from k c.next_push-event.result) (c.pushed_as-pushed.ensures ∙ ap (pushed_as c.args.caller c.args.page c.args.keep) c.deref.ensures.value ∙ ap (λ (t : TowerSeen). pushed_as c.args.caller c.args.page c.args.keep t.turns) c.self.view_is)
          (subst (λ (t : TowerSeen). SettlesBy t.engine c.args.page c.args.node c.args.from c.pushed_as-pushed.result c.next_push-event.result) c.self.view_is c.next_push-event.ensures.settles));
      needs = subst (λ (t : TowerSeen). NeedsDisks t.engine c.next_push-event.result) c.self.view_is needs;
    })) ∙ ap (λ (t : TowerSeen). t.engine.ground) c.self.view_is

pub returns-in-Err-clause-spare : goal.returns-in-Err-clause-spare
returns-in-Err-clause-spare g c = c.in-Err.ensures.refused.spare ∙ ap (λ (t : TowerSeen). t.engine.trail.spare) c.self.view_is
