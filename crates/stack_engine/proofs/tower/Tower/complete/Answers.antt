use Rattle.std.proofs.Common.{subst, sym}
use Rattle.hist_plain.specs.declared.event.Event.TheVariants as events
use Rattle.stack_engine.specs.Engine.{IsNext}
use Rattle.stack_engine.specs.Tower.{TowerSeen}
use Rattle.stack_engine.proofs.Driving as driving
use Rattle.stack_engine.proofs.tower.Tower.complete.Goals as goal

pub synced-result-requires-clause-next : goal.synced-result-requires-clause-next
synced-result-requires-clause-next g c κs within =
    subst (λ (t : TowerSeen). IsNext t.engine (events.Synced c.args.caller c.args.number c.args.node c.args.from c.args.keep)) (sym c.self.view_is)
    (driving.sync_next c.args.self.now.engine c.args.caller c.args.number c.args.node c.args.from c.args.keep c.requires.upper c.requires.from c.requires.settled)
