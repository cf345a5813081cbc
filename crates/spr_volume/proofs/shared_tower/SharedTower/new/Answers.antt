use Rattle.std.proofs.Common.{length, subst, sym, ◌∙◌, ap}
use Rattle.stack_engine.specs.Engine.{log_in}
use Rattle.stack_engine.specs.Tower.{TowerSeen}
use Rattle.spr_volume.specs.Later.{IsLater}
use Rattle.spr_volume.proofs.Laters.{later_refl}
use Rattle.spr_volume.proofs.shared_tower.SharedTower.new.Goals as goal

pub invariant_of-result : goal.invariant_of-result
invariant_of-result g c =
    let began = c.of-began.result.value in
    record {
      later = subst (λ (t : TowerSeen). IsLater began.engine t.engine) (sym c.in-Ok.ensures.ok)
          (subst (λ (t : TowerSeen). IsLater t.engine c.args.tower.engine) (sym c.of-began.ensures) (later_refl c.args.tower.engine));
      long = c.log_len-logged.ensures ∙ ap (λ (t : TowerSeen). length (log_in t.engine)) (sym c.in-Ok.ensures.ok);
    }
