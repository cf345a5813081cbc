use Rattle.std.proofs.Common.{arith, sym, subst}
use Rattle.tower_core.specs.TreeShape.{IsUpper}
use Rattle.stack_engine.specs.Engine.{tree_in}
use Rattle.spr_volume.specs.TowerShared.{SharedSeen}
use Rattle.rust_tests.proofs.volumes.shared.Goals as goal

pub returns-in-Ok : goal.returns-in-Ok
returns-in-Ok c = record {
  lower =
      let small = c.in_ok-tower.ensures in
      subst (λ (s : SharedSeen). IsUpper (tree_in s.began.engine) 1) (sym c.in-Ok.ensures.ok) (small.layers 1 (omega arith) (omega arith));
}
