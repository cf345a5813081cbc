use Rattle.std.proofs.Common.{◌∙◌, arith, ap, refl, ◌≤◌, ◌||◌, false, true, get_or, length-set}
use Rattle.std.proofs.Math.ListN.{set}
use Rattle.tower_core.specs.TreeShape.{is_within, nodes}
use Rattle.tower_plan.proofs.Tables.{no_flag, path_up}
use Rattle.tower_plan.proofs.table.path.Goals as goal

pub loop-at-init : goal.loop-at-init
loop-at-init c = record {
  len = refl;
  inside = c.requires;
  done = λ n lt. no_flag n (is_within c.args.tree.now c.args.node n) (omega (arith, c.nodes-nodes.ensures.few, c.nodes-nodes.ensures.count));
}

pub loop-at-preserved : goal.loop-at-preserved
loop-at-preserved c =
    let shape = c.args.tree.now in
    let inv = c.loop-at.invariant in
    let few : nodes shape ≤ 32 = omega (arith, c.nodes-nodes.ensures.few, c.nodes-nodes.ensures.count) in
    record {
      len = length-set c.loop-at.on c.loop-at.at true ∙ inv.len;
      inside = omega arith;
      done = λ n lt. ap (λ m. get_or (set c.loop-at.on c.loop-at.at true) n false || is_within shape m n) c.parent-at.ensures.value
          ∙ path_up shape c.nodes-nodes.ensures.tree c.loop-at.on c.loop-at.at c.args.node inv.len few inv.inside inv.done c.loop-at-test.true n lt;
    }
