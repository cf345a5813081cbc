use Rattle.std.proofs.Common.{◌≡◌, ◌≤◌, ◌-◌, ◌+◌, ◌||◌, suc, true, false, length, refl, sym, ap, ◌∙◌, subst, arith}
use Rattle.mirror_rules.specs.Claims.{Every}
use Rattle.mirror_rules.specs.Tree.{seats}
use Rattle.mirror_rules.specs.Steps.{Done, Fault}
use Rattle.mirror_rules.specs.Opening.{Enters}
use Rattle.mirror_layer.specs.View.{Beside, beside_in, tree_of}
use Rattle.mirror_layer.specs.Calls.{all_told}
use Rattle.mirror_layer.proofs.JoinSteps.{or-none}
use Rattle.mirror_layer.proofs.EnterSteps.{enter-ends, enter-goes, or-assoc, enters-none}
use Rattle.mirror_layer.proofs.PlaceSteps.{row-length}
use Rattle.mirror_layer.proofs.CameSteps.{come-none, come-turn, come-all}
use Rattle.mirror_layer.proofs.enter.enter_all.Goals as goal

pub enter_at-entered-requires-clause-shapes : goal.enter_at-entered-requires-clause-shapes
enter_at-entered-requires-clause-shapes g c = subst (λ bs. Every (λ (b : Beside). b.shape ≡ c.args.shape.now) bs) (sym c.loop-place.invariant.beside) c.requires.shapes

pub returns-in-Err-clause-enters : goal.returns-in-Err-clause-enters
returns-in-Err-clause-enters g c told h =
    let v = c.loop-place.invariant in
    let q : c.args.disks - c.loop-place.place ≡ suc (c.args.disks - (c.loop-place.place + 1)) = omega (arith, c.loop-place-test.true) in
    v.enters told h (Fault c.in-Err.fault.disk c.in-Err.fault.count) c.enter_at-entered.result.wrote (seats (tree_of c.enter_at-entered.new.node))
    (enter-ends c.enter_at-entered.result.outcome c.in-Err.fault c.in-Err.is q (c.enter_at-entered.ensures.enters told (λ t. ap all_told v.beside ∙ h t)))

pub loop-place-preserved : goal.loop-place-preserved
loop-place-preserved g c =
    let v = c.loop-place.invariant in
    let q : c.args.disks - c.loop-place.place ≡ suc (c.args.disks - (c.loop-place.place + 1)) = omega (arith, c.loop-place-test.true) in
    record {
      live = c.enter_at-entered.ensures.live;
      spare = c.enter_at-entered.ensures.spare;
      beside = c.enter_at-entered.ensures.beside ∙ v.beside;
      coming = come-turn c.loop-place.came c.enter_at-entered.result.came c.enter_at-entered.result.outcome c.in-Ok.field-0 c.in-Ok.is (c.enter_at-entered.ensures.enters (all_told (beside_in c.args.node.now)) (λ t. ap all_told v.beside ∙ t)) c.enter_at-entered.ensures.came
          (omega (arith, c.loop-place-test.true, c.loop-place.auto.came, c.requires.came)) v.coming;
      enters = λ told h s w zs k.
          subst (λ o. Enters told c.args.generation c.args.shape.now.pages 0 c.args.disks (seats (tree_of c.args.node.now)) s o zs) (or-assoc c.loop-place.wrote c.enter_at-entered.result.wrote w)
          (v.enters told h s (c.enter_at-entered.result.wrote || w) zs (enter-goes c.enter_at-entered.result.outcome c.in-Ok.field-0 c.in-Ok.is q (c.enter_at-entered.ensures.enters told (λ t. ap all_told v.beside ∙ h t)) k));
    }

pub returns-clause-enters : goal.returns-clause-enters
returns-clause-enters g c told h =
    let q : c.args.disks - c.loop-place.place ≡ 0 = omega (arith, c.loop-place-test.false) in
    subst (λ o. Enters told c.args.generation c.args.shape.now.pages 0 c.args.disks (seats (tree_of c.args.node.now)) (Done true) o (seats (tree_of c.loop-place.node))) (or-none c.loop-place.wrote)
    (c.loop-place.invariant.enters told h (Done true) false (seats (tree_of c.loop-place.node)) (enters-none q))

pub loop-place-init : goal.loop-place-init
loop-place-init g c = record {
  live = c.requires.live;
  spare = c.requires.spare;
  beside = refl;
  coming = come-none (seats (tree_of c.args.node.now)) c.args.came.now;
  enters = λ told h s w zs k.
      let q : c.args.disks - 0 ≡ c.args.disks = omega arith in
      subst (λ m. Enters told c.args.generation c.args.shape.now.pages 0 m (seats (tree_of c.args.node.now)) s w zs) q k;
}

pub returns-clause-came : goal.returns-clause-came
returns-clause-came g c =
    let l : length (seats (tree_of c.args.node.now)) ≤ c.loop-place.place = omega (arith, row-length c.args.node.now, c.requires.disks, c.loop-place-test.false) in
    come-all c.loop-place.place l c.loop-place.invariant.coming
