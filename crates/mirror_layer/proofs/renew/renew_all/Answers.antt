use Rattle.std.proofs.Common.{◌≡◌, ◌-◌, ◌+◌, suc, sym, ap, ◌∙◌, subst, arith}
use Rattle.mirror_rules.specs.Claims.{Every}
use Rattle.mirror_rules.specs.Tree.{seats}
use Rattle.mirror_rules.specs.Steps.{Done, Fault}
use Rattle.mirror_layer.specs.View.{Beside, tree_of}
use Rattle.mirror_layer.specs.Calls.{all_told}
use Rattle.std.proofs.Common.{true}
use Rattle.mirror_layer.proofs.RenewSteps.{renew-ends, renew-goes, renews-none}
use Rattle.mirror_layer.proofs.renew.renew_all.Goals as goal

pub renew_at-requires-clause-shapes : goal.renew_at-requires-clause-shapes
renew_at-requires-clause-shapes g c κs within = subst (λ bs. Every (λ (b : Beside). b.shape ≡ c.args.shape.now) bs) (sym c.loop-place.invariant.beside) c.requires.shapes

pub returns-in-Err-clause-renews : goal.returns-in-Err-clause-renews
returns-in-Err-clause-renews g c told h =
    let v = c.loop-place.invariant in
    let q : c.args.disks - c.loop-place.place ≡ suc (c.args.disks - (c.loop-place.place + 1)) = omega (arith, c.loop-place-test.true) in
    v.renews told h (Fault c.in-Err.fault.disk c.in-Err.fault.count) (seats (tree_of c.renew_at.new.node))
    (renew-ends c.renew_at.result c.in-Err.fault c.in-Err.is q (c.renew_at.ensures.renews told (λ t. ap all_told v.beside ∙ h t)))

pub loop-place-preserved : goal.loop-place-preserved
loop-place-preserved g c =
    let v = c.loop-place.invariant in
    let q : c.args.disks - c.loop-place.place ≡ suc (c.args.disks - (c.loop-place.place + 1)) = omega (arith, c.loop-place-test.true) in
    record {
      live = c.renew_at.ensures.live;
      spare = c.renew_at.ensures.spare;
      beside = c.renew_at.ensures.beside ∙ v.beside;
      room = c.in-Ok.ensures.room;
      images = c.renew_at.ensures.images;
      renews = λ told h s zs k. v.renews told h s zs (renew-goes c.renew_at.result c.in-Ok.field-0 c.in-Ok.is q (c.renew_at.ensures.renews told (λ t. ap all_told v.beside ∙ h t)) k);
    }

pub returns-clause-renews : goal.returns-clause-renews
returns-clause-renews g c told h =
    let q : c.args.disks - c.loop-place.place ≡ 0 = omega (arith, c.loop-place-test.false) in
    c.loop-place.invariant.renews told h (Done true) (seats (tree_of c.loop-place.node)) (renews-none q)
