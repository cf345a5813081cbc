use Rattle.std.proofs.Common.{◌≡◌, ◌<◌, false, length, refl, sym, ap, ◌∙◌, subst, arith}
use Rattle.disk_format.specs.declared.shape.ImageShape.{ImageShape}
use Rattle.mirror_rules.specs.Claims.{Every}
use Rattle.mirror_layer.specs.View.{Beside, tree_of}
use Rattle.mirror_layer.specs.Calls.{all_told}
use Rattle.mirror_layer.proofs.GroundLaws.{has-pages}
use Rattle.mirror_layer.proofs.FillingSteps.{filling-start, filling-hole, filling-next, filling-left, filling-gone, filling-end, made-live, same-self, same-then, unmade-next}
use Rattle.mirror_layer.proofs.renew.make_pages.Goals as goal

pub loop-page-init : goal.loop-page-init
loop-page-init g c = record {
  live = c.requires.live;
  beside = refl;
  within = omega arith;
  rest = same-self c.args.making.now;
  blank = λ u. u;
  filled = λ told h. filling-start c.args.shape.now c.args.making.now c.requires.holes;
}

pub make_page-requires-clause-live : goal.make_page-requires-clause-live
make_page-requires-clause-live g c κs within = c.loop-page.invariant.live

pub make_page-requires-clause-suits : goal.make_page-requires-clause-suits
make_page-requires-clause-suits g c κs within =
    has-pages c.args.shape.now c.loop-page.page (length c.loop-page.ours) c.loop-page.node (subst (λ bs. Every (λ (b : Beside). b.shape ≡ c.args.shape.now) bs) (sym c.loop-page.invariant.beside) c.requires.shapes) c.loop-page-test.true (c.loop-page.auto.ours ∙ c.requires.ours)

pub make_page-requires-clause-page : goal.make_page-requires-clause-page
make_page-requires-clause-page g c κs within = subst (λ (v : ImageShape). c.loop-page.page < v.pages) (sym (c.loop-page.invariant.rest.shape ∙ c.requires.shape)) c.loop-page-test.true

pub make_page-requires-clause-size : goal.make_page-requires-clause-size
make_page-requires-clause-size g c κs within = c.loop-page.auto.ours ∙ c.requires.ours ∙ ap (λ (v : ImageShape). v.page_size) (sym (c.loop-page.invariant.rest.shape ∙ c.requires.shape))

pub make_page-requires-clause-hole : goal.make_page-requires-clause-hole
make_page-requires-clause-hole g c κs within = filling-hole c.loop-page.making.shape (c.loop-page.invariant.rest.shape ∙ c.requires.shape) c.loop-page-test.true (c.loop-page.invariant.filled false (λ t. cc))

pub loop-page-preserved : goal.loop-page-preserved
loop-page-preserved g c =
    let v = c.loop-page.invariant in
    record {
      live = made-live false c.in-Ok-true.field-0 c.loop-page.page (tree_of c.loop-page.node) (tree_of c.make_page.new.node) c.loop-page.making c.make_page.new.making c.in-Ok-true.field-0-test (c.in-Ok-true.ensures.makes false (λ t. cc)) v.live;
      beside = c.make_page.ensures.beside ∙ v.beside;
      within = omega (arith, c.loop-page-test.true);
      rest = same-then c.args.making.now c.loop-page.making c.make_page.new.making v.rest c.make_page.ensures.rest;
      blank = unmade-next c.loop-page.making.shape c.args.shape.now c.args.making.now.content c.loop-page.making.content c.make_page.new.making.content (v.rest.shape ∙ c.requires.shape) c.make_page.ensures.blank v.blank;
      filled = λ told h. filling-next c.in-Ok-true.field-0-test c.loop-page-test.true (c.in-Ok-true.ensures.makes told (λ t. ap all_told v.beside ∙ h t)) (v.filled told h);
    }

pub returns-in-Ok-false-clause-makes : goal.returns-in-Ok-false-clause-makes
returns-in-Ok-false-clause-makes g c told h =
    let v = c.loop-page.invariant in
    filling-left c.make_page.new.making c.in-Ok-false.field-0-test c.loop-page-test.true (c.in-Ok-false.ensures.makes told (λ t. ap all_told v.beside ∙ h t)) (v.filled told h)

pub returns-in-Ok-false-clause-rest : goal.returns-in-Ok-false-clause-rest
returns-in-Ok-false-clause-rest g c = same-then c.args.making.now c.loop-page.making c.make_page.new.making c.loop-page.invariant.rest c.make_page.ensures.rest

pub returns-in-Ok-false-clause-blank : goal.returns-in-Ok-false-clause-blank
returns-in-Ok-false-clause-blank g c = unmade-next c.loop-page.making.shape c.args.shape.now c.args.making.now.content c.loop-page.making.content c.make_page.new.making.content (c.loop-page.invariant.rest.shape ∙ c.requires.shape) c.make_page.ensures.blank c.loop-page.invariant.blank

pub returns-in-Err-clause-makes : goal.returns-in-Err-clause-makes
returns-in-Err-clause-makes g c told h =
    let v = c.loop-page.invariant in
    filling-gone c.make_page.new.making c.in-Err.fault c.loop-page-test.true (c.in-Err.ensures.makes told (λ t. ap all_told v.beside ∙ h t)) (v.filled told h)

pub returns-in-Err-clause-rest : goal.returns-in-Err-clause-rest
returns-in-Err-clause-rest g c = same-then c.args.making.now c.loop-page.making c.make_page.new.making c.loop-page.invariant.rest c.make_page.ensures.rest

pub returns-in-Err-clause-blank : goal.returns-in-Err-clause-blank
returns-in-Err-clause-blank g c = unmade-next c.loop-page.making.shape c.args.shape.now c.args.making.now.content c.loop-page.making.content c.make_page.new.making.content (c.loop-page.invariant.rest.shape ∙ c.requires.shape) c.make_page.ensures.blank c.loop-page.invariant.blank

pub returns-clause-makes : goal.returns-clause-makes
returns-clause-makes g c told h =
    let v = c.loop-page.invariant in
    filling-end (omega (arith, v.within, c.loop-page-test.false)) (v.filled told h)
