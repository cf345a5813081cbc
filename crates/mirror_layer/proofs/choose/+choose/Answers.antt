use Rattle.std.proofs.Common.{◌≡◌, ◌<◌, false, length, sym, ap, ◌∙◌, subst, arith}
use Rattle.mirror_rules.specs.Tree.{seats}
use Rattle.mirror_rules.specs.Claims.{Every, Pairs}
use Rattle.mirror_layer.specs.View.{Beside, beside_in, tree_of}
use Rattle.mirror_layer.specs.Calls.{all_told}
use Rattle.mirror_layer.specs.Ceding.{AtFirst}
use Rattle.mirror_layer.specs.Choosing.{goods}
use Rattle.mirror_layer.proofs.ChooseSteps.{stays-at, Again, at-fault, chose, chose-none, chose-again, again, ceded, yields}
use Rattle.mirror_layer.proofs.CameSteps.{ok-is, again-come}
use Rattle.mirror_layer.proofs.choose.+choose.Goals as goal

pub returns-in-Ok-clause-chooses : goal.returns-in-Ok-clause-chooses
returns-in-Ok-clause-chooses g t c told h = chose c.admit-entered.result.outcome c.in-Ok.field-0 c.in-Ok.is c.requires.disks c.requires.first (c.admit-entered.ensures.admits told h)

pub returns-then-not-may_yield-clause-chooses : goal.returns-then-not-may_yield-clause-chooses
returns-then-not-may_yield-clause-chooses g t c told h =
    chose-none c.requires.disks c.requires.first
    (stays-at c.best-generation.ensures.best c.admit-entered.ensures.beside (c.may_yield.ensures.stays c.if-not-may_yield.true))
    (at-fault c.admit-entered.result.outcome c.in-Err.fault c.in-Err.is (c.admit-entered.ensures.admits told h))

pub choose-requires : goal.choose-requires
choose-requires g t c κs within =
    let y = c.may_yield.ensures in
    let e = c.if-not-may_yield.false in
    let d : goods (seats (tree_of c.args.node.now)) ≡ t = c.decreases in
    let b : beside_in c.cede.new.node ≡ beside_in c.args.node.now = c.cede.ensures.beside ∙ c.admit-entered.ensures.beside in
    let a : Again (beside_in c.args.node.now) (seats (tree_of c.args.node.now)) (seats (tree_of c.cede.new.node)) =
    again c.requires.first (ceded c.best-generation.ensures.best c.admit-entered.ensures.beside (y.quiet e) (y.alone e) (y.found e) c.cede.ensures.cedes)
    (at-fault c.admit-entered.result.outcome c.in-Err.fault c.in-Err.is (c.admit-entered.ensures.admits false (λ q. cc))) in
    let fall : goods (seats (tree_of c.cede.new.node)) < t = omega (arith, d, a.fewer) in (
      fall,
      (
        within.0,
        (
          within.1,
          (
            a.waits,
            (
              a.good,
              (
                subst (λ bs. Pairs AtFirst bs (seats (tree_of c.cede.new.node))) (sym b) a.first,
                (
                  c.requires.disks ∙ ap length (sym b),
                  (
                    c.admit-entered.ensures.spare,
                    (
                      subst (λ bs. Every (λ (v : Beside). v.shape ≡ c.args.shape.now) bs) (sym b) c.requires.shapes,
                      (c.admit-entered.auto.ours ∙ c.requires.ours, (c.admit-entered.auto.its ∙ c.requires.its, c.admit-entered.auto.came ∙ c.requires.came)),
                    ),
                  ),
                ),
              ),
            ),
          ),
        ),
      ),
    )

pub returns-else-not-may_yield-clause-chooses : goal.returns-else-not-may_yield-clause-chooses
returns-else-not-may_yield-clause-chooses g t c told h =
    let y = c.may_yield.ensures in
    let e = c.if-not-may_yield.false in
    let b : beside_in c.cede.new.node ≡ beside_in c.args.node.now = c.cede.ensures.beside ∙ c.admit-entered.ensures.beside in
    chose-again c.requires.disks c.requires.first (ceded c.best-generation.ensures.best c.admit-entered.ensures.beside (y.quiet e) (y.alone e) (y.found e) c.cede.ensures.cedes)
    (at-fault c.admit-entered.result.outcome c.in-Err.fault c.in-Err.is (c.admit-entered.ensures.admits told h))
    (c.choose.ensures.chooses told (λ q. ap all_told b ∙ h q))

pub returns-in-Ok-clause-came : goal.returns-in-Ok-clause-came
returns-in-Ok-clause-came g t c = ok-is c.admit-entered.result.outcome c.in-Ok.field-0 c.in-Ok.is c.admit-entered.ensures.came

pub returns-else-not-may_yield-clause-came : goal.returns-else-not-may_yield-clause-came
returns-else-not-may_yield-clause-came g t c =
    let y = c.may_yield.ensures in
    let e = c.if-not-may_yield.false in
    let b : beside_in c.cede.new.node ≡ beside_in c.args.node.now = c.cede.ensures.beside ∙ c.admit-entered.ensures.beside in
    let k = yields (at-fault c.admit-entered.result.outcome c.in-Err.fault c.in-Err.is (c.admit-entered.ensures.admits false (λ q. cc))) c.requires.first
    (ceded c.best-generation.ensures.best c.admit-entered.ensures.beside (y.quiet e) (y.alone e) (y.found e) c.cede.ensures.cedes) in
    again-come c.args.shape.now.pages (beside_in c.cede.new.node) (beside_in c.args.node.now) (seats (tree_of c.choose.new.node)) c.choose.new.came c.choose.result b k.way c.choose.ensures.came
