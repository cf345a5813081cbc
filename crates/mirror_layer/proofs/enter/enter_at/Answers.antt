use Rattle.std.proofs.Common.{◌≡◌, false, sym, subst}
use Rattle.mirror_rules.specs.Claims.{Every}
use Rattle.mirror_rules.proofs.OpenLaws.{nth-same}
use Rattle.mirror_rules.proofs.RoundLaws.{live-tree, live-seats}
use Rattle.mirror_layer.specs.View.{Beside, tree_of}
use Rattle.mirror_layer.specs.Places.{first_beside}
use Rattle.mirror_layer.specs.Coming.{IsWord}
use Rattle.mirror_layer.proofs.EnterSteps.{Visit, leaf-live, every-set, every-nth, enters-live, visit-enters, visit-beside, visit-spare}
use Rattle.mirror_layer.proofs.enter.enter_at.Goals as goal

pub enter_leaf-entered-requires-clause-live : goal.enter_leaf-entered-requires-clause-live
enter_leaf-entered-requires-clause-live g c d e = leaf-live c.args.node.now c.exchange_at.new.node c.exchange_at.ensures e c.requires.live

pub enter_leaf-entered-requires-clause-shapes : goal.enter_leaf-entered-requires-clause-shapes
enter_leaf-entered-requires-clause-shapes g c = subst (λ bs. Every (λ (b : Beside). b.shape ≡ c.args.shape.now) bs) (sym c.exchange_at.ensures.besides) (every-set (first_beside c.args.spare.now) c.requires.spare.fits c.exchange_at.ensures.beside c.requires.shapes)

pub enter_leaf-entered-requires-clause-shape : goal.enter_leaf-entered-requires-clause-shape
enter_leaf-entered-requires-clause-shape g c = every-nth {P = λ (b : Beside). b.shape ≡ c.args.shape.now} c.exchange_at.ensures.beside c.requires.shapes

pub returns-clause-enters : goal.returns-clause-enters
returns-clause-enters g c told h =
    let v : Visit c.args.place c.args.shape.now c.args.spare.now c.exchange_at.new.leaf c.enter_leaf-entered.new.leaf c.exchange_at-2.new.leaf c.args.node.now c.exchange_at.new.node c.enter_leaf-entered.new.node c.exchange_at-2.new.node =
    record { first = c.exchange_at.ensures; then = c.exchange_at-2.ensures; idle = c.requires.spare; beside = c.enter_leaf-entered.ensures.beside; own = c.enter_leaf-entered.ensures.own; out = c.enter_leaf-entered.ensures.out } in
    visit-enters c.enter_leaf-entered.result.outcome c.args.spare.now c.exchange_at.new.leaf c.enter_leaf-entered.new.leaf c.exchange_at-2.new.leaf c.args.node.now c.exchange_at.new.node c.enter_leaf-entered.new.node c.exchange_at-2.new.node v (c.enter_leaf-entered.ensures.enters told) h

pub returns-clause-live : goal.returns-clause-live
returns-clause-live g c =
    let v : Visit c.args.place c.args.shape.now c.args.spare.now c.exchange_at.new.leaf c.enter_leaf-entered.new.leaf c.exchange_at-2.new.leaf c.args.node.now c.exchange_at.new.node c.enter_leaf-entered.new.node c.exchange_at-2.new.node =
    record { first = c.exchange_at.ensures; then = c.exchange_at-2.ensures; idle = c.requires.spare; beside = c.enter_leaf-entered.ensures.beside; own = c.enter_leaf-entered.ensures.own; out = c.enter_leaf-entered.ensures.out } in
    let e = visit-enters c.enter_leaf-entered.result.outcome c.args.spare.now c.exchange_at.new.leaf c.enter_leaf-entered.new.leaf c.exchange_at-2.new.leaf c.args.node.now c.exchange_at.new.node c.enter_leaf-entered.new.node c.exchange_at-2.new.node v (c.enter_leaf-entered.ensures.enters false) (λ t. cc) in
    live-tree (tree_of c.exchange_at-2.new.node) (enters-live e (live-seats (tree_of c.args.node.now) c.requires.live))

pub returns-clause-spare : goal.returns-clause-spare
returns-clause-spare g c =
    let v : Visit c.args.place c.args.shape.now c.args.spare.now c.exchange_at.new.leaf c.enter_leaf-entered.new.leaf c.exchange_at-2.new.leaf c.args.node.now c.exchange_at.new.node c.enter_leaf-entered.new.node c.exchange_at-2.new.node =
    record { first = c.exchange_at.ensures; then = c.exchange_at-2.ensures; idle = c.requires.spare; beside = c.enter_leaf-entered.ensures.beside; own = c.enter_leaf-entered.ensures.own; out = c.enter_leaf-entered.ensures.out } in
    visit-spare c.args.spare.now c.exchange_at.new.leaf c.enter_leaf-entered.new.leaf c.exchange_at-2.new.leaf c.args.node.now c.exchange_at.new.node c.enter_leaf-entered.new.node c.exchange_at-2.new.node v

pub returns-clause-beside : goal.returns-clause-beside
returns-clause-beside g c =
    let v : Visit c.args.place c.args.shape.now c.args.spare.now c.exchange_at.new.leaf c.enter_leaf-entered.new.leaf c.exchange_at-2.new.leaf c.args.node.now c.exchange_at.new.node c.enter_leaf-entered.new.node c.exchange_at-2.new.node =
    record { first = c.exchange_at.ensures; then = c.exchange_at-2.ensures; idle = c.requires.spare; beside = c.enter_leaf-entered.ensures.beside; own = c.enter_leaf-entered.ensures.own; out = c.enter_leaf-entered.ensures.out } in
    visit-beside v

pub returns-clause-came : goal.returns-clause-came
returns-clause-came g c x h = subst (λ v. IsWord v c.enter_leaf-entered.result.wrote c.enter_leaf-entered.result.came) (nth-same c.exchange_at.ensures.seat h) c.enter_leaf-entered.ensures.came
