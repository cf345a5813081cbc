use Rattle.std.proofs.Common.{◌≡◌, true, refl, sym, subst}
use Rattle.mirror_rules.specs.Tree.{seats}
use Rattle.mirror_rules.specs.Claims.{Every}
use Rattle.mirror_rules.proofs.RoundLaws.{live-tree}
use Rattle.mirror_layer.specs.View.{Beside, beside_in, tree_of}
use Rattle.mirror_layer.specs.Calls.{all_told}
use Rattle.mirror_layer.specs.Winning.{Below, WaitsUnder}
use Rattle.mirror_layer.proofs.WinSteps.{row-waits}
use Rattle.mirror_layer.proofs.AdmitSteps.{most-best, best-reached, wins-live, admits-by}
use Rattle.mirror_layer.proofs.CameSteps.{admits-come}
use Rattle.mirror_layer.proofs.admit.admit.Goals as goal

pub win-requires : goal.win-requires
win-requires g c = subst (λ n. WaitsUnder n c.args.node.now) (sym c.requires.best) (row-waits _ c.args.node.now (most-best (seats (tree_of c.args.node.now))) c.requires.waits)

pub unreachable-requires : goal.unreachable-requires
unreachable-requires g c =
    let l = c.if-not-win.ensures.lost refl in
    best-reached (seats (tree_of c.args.node.now)) (subst (λ n. Every (Below n) (seats (tree_of c.args.node.now))) c.requires.best l.0) c.requires.good

pub enter_all-requires-clause-live : goal.enter_all-requires-clause-live
enter_all-requires-clause-live g c = live-tree (tree_of c.win.new.node) (wins-live (c.if-not-win.ensures.won refl).2)

pub enter_all-requires-clause-shapes : goal.enter_all-requires-clause-shapes
enter_all-requires-clause-shapes g c = subst (λ bs. Every (λ (b : Beside). b.shape ≡ c.args.shape.now) bs) (sym c.win.ensures.beside) c.requires.shapes

pub returns-clause-admits : goal.returns-clause-admits
returns-clause-admits g c told h = admits-by (c.if-not-win.ensures.won refl) (c.enter_all.ensures.enters told (λ t. subst (λ bs. all_told bs ≡ true) (sym c.win.ensures.beside) (h t)))

pub returns-clause-came : goal.returns-clause-came
returns-clause-came g c =
    let w = c.if-not-win.ensures.won refl in
    admits-come c.args.shape.now.pages (beside_in c.win.new.node) (beside_in c.args.node.now) (seats (tree_of c.args.node.now)) (seats (tree_of c.enter_all.new.node)) c.enter_all.new.came c.enter_all.result.outcome c.win.ensures.beside (w.0, w.2) c.enter_all.ensures.came
