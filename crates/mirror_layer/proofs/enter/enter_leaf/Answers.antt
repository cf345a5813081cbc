use Rattle.std.proofs.Common.{◌≡◌, true, false, nat_eq, refl, sym, ap}
use Rattle.std.specs.Prelude.{eqb}
use Rattle.mirror_rules.specs.Tree.{seats, In, Out, Down, closed}
use Rattle.mirror_rules.specs.Opening.{passed_live, passed_out}
use Rattle.mirror_layer.specs.View.{cell_of, tree_of, why_of, store_of}
use Rattle.mirror_layer.proofs.EnterSteps.{entered-any, stayed}
use Rattle.mirror_layer.proofs.enter.enter_leaf.Goals as goal

pub join-joined-requires-clause-live : goal.join-joined-requires-clause-live
join-joined-requires-clause-live g c = c.requires.live (cell_of c.in-Opened.disk) (rw (c.in-Opened.is, c.in-Left.is) refl)

pub returns-in-Left-clause-enters : goal.returns-in-Left-clause-enters
returns-in-Left-clause-enters g c told h i b s k =
    let e : eqb c.in-Opened.disk.generation c.args.generation ≡ nat_eq c.level.result c.args.generation = ap (λ n. eqb n c.args.generation) (sym c.level.ensures.level) in
    rw (c.in-Opened.is, c.in-Left.is, c.mark_joined-outcome.ensures.answer, c.mark_joined-outcome.ensures.seat (cell_of c.join-joined.new.disk)) (entered-any (cell_of c.in-Opened.disk) (cell_of c.join-joined.new.disk) c.join-joined.result.outcome (seats (tree_of c.join-joined.new.node)) (c.join-joined.ensures.joins told (rw c.in-Opened.is at h)) e k)

pub returns-in-Live-clause-enters : goal.returns-in-Live-clause-enters
returns-in-Live-clause-enters g c told h i b s k = rw (c.in-Opened.is, c.in-Live.is) (stayed (In true (cell_of c.in-Opened.disk)) passed_live k)

pub returns-in-Down-clause-enters : goal.returns-in-Down-clause-enters
returns-in-Down-clause-enters g c told h i b s k = rw (c.in-Opened.is, c.in-Down.is) (stayed (Out Down (closed (In false (cell_of c.in-Opened.disk)))) passed_out k)

pub returns-in-Shut-clause-enters : goal.returns-in-Shut-clause-enters
returns-in-Shut-clause-enters g c told h i b s k = rw c.in-Shut.is (stayed (Out (why_of c.in-Shut.field-0) (store_of c.in-Shut.field-0)) passed_out k)
