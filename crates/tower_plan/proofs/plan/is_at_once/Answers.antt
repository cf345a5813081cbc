use Rattle.std.proofs.Common.{◌≡◌, Bool, true, false, IsTrue, not, refl, sym, ap, ◌∙◌}
use Rattle.std.proofs.lemmas.Bool.{false≢true}
use Rattle.tower_core.specs.declared.right.Right.{Right}
use Rattle.tower_plan.specs.Plan.{lacks}
use Rattle.tower_plan.proofs.Rules.{at_once}
use Rattle.tower_plan.proofs.plan.is_at_once.Goals as goal

is_false : (b : Bool) → IsTrue (not b) → b ≡ false
is_false true h = absurd (false≢true h)
is_false false h = refl

pub returns-then-not-lacks : goal.returns-then-not-lacks
returns-then-not-lacks g c = λ free.
    let s = g.R.Rights.state c.args.rights.now in
    let has : lacks c.args.want ((s.column c.args.page).right c.args.node) ≡ false =
    ap (λ (r : Right). lacks c.args.want r) (sym c.right.ensures) ∙ (sym c.lacks.ensures ∙ c.if-not-lacks.true) in
    at_once c.args.tree.now (g.R.Rights.page_count c.args.rights.now) s c.args.node c.args.page c.args.want s.len c.is_hindered_below.ensures.tree c.requires.upper c.requires.coherent c.requires.want
    has (c.is_hindered_below.ensures.free (is_false c.is_hindered_below.result free))
