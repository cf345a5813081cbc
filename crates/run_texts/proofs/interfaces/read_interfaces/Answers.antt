use Rattle.std.proofs.Common.{ℕ, List, IfErr, subst}
use Rattle.run_texts.specs.Interfaces.{RefusesOps}
use Rattle.run_texts.proofs.OpsCauses.{ops-causes}
use Rattle.run_texts.proofs.interfaces.read_interfaces.Goals as goal

pub returns-clause-err : goal.returns-clause-err
returns-clause-err g c =
    let refused = subst (λ (text : List ℕ). IfErr c.ops_in.result (RefusesOps text)) c.deref.ensures.value c.ops_in.ensures.err in
    ops-causes (g.H.Shelf.told c.args.shelf.now) (g.H.Shelf.told c.read_text.new.shelf) c.args.name.now c.in_ok-text.text.items c.in_ok-text.ensures.calm c.in_ok-text.ensures.text c.ops_in.result refused
