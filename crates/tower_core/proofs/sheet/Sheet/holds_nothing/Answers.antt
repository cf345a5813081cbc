use Rattle.std.proofs.Common.{◌∙◌, sym}
use Rattle.std.proofs.lemmas.Bool.{eqb-true, eq-eqb}
use Rattle.tower_core.specs.Sheet.{pages_of, seen}
use Rattle.tower_core.proofs.Held.{none_held, held_none}
use Rattle.tower_core.proofs.sheet.Sheet.holds_nothing.Goals as goal

pub returns : goal.returns
returns c =
    let s = seen c.args.self.now in
    let pages = pages_of c.args.self.now in (
      λ zero. none_held s c.args.node pages (sym c.held.ensures ∙ eqb-true _ _ zero),
      λ none. eq-eqb _ _ (c.held.ensures ∙ held_none s c.args.node pages none),
    )
