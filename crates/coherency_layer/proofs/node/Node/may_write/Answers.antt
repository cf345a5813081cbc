use Rattle.std.proofs.Common.{◌≡◌, subst, sym}
use Rattle.tower_core.specs.declared.right.Right.{Right}
use Rattle.layer_laws.specs.Side.{Side}
use Rattle.page_messages.specs.Rules.{NoKidHolds}
use Rattle.coherency_layer.proofs.node.Node.may_write.Goals as goal

pub returns : goal.returns
returns c =
    let May : Side → Type 0 = λ s. (s.right ≡ Right.Write) × NoKidHolds s in (
      λ t. let both = subst May c.slot.ensures.side (c.may_write.ensures.0 t) in record { inside = c.requires; right = both.0; kids = both.1 },
      λ may. c.may_write.ensures.1 (subst May (sym c.slot.ensures.side) (may.right, may.kids)),
    )
