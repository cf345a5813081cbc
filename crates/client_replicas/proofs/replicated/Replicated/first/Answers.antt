use Rattle.std.proofs.Common.{◌≡◌, sym, ap, subst, ◌∙◌, List, ℕ, ◌∷◌}
use Rattle.client_replicas.specs.declared.door.OpenDoor.{OpenDoor}
use Rattle.client_replicas.proofs.OpenLaws.{first-door}
use Rattle.client_replicas.proofs.replicated.Replicated.first.Goals as goal

pub returns : goal.returns
returns c =
    let is = c.doors_len-doors.ensures.is in
    let found = first-door c.self.inside.domain c.self.inside.replicon.doors c.self.inside.replicon.lives c.in-Ok.route c.in-Ok.ensures is.lives in
    (found.0, sym c.self.view_is ∙ (found.1 ∙ ap (λ (n : ℕ). let d : OpenDoor = record { view = c.in-Ok.route.node; file = c.in-Ok.route.file; life = n } in d ∷ found.0) (sym c.life.ensures)))
