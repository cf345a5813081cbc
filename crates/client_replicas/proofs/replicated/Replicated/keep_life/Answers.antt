use Rattle.std.proofs.Common.{◌≡◌, ◌≤◌, length, sym, ap, subst, ◌∙◌, List, ℕ, arith}
use Rattle.sub_replicon.specs.Replicas.{Replicas}
use Rattle.sub_replicon.specs.Domains.{doors_in}
use Rattle.client_replicas.specs.declared.door.OpenDoor.{OpenDoor}
use Rattle.client_replicas.specs.OpenDoors.{open_doors, with_life}
use Rattle.client_replicas.proofs.OpenLaws.{all-doors, kept-life, no-door}
use Rattle.client_replicas.proofs.replicated.Replicated.keep_life.Goals as goal

pub returns-then-k-doors_len : goal.returns-then-k-doors_len
returns-then-k-doors_len c =
    ap (λ (r : Replicas). open_doors (doors_in c.self.inside.domain r.doors) r.lives) c.keep_life.ensures
    ∙ (kept-life c.self.inside.domain c.self.inside.replicon.doors c.self.inside.replicon.lives c.args.k c.args.life
    ∙ ap (λ (ds : List OpenDoor). with_life c.args.k c.args.life ds) c.self.view_is)

pub returns-else-k-doors_len : goal.returns-else-k-doors_len
returns-else-k-doors_len c =
    let all = all-doors c.self.inside.domain c.self.inside.replicon.doors c.self.inside.replicon.lives c.doors_len.ensures.is.lives in
    let same : length c.args.self.now ≡ length c.self.inside.replicon.doors = ap length (sym c.self.view_is) ∙ all in
    let value = c.doors_len.ensures.value in
    let no = c.if-k-doors_len.false in
    no-door c.args.k c.args.life c.args.self.now (omega (arith, same, value, no))
