use Rattle.std.proofs.Common.{List, ap, ◌∙◌, ℕ}
use Rattle.sub_replicon.specs.Domains.{doors_in}
use Rattle.sub_replicon.proofs.DomainLaws.{holds_held}
use Rattle.client_replicas.specs.OpenDoors.{open_doors}
use Rattle.client_replicas.proofs.OpenLaws.{begun-fresh}
use Rattle.client_replicas.proofs.replicated.Replicated.new.Goals as goal

pub invariant_of-result : goal.invariant_of-result
invariant_of-result c = holds_held c.new.new.domain c.in_ok-replicon.replicon.doors c.args.doors.now c.in_ok-replicon.ensures.ok.enter.held

pub returns : goal.returns
returns c =
    ap (λ (ls : List ℕ). open_doors (doors_in c.new.new.domain c.in_ok-replicon.replicon.doors) ls) c.in_ok-replicon.ensures.ok.lives
    ∙ begun-fresh c.new.new.domain c.in_ok-replicon.replicon.doors c.args.doors.now c.in_ok-replicon.ensures.ok.enter.held
