use Rattle.std.proofs.Common.{◌≡◌, sym, ap, subst, ◌∙◌, List, ℕ}
use Rattle.sub_core.specs.declared.why.ObjectErr.{ObjectErr}
use Rattle.sub_replicon.specs.Calls.{RefusesHeld}
use Rattle.sub_replicon.specs.Domains.{doors_in}
use Rattle.sub_replicon.proofs.DomainLaws.{holds_held, none_lacking}
use Rattle.client_replicas.specs.OpenDoors.{open_doors}
use Rattle.client_replicas.proofs.OpenLaws.{same-open}
use Rattle.client_replicas.proofs.replicated.Replicated.copy.Goals as goal

pub invariant_of-result : goal.invariant_of-result
invariant_of-result c = let made = c.in-Ok.ensures.ok in holds_held c.copy_into.new.to c.in-Ok.replicon.doors made.doors made.enter.held

pub returns-in-Ok : goal.returns-in-Ok
returns-in-Ok c =
    let made = c.in-Ok.ensures.ok in
    ap (λ (ls : List ℕ). open_doors (doors_in c.copy_into.new.to c.in-Ok.replicon.doors) ls) made.lives
    ∙ (same-open c.self.inside.domain c.copy_into.new.to c.self.inside.replicon.doors c.in-Ok.replicon.doors c.self.inside.replicon.lives made.doors made.held made.enter.held ∙ c.self.view_is)

pub unreachable-requires-in-Err-BadObject : goal.unreachable-requires-in-Err-BadObject
unreachable-requires-in-Err-BadObject c =
    subst (λ (e : ObjectErr). RefusesHeld c.self.inside.domain c.self.inside.replicon.doors e) c.in-Err-BadObject.field-0-is c.in-Err-BadObject.ensures.why

pub unreachable-requires : goal.unreachable-requires
unreachable-requires c =
    let why = subst (λ (e : ObjectErr). RefusesHeld c.self.inside.domain c.self.inside.replicon.doors e) c.in-Err-NoDoor.field-0-is c.in-Err-NoDoor.ensures.why in
    none_lacking c.self.inside.domain c.self.inside.replicon.doors _ c.self.invariant why
