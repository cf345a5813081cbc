use Rattle.std.proofs.Common.{◌≡◌, Bool, true, false, length, sym, ap, subst, ◌∙◌, List, ℕ}
use Rattle.domain_doors.specs.Doors.{Doors}
use Rattle.sub_replicon.specs.Replicas.{IsReplicon, Replicas}
use Rattle.sub_replicon.specs.Domains.{AreHeld, doors_in}
use Rattle.sub_replicon.specs.Calls.{DropsUnlessLast}
use Rattle.client_replicas.specs.declared.door.OpenDoor.{OpenDoor}
use Rattle.client_replicas.specs.OpenDoors.{DropsFirst, open_doors}
use Rattle.client_replicas.proofs.OpenLaws.{all-doors, dropped-first, dropped-held}
use Rattle.client_replicas.proofs.replicated.Replicated.drop_first.Goals as goal

held : (before after : Replicas) (old new : Doors) (b : Bool) → IsReplicon before → AreHeld old before.doors → DropsUnlessLast before after old new b → AreHeld new after.doors
held before after old new true is here drops = dropped-held before after old new is here drops
held before after old new false is here keeps = rw (keeps.object, keeps.domain) here

pub invariant_of-self : goal.invariant_of-self
invariant_of-self c =
    held c.self.inside.replicon c.drop_current.new.self c.self.inside.domain c.drop_current.new.domain c.in-Ok.dropped c.doors_len-doors.ensures.is c.self.invariant c.in-Ok.ensures.ok

pub returns-clause-dropped : goal.returns-clause-dropped
returns-clause-dropped c = λ is.
    let drops = subst (λ (b : Bool). DropsUnlessLast c.self.inside.replicon c.drop_current.new.self c.self.inside.domain c.drop_current.new.domain b) is c.in-Ok.ensures.ok in
    subst (λ (ds : List OpenDoor). DropsFirst ds (open_doors (doors_in c.drop_current.new.domain c.drop_current.new.self.doors) c.drop_current.new.self.lives)) c.self.view_is
    (dropped-first c.self.inside.replicon c.drop_current.new.self c.self.inside.domain c.drop_current.new.domain c.doors_len-doors.ensures.is drops)

pub returns-clause-last : goal.returns-clause-last
returns-clause-last c = λ is.
    let keeps = subst (λ (b : Bool). DropsUnlessLast c.self.inside.replicon c.drop_current.new.self c.self.inside.domain c.drop_current.new.domain b) is c.in-Ok.ensures.ok in
    ap length (sym c.self.view_is) ∙ (all-doors c.self.inside.domain c.self.inside.replicon.doors c.self.inside.replicon.lives c.doors_len-doors.ensures.is.lives ∙ keeps.last)

pub returns-clause-kept : goal.returns-clause-kept
returns-clause-kept c = λ is.
    let keeps = subst (λ (b : Bool). DropsUnlessLast c.self.inside.replicon c.drop_current.new.self c.self.inside.domain c.drop_current.new.domain b) is c.in-Ok.ensures.ok in
    ap (λ (r : Replicas). open_doors (doors_in c.drop_current.new.domain r.doors) r.lives) keeps.object
    ∙ (ap (λ (d : Doors). open_doors (doors_in d c.self.inside.replicon.doors) c.self.inside.replicon.lives) keeps.domain ∙ c.self.view_is)
