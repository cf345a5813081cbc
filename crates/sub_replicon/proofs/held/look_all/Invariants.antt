use Rattle.std.proofs.Common.{◌≡◌, length, take}
use Rattle.sub_replicon.specs.Domains.{Holds}
use Rattle.sub_replicon.proofs.held.look_all.Given as goal

abbrev pub invariant-loop-id : goal.invariant-loop-id
invariant-loop-id l = record { holds : Holds l.domain (take l.id-index l.ids) l.doors; len : length l.doors ≡ l.id-index }
