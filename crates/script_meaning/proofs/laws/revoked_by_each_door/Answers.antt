use Rattle.script_meaning.proofs.DoorLaws.{drops-over, each-is_told, revoked-by_each}
use Rattle.script_meaning.proofs.laws.revoked_by_each_door.Goals as goal

pub returns-clause-revoked : goal.returns-clause-revoked
returns-clause-revoked c = revoked-by_each

pub returns-clause-told : goal.returns-clause-told
returns-clause-told c = each-is_told

pub returns-clause-drops : goal.returns-clause-drops
returns-clause-drops c = drops-over
