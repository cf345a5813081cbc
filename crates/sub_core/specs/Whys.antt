-- A refusal of a domain, as a refusal of a subcontract.
use Rattle.domain_doors.specs.declared.why.DoorErr.{DoorErr}
use Rattle.domain_doors.specs.declared.why.DoorErr.TheVariants as door_whys
use Rattle.sub_core.specs.declared.why.ObjectErr.{ObjectErr}
use Rattle.sub_core.specs.declared.why.ObjectErr.TheVariants as whys

abbrev pub object_why : DoorErr → ObjectErr
object_why (door_whys.NoDoor id) = whys.NoDoor id
object_why door_whys.Memory = whys.Memory
