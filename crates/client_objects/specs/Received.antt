-- Why an object is not received.
use Rattle.std.specs.Prelude.{◌≡◌, Option, None, IsSome}
use Rattle.client_objects.specs.declared.target.Target.{Target}
use Rattle.client_objects.specs.declared.why.NotReceived.{NotReceived}
use Rattle.client_objects.specs.declared.why.NotReceived.TheVariants as whys

-- the names keep no object that can be received, or memory ran out for one that can
abbrev pub RefusesReceived : Option Target → NotReceived → Type 0
RefusesReceived target whys.BadObject = target ≡ None
RefusesReceived target whys.Memory = IsSome target
