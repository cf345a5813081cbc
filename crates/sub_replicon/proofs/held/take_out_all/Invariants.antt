use Rattle.std.proofs.Common.{take}
use Rattle.sub_replicon.specs.Domains.{AreHeld, Leave}
use Rattle.sub_replicon.proofs.held.take_out_all.Given as goal

abbrev pub invariant-loop-id : goal.invariant-loop-id
invariant-loop-id l = record { held : AreHeld l.fn.domain (take l.id-index l.ids); leave : Leave (take l.id-index l.ids) l.fn.domain l.domain }
