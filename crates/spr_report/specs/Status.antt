-- The numbers of the statuses.
use Rattle.std.specs.Prelude.{ℕ}
use Rattle.spr_report.specs.declared.status.Status.{Status}
use Rattle.spr_report.specs.declared.status.Status.TheVariants.{Good, Faulted, Usage, Refused, ShelfFault, BayFault, BadImage, SinkFault, Memory}

-- the number that a status is printed as
abbrev pub number_of : Status → ℕ
number_of Good = 0
number_of Faulted = 1
number_of Usage = 2
number_of Refused = 3
number_of ShelfFault = 4
number_of BayFault = 5
number_of BadImage = 6
number_of SinkFault = 7
number_of Memory = 8
