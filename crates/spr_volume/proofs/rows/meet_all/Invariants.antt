use Rattle.std.proofs.Common.{length}
use Rattle.spr_volume.proofs.RowLemmas.{MeetsSoFar}
use Rattle.spr_volume.proofs.rows.meet_all.Given as goal

-- the seats from some index on are met
abbrev pub invariant-loop-other : goal.invariant-loop-other
invariant-loop-other g l = MeetsSoFar l.initial.seats.items l.seats.items l.initial.others.items l.others.items

abbrev pub decreases-loop-other : goal.decreases-loop-other
decreases-loop-other g l = length l.others.items
