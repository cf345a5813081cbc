use Rattle.std.proofs.Common.{◌+◌, ◌*◌, length, max}
use Rattle.run_phases.specs.Parts.{slot_len}
use Rattle.run_phases.proofs.parts.+parts.Given as goal

abbrev pub decreases-run_part : goal.decreases-run_part
decreases-run_part g l = 4 * length l.part.workers.items

abbrev pub decreases-run_slot : goal.decreases-run_slot
decreases-run_slot g l = 4 * slot_len l.slot.now + 1

abbrev pub decreases-run_halves : goal.decreases-run_halves
decreases-run_halves g l = 4 * max (length l.low.workers.items) (length l.high.workers.items) + 3

abbrev pub decreases-run_halves-for_each_mut : goal.decreases-run_halves-for_each_mut
decreases-run_halves-for_each_mut g l = 4 * l.most + 2
