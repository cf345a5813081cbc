use Rattle.std.proofs.Common.{◌≡◌, length, take}
use Rattle.std.specs.List.{flat_map}
use Rattle.script_meaning.specs.Fits.{lines_of}
use Rattle.run_phases.proofs.start.lines_of.Given as goal

-- the lines of the phases so far are counted
abbrev pub invariant-loop-phase : goal.invariant-loop-phase
invariant-loop-phase l = l.count ≡ length (flat_map (lines_of l.client) (take l.phase-index l.script.phases))
