use Rattle.std.proofs.Common.{◌≡◌, ◌++◌, drop}
use Rattle.spr_report.specs.Report.{closing_lines}
use Rattle.spr_report.proofs.whole.put_closings.Given as goal

-- what is written and what is left to write are the whole
abbrev pub invariant-loop-i : goal.invariant-loop-i
invariant-loop-i l = l.out.items ++ closing_lines l.disks (drop l.i l.files) (drop l.i l.closing) ≡ l.fn.out.items ++ closing_lines l.disks l.files l.closing
