use Rattle.std.proofs.Common.{◌≡◌, ◌++◌, take}
use Rattle.std.specs.List.{flat_map}
use Rattle.spr_report.specs.Report.{lost_line}
use Rattle.spr_report.proofs.whole.put_lost.Given as goal

abbrev pub invariant-loop-one : goal.invariant-loop-one
invariant-loop-one l = l.out.items ≡ l.fn.out.items ++ flat_map (lost_line l.mount) (take l.one-index l.lost)
