use Rattle.std.proofs.Common.{◌≡◌, take}
use Rattle.std.specs.List.{flat_map}
use Rattle.spr_report.specs.Report.{lost_line}
use Rattle.spr_report.specs.Writing.{with_text}
use Rattle.spr_report.proofs.writing.write_lost.Given as goal

-- the lines of the first stores are written
abbrev pub invariant-loop-one : goal.invariant-loop-one
invariant-loop-one g l = g.K.Sink.told l.sink ≡ with_text (g.K.Sink.told l.fn.sink) (flat_map (lost_line l.mount) (take l.one-index l.lost))
