use Rattle.std.proofs.Common.{◌≡◌, None, get_or}
use Rattle.std.specs.List.{flat_map, range_with_len}
use Rattle.spr_report.specs.Writing.{with_text}
use Rattle.file_stores.specs.Notices.{notice_line}
use Rattle.file_stores.proofs.notices.write_notices.Given as goal

-- the lines of the disks so far are written
abbrev pub invariant-loop-disk : goal.invariant-loop-disk
invariant-loop-disk g l = g.K.Sink.told l.sink ≡ with_text (g.K.Sink.told l.fn.sink) (flat_map (λ disk. notice_line l.mount l.file disk (get_or l.notices disk None)) (range_with_len 0 l.disk))
