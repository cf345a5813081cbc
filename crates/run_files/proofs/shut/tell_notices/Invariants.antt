use Rattle.std.proofs.Common.{◌≡◌, [], get_or, map}
use Rattle.std.specs.List.{flat_map, range_with_len}
use Rattle.spr_report.specs.Writing.{with_text}
use Rattle.file_stores.specs.Notices.{notice_lines}
use Rattle.run_files.proofs.shut.tell_notices.Given as goal

-- the lines of the files so far are written
abbrev pub invariant-loop-file : goal.invariant-loop-file
invariant-loop-file g l = g.N.Sink.told l.sink ≡ with_text (g.N.Sink.told l.fn.sink) (flat_map (λ file. notice_lines l.mount file (get_or (map (λ f. f.items) l.files) file [])) (range_with_len 0 l.file))
