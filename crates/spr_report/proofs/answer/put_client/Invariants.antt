use Rattle.std.proofs.Common.{◌≡◌, ◌++◌, ◌∷◌, [], take, codes}
use Rattle.std.specs.List.{flat_map}
use Rattle.text_words.specs.Lines.{line_of}
use Rattle.spr_report.specs.Report.{said_line}
use Rattle.spr_report.proofs.answer.put_client.Given as goal

abbrev pub invariant-loop-one : goal.invariant-loop-one
invariant-loop-one l = l.out.items ≡ l.fn.out.items ++ (line_of (codes "client" ∷ l.name ∷ []) ++ flat_map (said_line l.disks) (take l.one-index l.said))
