use Rattle.std.proofs.Common.{◌≡◌, ◌++◌, drop, map}
use Rattle.spr_report.specs.NamesLines.{name_lines, names_part}
use Rattle.spr_report.proofs.names_lines.put_names.Given as goal

-- what is written and what is left to write are the whole
abbrev pub invariant-loop-place : goal.invariant-loop-place
invariant-loop-place l = l.out.items ++ name_lines (map (λ name. name.now) l.callers) l.place (drop l.place l.names.history)
    ≡ l.fn.out.items ++ names_part (map (λ name. name.now) l.callers) l.names.history
