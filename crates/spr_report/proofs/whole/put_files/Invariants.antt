use Rattle.std.proofs.Common.{◌≡◌, ◌++◌, drop, map}
use Rattle.spr_report.specs.Report.{file_parts}
use Rattle.spr_report.proofs.whole.put_files.Given as goal

-- what is written and what is left to write are the whole
abbrev pub invariant-loop-text : goal.invariant-loop-text
invariant-loop-text g l =
    l.out.items ++ file_parts (map (λ n. n.now) l.names.callers.now) l.run.mount.now l.run.traced l.text-index (drop l.text-index l.run.mount.now.files) (drop l.text-index (map (λ t. t.log) l.run.logs.now))
    ≡ l.fn.out.items ++ file_parts (map (λ n. n.now) l.names.callers.now) l.run.mount.now l.run.traced 0 l.run.mount.now.files (map (λ t. t.log) l.run.logs.now)
