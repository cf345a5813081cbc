use Rattle.std.proofs.Common.{◌≡◌, ◌++◌, drop, map}
use Rattle.spr_report.specs.Report.{client_parts}
use Rattle.spr_report.proofs.whole.put_clients.Given as goal

-- what is written and what is left to write are the whole
abbrev pub invariant-loop-text : goal.invariant-loop-text
invariant-loop-text g l =
    l.out.items ++ client_parts l.run.mount.now.disks (drop l.text-index l.run.script.now.clients) (drop l.text-index (map (λ v. v.items) l.run.said.now))
    ≡ l.fn.out.items ++ client_parts l.run.mount.now.disks l.run.script.now.clients (map (λ v. v.items) l.run.said.now)
