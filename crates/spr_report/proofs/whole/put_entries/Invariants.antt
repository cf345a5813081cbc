use Rattle.std.proofs.Common.{◌≡◌, ◌++◌, IfSome, drop, map}
use Rattle.tower_log.specs.Log.{entries_of}
use Rattle.script_meaning.specs.Stack.{node_names}
use Rattle.spr_report.specs.Report.{entry_lines}
use Rattle.spr_report.specs.Tracing.{AreNextOf}
use Rattle.spr_report.specs.Traced.{traced_by}
use Rattle.spr_report.proofs.whole.put_entries.Given as goal

-- what is written and what is left to write are the whole, and what is left may come next
abbrev pub invariant-loop-place : goal.invariant-loop-place
invariant-loop-place l = record {
  whole : l.out.items ++ entry_lines (map (λ n. n.now) l.names.callers.now) (node_names l.names.nodes.now) l.place (traced_by l.tracer) (drop l.place (entries_of l.log.log))
      ≡ l.fn.out.items ++ entry_lines (map (λ n. n.now) l.names.callers.now) (node_names l.names.nodes.now) 0 (traced_by l.fn.tracer) (entries_of l.log.log);
  next : IfSome (traced_by l.tracer) (λ t. AreNextOf t (map (λ e. e.event) (drop l.place (entries_of l.log.log))));
}
