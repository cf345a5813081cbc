use Rattle.std.proofs.Common.{IfSome, Option, subst, sym}
use Rattle.tower_log.specs.Log.{trail_of}
use Rattle.spr_report.specs.Tracing.{Tracing, AreNextOf}
use Rattle.spr_report.proofs.Traces.{start_traced}
use Rattle.spr_report.proofs.whole.put_file.Goals as goal

pub put_entries-requires : goal.put_entries-requires
put_entries-requires c =
    subst (λ (t : Option Tracing). IfSome t (λ t. AreNextOf t (trail_of c.args.log.now.log))) (sym c.in_ok-tracer.ensures)
    (start_traced c.args.run.now.mount.now c.args.run.now.traced c.args.number c.args.file.now c.args.log.now.log c.requires.log)
