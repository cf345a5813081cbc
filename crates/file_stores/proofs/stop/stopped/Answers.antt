use Rattle.std.proofs.Common.{subst}
use Rattle.spr_report.specs.declared.status.Status.{Status}
use Rattle.spr_report.specs.Writing.{Finishes}
use Rattle.file_stores.specs.Stop.{cause_text, lost_text, stop_status}
use Rattle.file_stores.proofs.StopLaws.{finishes-then, finishes-broke}
use Rattle.file_stores.proofs.stop.stopped.Goals as goal

pub returns-in-Ok : goal.returns-in-Ok
returns-in-Ok g c =
    let before = g.K.Sink.told c.args.sink.now in
    let mid = g.K.Sink.told c.write_cause.new.sink in
    let now = g.K.Sink.told c.finish_lost.new.sink in
    let lost = lost_text c.args.mount.now c.args.lost.now in
    finishes-then before mid now (cause_text c.args.mount.now c.args.stop) lost (stop_status c.args.stop) c.finish_lost.result c.in-Ok.ensures
    (subst (λ (s : Status). Finishes mid now lost s c.finish_lost.result) c.status.ensures c.finish_lost.ensures)

pub returns-in-Err : goal.returns-in-Err
returns-in-Err g c =
    finishes-broke (g.K.Sink.told c.args.sink.now) (g.K.Sink.told c.write_cause.new.sink) (cause_text c.args.mount.now c.args.stop) (lost_text c.args.mount.now c.args.lost.now) (stop_status c.args.stop) c.in-Err.ensures
