use Rattle.std.proofs.Common.{subst}
use Rattle.spr_report.specs.declared.status.Status.{Status}
use Rattle.spr_report.specs.Writing.{Finishes}
use Rattle.file_stores.specs.Stop.{lost_text}
use Rattle.file_stores.proofs.StopLaws.{finishes-then, finishes-broke}
use Rattle.image_commands.specs.Told.{done_status}
use Rattle.image_commands.proofs.told.tell.Goals as goal

pub returns-in-Ok : goal.returns-in-Ok
returns-in-Ok g c =
    let before = g.K.Sink.told c.args.sink.now in
    let mid = g.K.Sink.told c.write_all.new.sink in
    let now = g.K.Sink.told c.finish_lost.new.sink in
    let lost = lost_text c.args.mount.now c.args.lost.now in
    finishes-then before mid now c.args.text.now lost (done_status c.args.lost.now) c.finish_lost.result c.in-Ok.ensures
    (subst (λ (s : Status). Finishes mid now lost s c.finish_lost.result) c.done_status.ensures c.finish_lost.ensures)

pub returns-in-Err : goal.returns-in-Err
returns-in-Err g c =
    finishes-broke (g.K.Sink.told c.args.sink.now) (g.K.Sink.told c.write_all.new.sink) c.args.text.now (lost_text c.args.mount.now c.args.lost.now) (done_status c.args.lost.now) c.in-Err.ensures
