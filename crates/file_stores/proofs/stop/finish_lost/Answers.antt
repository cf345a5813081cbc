use Rattle.std.proofs.Common.{[]}
use Rattle.spr_report.specs.declared.status.Status.TheVariants.{SinkFault}
use Rattle.file_stores.specs.Stop.{lost_text}
use Rattle.file_stores.proofs.StopLaws.{finishes-then, finishes-broke, finishes-alone}
use Rattle.file_stores.proofs.stop.finish_lost.Goals as goal

pub returns-in-Ok : goal.returns-in-Ok
returns-in-Ok g c =
    let before = g.K.Sink.told c.args.sink.now in
    let mid = g.K.Sink.told c.write_lost.new.sink in
    let now = g.K.Sink.told c.finish.new.sink in
    let text = lost_text c.args.mount.now c.args.lost.now in
    finishes-alone before now text c.args.status c.finish.result (finishes-then before mid now text [] c.args.status c.finish.result c.in-Ok.ensures c.finish.ensures)

pub returns-in-Err : goal.returns-in-Err
returns-in-Err g c =
    let before = g.K.Sink.told c.args.sink.now in
    let now = g.K.Sink.told c.write_lost.new.sink in
    let text = lost_text c.args.mount.now c.args.lost.now in
    finishes-alone before now text c.args.status SinkFault (finishes-broke before now text [] c.args.status c.in-Err.ensures)
