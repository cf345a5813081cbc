use Rattle.file_stores.specs.Stop.{lost_text}
use Rattle.file_stores.proofs.StopLaws.{finishes-then, finishes-broke}
use Rattle.run_files.proofs.sums.tell_text.Goals as goal

pub returns-in-Ok : goal.returns-in-Ok
returns-in-Ok g c =
    finishes-then (g.K.Sink.told c.args.sink.now) (g.K.Sink.told c.write_all.new.sink) (g.K.Sink.told c.finish_lost.new.sink) c.args.text.now (lost_text c.args.mount.now c.args.lost.now) c.args.status c.finish_lost.result c.in-Ok.ensures c.finish_lost.ensures

pub returns-in-Err : goal.returns-in-Err
returns-in-Err g c =
    finishes-broke (g.K.Sink.told c.args.sink.now) (g.K.Sink.told c.write_all.new.sink) c.args.text.now (lost_text c.args.mount.now c.args.lost.now) c.args.status c.in-Err.ensures
