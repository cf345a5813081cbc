use Rattle.std.proofs.Common.{[]}
use Rattle.file_stores.specs.declared.stop.Stop.TheVariants as stops
use Rattle.file_stores.specs.Keys.{stores_of}
use Rattle.file_stores.proofs.ReturnLaws.{no-memory}
use Rattle.run_files.proofs.StopLaws.{untaken-writes}
use Rattle.run_files.proofs.SumLaws.{wanted-stopped}
use Rattle.run_files.proofs.run.run_as.Goals as goal

pub returns-in_default : goal.returns-in_default
returns-in_default g c =
    let mount = c.args.given.now.mount.now in
    let bay = g.B.Bay.told c.args.bay.now in
    let old = g.K.Sink.told c.args.sink.now in
    let new = g.K.Sink.told c.stopped.new.sink in
    wanted-stopped mount c.args.loss c.args.given.now.script.now c.args.given.now.ops.now c.args.wanted bay bay old new (g.N.Sink.told c.args.notices.now) c.stopped.result (untaken-writes mount bay bay [] stops.Memory old new c.stopped.result (no-memory mount bay (stores_of mount)) c.stopped.ensures)

pub returns-in_default-room_for_stores : goal.returns-in_default-room_for_stores
returns-in_default-room_for_stores g c =
    let mount = c.args.given.now.mount.now in
    let bay = g.B.Bay.told c.args.bay.now in
    let old = g.K.Sink.told c.args.sink.now in
    let new = g.K.Sink.told c.stopped-in_default-room_for_stores.new.sink in
    wanted-stopped mount c.args.loss c.args.given.now.script.now c.args.given.now.ops.now c.args.wanted bay bay old new (g.N.Sink.told c.args.notices.now) c.stopped-in_default-room_for_stores.result (untaken-writes mount bay bay [] stops.Memory old new c.stopped-in_default-room_for_stores.result (no-memory mount bay (stores_of mount)) c.stopped-in_default-room_for_stores.ensures)
