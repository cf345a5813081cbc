use Rattle.std.proofs.Common.{[], inl}
use Rattle.file_stores.specs.declared.stop.Stop.TheVariants as stops
use Rattle.file_stores.specs.Keys.{stores_of}
use Rattle.file_stores.proofs.ReturnLaws.{no-memory}
use Rattle.image_commands.proofs.SaysLaws.{formats-not}
use Rattle.image_commands.proofs.formatting.format_files.Goals as goal

pub returns-in-Err : goal.returns-in-Err
returns-in-Err g c =
    let mount = c.args.mount.now in
    let bay = g.B.Bay.told c.args.bay.now in
    record { formats = formats-not mount bay bay (stores_of mount) [] stops.Memory (g.K.Sink.told c.args.sink.now) (g.K.Sink.told c.stopped.new.sink) c.stopped.result (inl (no-memory mount bay (stores_of mount))) c.stopped.ensures }
