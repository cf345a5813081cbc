use Rattle.std.proofs.Common.{[], length}
use Rattle.file_stores.specs.declared.stop.Stop.TheVariants as stops
use Rattle.file_stores.specs.Keys.{stores_of_file}
use Rattle.file_stores.proofs.NoticeLaws.{written-alone}
use Rattle.file_stores.proofs.ReturnLaws.{no-memory}
use Rattle.image_commands.specs.Says.{SaysDump}
use Rattle.image_commands.proofs.FileLaws.{dumps-untaken}
use Rattle.image_commands.proofs.dumping.dump_file.Goals as goal

pub returns-in-Err : goal.returns-in-Err
returns-in-Err g c =
    let mount = c.args.mount.now in
    let bay = g.B.Bay.told c.args.bay.now in
    let old = g.K.Sink.told c.args.sink.now in
    let new = g.K.Sink.told c.stopped.new.sink in
    record {
      dumps = written-alone (SaysDump mount bay bay c.args.file) old new (g.N.Sink.told c.args.notices.now) c.stopped.result
          (dumps-untaken mount bay bay c.args.file [] stops.Memory old new c.stopped.result (no-memory mount bay (stores_of_file (length mount.disks) c.args.file)) c.stopped.ensures);
    }
