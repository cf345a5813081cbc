use Rattle.image_looks.proofs.TellLaws.{tells-none}
use Rattle.image_looks.proofs.disks.list_disks.Goals as goal

pub returns-in-Err : goal.returns-in-Err
returns-in-Err g c = record { tells = tells-none c.args.mount.now (g.B.Bay.told c.args.bay.now) (g.K.Sink.told c.args.sink.now) (g.K.Sink.told c.stopped.new.sink) c.stopped.result c.stopped.ensures }
