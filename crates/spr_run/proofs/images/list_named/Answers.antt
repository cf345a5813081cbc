use Rattle.spr_run.specs.Ways.{outside}
use Rattle.spr_run.proofs.WayLaws.{ends-lists}
use Rattle.spr_run.proofs.images.list_named.Goals as goal

pub returns-in-Ok : goal.returns-in-Ok
returns-in-Ok g c =
    let o = outside (g.H.Shelf.told c.args.shelf.now) (g.H.Shelf.told c.read_stack.new.shelf) (g.B.Bay.told c.args.bay.now) (g.B.Bay.told c.list_disks.new.bay) in
    record { ends = ends-lists c.args.name.now o c.in-Ok.mount (g.K.Sink.told c.args.sink.now) (g.K.Sink.told c.list_disks.new.sink) c.list_disks.result c.in-Ok.ensures.mounted c.in-Ok.ensures.calm c.list_disks.ensures.tells }
