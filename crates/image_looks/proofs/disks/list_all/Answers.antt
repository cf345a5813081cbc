use Rattle.std.proofs.Common.{List, subst, ◌∙◌}
use Rattle.image_looks.specs.declared.found.Look.{Look}
use Rattle.image_looks.specs.Disks.{TellsLooks}
use Rattle.image_looks.proofs.TellLaws.{tells-of}
use Rattle.image_looks.proofs.disks.list_all.Goals as goal

pub returns : goal.returns
returns g c =
    let looks : List Look = c.look_all.new.looks.items in
    let old = g.K.Sink.told c.args.sink.now in
    let new = g.K.Sink.told c.tell_looks.new.sink in
    tells-of c.args.mount.now (g.B.Bay.told c.args.bay.now) (g.B.Bay.told c.look_all.new.bay) looks old new c.tell_looks.result c.look_all.ensures.looked (c.look_all.ensures.stores ∙ (c.deref.ensures.value ∙ c.requires.value))
    (subst (λ (l : List Look). TellsLooks c.args.mount.now l old new c.tell_looks.result) c.deref-2.ensures.value c.tell_looks.ensures)
