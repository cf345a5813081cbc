use Rattle.std.proofs.Common.{List, subst, ◌∙◌}
use Rattle.script_meaning.specs.declared.store.StoreKey.{StoreKey}
use Rattle.spr_report.specs.declared.status.Status.TheVariants.{Memory}
use Rattle.spr_report.specs.Writing.{Finishes}
use Rattle.file_stores.specs.Stop.{lost_text}
use Rattle.image_looks.proofs.disks.tell_lack.Goals as goal

pub returns : goal.returns
returns g c =
    subst (λ (l : List StoreKey). Finishes (g.K.Sink.told c.args.sink.now) (g.K.Sink.told c.stopped.new.sink) (lost_text c.args.mount.now l) Memory c.stopped.result) (c.deref.ensures.value ∙ c.list_lost.ensures) c.stopped.ensures
