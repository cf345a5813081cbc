use Rattle.std.proofs.Common.{ap, ◌∙◌}
use Rattle.std.proofs.lemmas.Result.{on_ok_weaker}
use Rattle.spr_io.specs.Content.{flushed}
use Rattle.disk_format.specs.Shape.{first_data}
use Rattle.disk_layer.specs.Disk.{formatted}
use Rattle.disk_layer.proofs.RenewLaws.{formatted-over}
use Rattle.disk_layer.proofs.fresh.write_over.Goals as goal

pub returns-clause-ok : goal.returns-clause-ok
returns-clause-ok g c =
    let shape = c.args.shape.now in
    on_ok_weaker c.write_blocks.result
    (λ e. e ∙ ap (λ v. flushed v) (ap (λ v. formatted shape (first_data shape) v) c.in_ok-write.ensures.ok ∙ formatted-over shape c.args.zeros.now (g.S.Store.content c.args.store.now)))
    c.write_blocks.ensures.ok
