use Rattle.std.proofs.Common.{◌≡◌, ◌++◌, List, ℕ, subst, ◌∙◌}
use Rattle.spr_report.specs.Writing.{Finishes}
use Rattle.file_stores.specs.Stop.{lost_text}
use Rattle.run_files.specs.Sums.{told, untold}
use Rattle.run_files.proofs.sums.tell_sum.Goals as goal

pub returns-in-Ok : goal.returns-in-Ok
returns-in-Ok g c =
    told c.in-Ok.ensures.0 c.in-Ok.ensures.1
    (subst (λ (text : List ℕ). Finishes (g.K.Sink.told c.args.sink.now) (g.K.Sink.told c.tell_text.new.sink) (text ++ lost_text c.args.given.now.mount.now c.args.lost.now) c.args.status c.tell_text.result) (c.deref.ensures.value ∙ c.in-Ok.ensures.2) c.tell_text.ensures)

pub returns-in-Err : goal.returns-in-Err
returns-in-Err g c = untold c.finish_lost.ensures
