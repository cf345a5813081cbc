use Rattle.std.proofs.Common.{List, length, take, subst, ap, ◌∙◌, arith}
use Rattle.script_meaning.specs.declared.store.StoreKey.{StoreKey}
use Rattle.file_stores.specs.declared.stop.Stop.{Stop}
use Rattle.file_stores.specs.Held.{StoreSeen, IsUntaken}
use Rattle.file_stores.specs.Stop.{stop_text, stop_status}
use Rattle.spr_report.specs.Writing.{Finishes}
use Rattle.file_stores.proofs.ReturnLaws.{stops-taking}
use Rattle.image_commands.proofs.SaysLaws.{formats-not, untaken-formats}
use Rattle.image_commands.proofs.formatting.format_all.Goals as goal

pub format_taken-requires-clause-fit : goal.format_taken-requires-clause-fit
format_taken-requires-clause-fit g c κs within at store is = (c.in-Ok.ensures.out.each at store is).fits

pub returns-in-Ok : goal.returns-in-Ok
returns-in-Ok g c =
    let calm = c.in-Ok.ensures.calm in
    c.format_taken.ensures.ended (g.B.Bay.told c.args.bay.now) c.in-Ok.ensures.out (omega (arith, calm))

pub returns-in-Err : goal.returns-in-Err
returns-in-Err g c =
    let mount = c.args.mount.now in
    let before = g.B.Bay.told c.args.bay.now in
    let mid = g.B.Bay.told c.take_stores.new.bay in
    let after = g.B.Bay.told c.give_back.new.bay in
    let keys : List StoreKey = c.args.room.keys.items in
    let taken : List StoreSeen = c.take_stores.new.stores.items in
    let lost : List StoreKey = c.give_back.new.lost.items in
    let stop : Stop = c.in-Err.stop in
    let items = c.deref.ensures.value in
    let old = g.K.Sink.told c.args.sink.now in
    let new = g.K.Sink.told c.stopped.new.sink in
    let cause = subst (λ (ks : List StoreKey). IsUntaken ks (length taken) before mid stop) items c.in-Err.ensures.cause in
    let first = c.in-Err.ensures.first ∙ ap (take (length taken)) items in
    let stops = stops-taking mount before mid after keys lost taken stop c.in-Err.ensures.out first cause c.give_back.ensures in
    formats-not mount before after keys lost stop old new c.stopped.result (untaken-formats mount before after keys lost (length taken) mid stop cause stops)
    (subst (λ (l : List StoreKey). Finishes old new (stop_text mount stop l) (stop_status stop) c.stopped.result) c.deref-in-Err.ensures.value c.stopped.ensures)
