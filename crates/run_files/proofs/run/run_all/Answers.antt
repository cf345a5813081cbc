use Rattle.std.proofs.Common.{List, length, take, subst, sym, ap, ◌∙◌, arith}
use Rattle.script_meaning.specs.declared.store.StoreKey.{StoreKey}
use Rattle.spr_report.specs.Writing.{Finishes}
use Rattle.file_stores.specs.declared.stop.Stop.{Stop}
use Rattle.file_stores.specs.Keys.{AreStores, stores_of}
use Rattle.file_stores.specs.Held.{StoreSeen, IsUntaken}
use Rattle.file_stores.specs.Files.{FileSeen}
use Rattle.file_stores.specs.Stops.{Untaken}
use Rattle.run_files.specs.Held.{IsTaken}
use Rattle.file_stores.specs.Stop.{stop_text, stop_status}
use Rattle.file_stores.proofs.ReturnLaws.{stops-taking}
use Rattle.run_files.proofs.StopLaws.{untaken-writes}
use Rattle.run_files.proofs.SumLaws.{wanted-stopped}
use Rattle.run_files.proofs.run.run_all.Goals as goal

pub by_file-requires-clause-stores : goal.by_file-requires-clause-stores
by_file-requires-clause-stores g c κs within = c.in-Ok.ensures.all ∙ (c.deref.ensures.value ∙ c.requires.keys)

pub by_file-requires-clause-fit : goal.by_file-requires-clause-fit
by_file-requires-clause-fit g c κs within at store is = (c.in-Ok.ensures.out.each at store is).fits

pub run_taken-requires-clause-mount : goal.run_taken-requires-clause-mount
run_taken-requires-clause-mount g c κs within = c.requires.stores.sound

pub run_taken-requires-clause-stores : goal.run_taken-requires-clause-stores
run_taken-requires-clause-stores g c κs within = subst (λ (ks : List StoreKey). AreStores c.args.given.now.mount.now ks) c.requires.keys c.requires.stores

pub run_taken-requires-clause-parts : goal.run_taken-requires-clause-parts
run_taken-requires-clause-parts g c κs within = record { number = c.by_file.ensures.number; each = c.by_file.ensures.each }

pub run_taken-requires-clause-back : goal.run_taken-requires-clause-back
run_taken-requires-clause-back g c κs within = let same = ap length c.requires.keys in let room = c.requires.back.1 in (c.requires.back.0, omega (arith, same, room))

pub run_taken-requires-clause-lost : goal.run_taken-requires-clause-lost
run_taken-requires-clause-lost g c κs within = let same = ap length c.requires.keys in let room = c.requires.lost.1 in (c.requires.lost.0, omega (arith, same, room))

pub returns-in-Ok : goal.returns-in-Ok
returns-in-Ok g c =
    let mount = c.args.given.now.mount.now in
    let before = g.B.Bay.told c.args.bay.now in
    let mid = g.B.Bay.told c.take_stores.new.bay in
    let parts : List FileSeen = c.by_file.new.files.items in
    let taken : IsTaken mount before mid (stores_of mount) c.take_stores.new.stores.items =
    record { out = c.in-Ok.ensures.out; which = c.in-Ok.ensures.all ∙ (c.deref.ensures.value ∙ c.requires.keys); calm = c.in-Ok.ensures.calm } in
    c.run_taken.ensures.ended before (subst (λ (ss : List StoreSeen). IsTaken mount before mid (stores_of mount) ss) (sym c.by_file.ensures.all) taken)

pub returns-in-Err : goal.returns-in-Err
returns-in-Err g c =
    let mount = c.args.given.now.mount.now in
    let before = g.B.Bay.told c.args.bay.now in
    let mid = g.B.Bay.told c.take_stores.new.bay in
    let after = g.B.Bay.told c.give_back.new.bay in
    let keys : List StoreKey = c.args.shelves.keys.items in
    let taken : List StoreSeen = c.take_stores.new.stores.items in
    let lost : List StoreKey = c.give_back.new.lost.items in
    let stop : Stop = c.in-Err.stop in
    let items = c.deref.ensures.value in
    let old = g.K.Sink.told c.args.sink.now in
    let new = g.K.Sink.told c.stopped.new.sink in
    let cause = subst (λ (ks : List StoreKey). IsUntaken ks (length taken) before mid stop) items c.in-Err.ensures.cause in
    let first = c.in-Err.ensures.first ∙ ap (take (length taken)) items in
    wanted-stopped mount c.args.asked.loss c.args.given.now.script.now c.args.given.now.ops.now c.args.wanted before after old new (g.N.Sink.told c.args.notices.now) c.stopped.result
    (untaken-writes mount before after lost stop old new c.stopped.result
    (subst (λ (ks : List StoreKey). Untaken mount before after ks lost stop) c.requires.keys (stops-taking mount before mid after keys lost taken stop c.in-Err.ensures.out first cause c.give_back.ensures))
    (subst (λ (l : List StoreKey). Finishes old new (stop_text mount stop l) (stop_status stop) c.stopped.result) c.deref-in-Err.ensures.value c.stopped.ensures))
