use Rattle.std.proofs.Common.{List, length, take, subst, ap, ◌∙◌, arith}
use Rattle.std.proofs.lemmas.List.{length-map, length-take}
use Rattle.script_meaning.specs.declared.store.StoreKey.{StoreKey}
use Rattle.spr_report.specs.Writing.{Finishes}
use Rattle.file_stores.specs.declared.stop.Stop.{Stop}
use Rattle.file_stores.specs.Keys.{stores_of_file}
use Rattle.file_stores.specs.Held.{StoreSeen, IsUntaken}
use Rattle.file_stores.specs.Stop.{stop_text, stop_status}
use Rattle.file_stores.specs.Stops.{Untaken}
use Rattle.file_stores.proofs.FileLaws.{length-disks}
use Rattle.file_stores.proofs.NoticeLaws.{written-alone}
use Rattle.file_stores.proofs.ReturnLaws.{stops-taking}
use Rattle.image_commands.specs.Says.{SaysDump}
use Rattle.image_commands.proofs.FileLaws.{dumps-untaken}
use Rattle.image_commands.proofs.dumping.dump_all.Goals as goal

pub take_stores-requires-clause-room : goal.take_stores-requires-clause-room
take_stores-requires-clause-room g c κs within =
    let keys = ap length (c.deref.ensures.value ∙ c.requires.keys) in
    let many = length-disks (length c.args.mount.now.disks) c.args.file in
    let room = c.requires.taken.1 in
    (c.requires.taken.0, omega (arith, keys, many, room))

pub dump_taken-requires-clause-fit : goal.dump_taken-requires-clause-fit
dump_taken-requires-clause-fit g c κs within at store is = (c.in-Ok.ensures.out.each at store is).fits

pub give_back-requires-clause-room : goal.give_back-requires-clause-room
give_back-requires-clause-room g c κs within =
    let taken : List StoreSeen = c.take_stores.new.stores.items in
    let keys = ap length (c.deref.ensures.value ∙ c.requires.keys) in
    let many = length-disks (length c.args.mount.now.disks) c.args.file in
    let first = ap length c.in-Err.ensures.first in
    let same = length-map taken (λ (s : StoreSeen). s.key) in
    let less = length-take (length taken) c.deref.result.now in
    let room = c.requires.lost.1 in
    (c.requires.lost.0, omega (arith, keys, many, first, same, less, room))

pub returns-in-Ok : goal.returns-in-Ok
returns-in-Ok g c =
    let calm = c.in-Ok.ensures.calm in
    c.dump_taken.ensures.ended (g.B.Bay.told c.args.bay.now) c.in-Ok.ensures.out (omega (arith, calm))

pub returns-in-Err : goal.returns-in-Err
returns-in-Err g c =
    let mount = c.args.mount.now in
    let before = g.B.Bay.told c.args.bay.now in
    let mid = g.B.Bay.told c.take_stores.new.bay in
    let after = g.B.Bay.told c.give_back.new.bay in
    let taken : List StoreSeen = c.take_stores.new.stores.items in
    let lost : List StoreKey = c.give_back.new.lost.items in
    let stop : Stop = c.in-Err.stop in
    let items = c.deref.ensures.value ∙ c.requires.keys in
    let keys : List StoreKey = stores_of_file (length mount.disks) c.args.file in
    let old = g.K.Sink.told c.args.sink.now in
    let new = g.K.Sink.told c.stopped.new.sink in
    let cause = subst (λ (ks : List StoreKey). IsUntaken ks (length taken) before mid stop) items c.in-Err.ensures.cause in
    let first = c.in-Err.ensures.first ∙ ap (take (length taken)) items in
    let stops : Untaken mount before after keys lost stop = stops-taking mount before mid after keys lost taken stop c.in-Err.ensures.out first cause c.give_back.ensures in
    let ends : Finishes old new (stop_text mount stop lost) (stop_status stop) c.stopped.result =
    subst (λ (l : List StoreKey). Finishes old new (stop_text mount stop l) (stop_status stop) c.stopped.result) c.deref-in-Err.ensures.value c.stopped.ensures in
    written-alone (SaysDump mount before after c.args.file) old new (g.N.Sink.told c.args.notices.now) c.stopped.result
    (dumps-untaken mount before after c.args.file lost stop old new c.stopped.result stops ends)
