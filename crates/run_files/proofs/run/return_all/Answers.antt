use Rattle.std.proofs.Common.{◌≡◌, ◌++◌, ◌<◌, ◌^◌, List, length, sym, subst, arith}
use Rattle.script_meaning.specs.declared.store.StoreKey.{StoreKey}
use Rattle.stack_engine.specs.Tower.{TowerSeen}
use Rattle.spr_report.specs.Writing.{Finishes}
use Rattle.file_stores.specs.declared.stop.Stop.{Stop}
use Rattle.file_stores.specs.Held.{AreGiven, keys_of}
use Rattle.file_stores.specs.Keys.{EachAt, stores_of}
use Rattle.file_stores.specs.Files.{FileSeen, stores_in}
use Rattle.file_stores.specs.Stop.{stop_text, stop_status}
use Rattle.run_files.proofs.HeldLaws.{shut-length}
use Rattle.run_files.proofs.StopLaws.{halted-keys, halted-of, halted-short, halted-writes, halts-count}
use Rattle.run_files.proofs.run.return_all.Goals as goal

pub close_towers-requires-clause-few : goal.close_towers-requires-clause-few
close_towers-requires-clause-few g c κs within =
    let h = c.requires.halts in
    let count = halts-count c.args.mount.now h.0 c.args.files.towers.items c.args.files.rest.items c.args.stop h.2 in
    let number = h.1.number in
    let few = c.requires.mount.few_files in
    omega (arith, count, number, few)

pub close_towers-requires-clause-files : goal.close_towers-requires-clause-files
close_towers-requires-clause-files g c κs within =
    let h = c.requires.halts in
    let count = halts-count c.args.mount.now h.0 c.args.files.towers.items c.args.files.rest.items c.args.stop h.2 in
    let number = h.1.number in
    let room = c.requires.closed.1 in
    (c.requires.closed.0, omega (arith, count, number, room))

pub close_towers-requires-clause-trails : goal.close_towers-requires-clause-trails
close_towers-requires-clause-trails g c κs within =
    let h = c.requires.halts in
    let count = halts-count c.args.mount.now h.0 c.args.files.towers.items c.args.files.rest.items c.args.stop h.2 in
    let number = h.1.number in
    let room = c.requires.trails.1 in
    (c.requires.trails.0, omega (arith, count, number, room))

pub close_towers-requires-clause-notices : goal.close_towers-requires-clause-notices
close_towers-requires-clause-notices g c κs within =
    let h = c.requires.halts in
    let count = halts-count c.args.mount.now h.0 c.args.files.towers.items c.args.files.rest.items c.args.stop h.2 in
    let number = h.1.number in
    let room = c.requires.told.1 in
    (c.requires.told.0, omega (arith, count, number, room))

pub put_rest-requires-after_bounds : goal.put_rest-requires-after_bounds
put_rest-requires-after_bounds g c κs within =
    let h = c.requires.halts in
    let count = halts-count c.args.mount.now h.0 c.args.files.towers.items c.args.files.rest.items c.args.stop h.2 in
    let number = h.1.number in
    let closed = shut-length 0 c.args.files.towers.items c.close_towers.new.files.items c.close_towers.ensures.shut in
    let same = c.close_towers.ensures.room in
    let room = c.requires.closed.1 in
    omega (arith, count, number, closed, same, room)

pub give_files-requires-clause-keys : goal.give_files-requires-clause-keys
give_files-requires-clause-keys g c κs within =
    let mount = c.args.mount.now in
    let h = c.requires.halts in
    let rest : List FileSeen = c.args.files.rest.items in
    let closed : List FileSeen = c.close_towers.new.files.items in
    subst (λ (fs : List FileSeen). keys_of (stores_in fs) ≡ stores_of mount) (sym c.put_rest.ensures)
    (halted-keys mount c.args.stop h.0 (closed ++ rest) h.1 (halted-of mount h.0 c.args.files.towers.items rest closed c.args.stop h.1 h.2 c.close_towers.ensures.shut))

pub give_files-requires-clause-short : goal.give_files-requires-clause-short
give_files-requires-clause-short g c κs within =
    let mount = c.args.mount.now in
    let h = c.requires.halts in
    let rest : List FileSeen = c.args.files.rest.items in
    let closed : List FileSeen = c.close_towers.new.files.items in
    subst (λ (fs : List FileSeen). EachAt (λ at f. length f.stores < 2 ^ 32) fs) (sym c.put_rest.ensures)
    (halted-short mount c.args.stop h.0 (closed ++ rest) h.1 (halted-of mount h.0 c.args.files.towers.items rest closed c.args.stop h.1 h.2 c.close_towers.ensures.shut))

pub returns : goal.returns
returns g c =
    let mount = c.args.mount.now in
    let towers : List TowerSeen = c.args.files.towers.items in
    let rest : List FileSeen = c.args.files.rest.items in
    let closed : List FileSeen = c.close_towers.new.files.items in
    let lost : List StoreKey = c.give_files.new.lost.items in
    let stop : Stop = c.args.stop in
    let mid = g.B.Bay.told c.args.bay.now in
    let after = g.B.Bay.told c.give_files.new.bay in
    let old = g.K.Sink.told c.args.sink.now in
    let new = g.K.Sink.told c.stopped.new.sink in
    let given : AreGiven mount mid after (stores_in (closed ++ rest)) lost = subst (λ (fs : List FileSeen). AreGiven mount mid after (stores_in fs) lost) c.put_rest.ensures c.give_files.ensures in
    let ends : Finishes old new (stop_text mount stop lost) (stop_status stop) c.stopped.result =
    subst (λ (l : List StoreKey). Finishes old new (stop_text mount stop l) (stop_status stop) c.stopped.result) c.deref.ensures.value c.stopped.ensures in
    record {
      ended = λ before olds taken of halts.
          halted-writes mount stop olds (closed ++ rest) of (halted-of mount olds towers rest closed stop of halts c.close_towers.ensures.shut) before mid after lost old new c.stopped.result taken given ends;
    }
