use Rattle.std.proofs.Common.{List, subst}
use Rattle.script_meaning.specs.declared.store.StoreKey.{StoreKey}
use Rattle.spr_report.specs.Writing.{Finishes}
use Rattle.file_stores.specs.declared.stop.Stop.{Stop}
use Rattle.file_stores.specs.Stop.{lost_text, stop_text, stop_status}
use Rattle.image_commands.specs.Told.{done_status}
use Rattle.image_commands.proofs.SaysLaws.{formats-all, formats-broken}
use Rattle.image_commands.proofs.formatting.format_taken.Goals as goal

pub returns-in-None : goal.returns-in-None
returns-in-None g c =
    let mount = c.args.mount.now in
    let lost : List StoreKey = c.give_back.new.lost.items in
    let old = g.K.Sink.told c.args.sink.now in
    let new = g.K.Sink.told c.tell.new.sink in
    record {
      ended = λ before out calm.
          formats-all mount before (g.B.Bay.told c.args.bay.now) (g.B.Bay.told c.give_back.new.bay) c.args.room.keys.items lost c.args.room.taken.items c.format_stores-broke.new.left.items old new c.tell.result
          c.requires.keys out calm c.give_back.ensures c.in-None.ensures
          (subst (λ (l : List StoreKey). Finishes old new (lost_text mount l) (done_status l) c.tell.result) c.deref.ensures.value c.tell.ensures);
    }

pub returns : goal.returns
returns g c =
    let mount = c.args.mount.now in
    let lost : List StoreKey = c.give_back.new.lost.items in
    let stop : Stop = c.in-Some.stop in
    let old = g.K.Sink.told c.args.sink.now in
    let new = g.K.Sink.told c.stopped.new.sink in
    record {
      ended = λ before out calm.
          formats-broken mount before (g.B.Bay.told c.args.bay.now) (g.B.Bay.told c.give_back.new.bay) c.args.room.keys.items lost c.args.room.taken.items c.format_stores-broke.new.left.items stop old new c.stopped.result
          c.requires.keys out calm c.give_back.ensures c.in-Some.ensures
          (subst (λ (l : List StoreKey). Finishes old new (stop_text mount stop l) (stop_status stop) c.stopped.result) c.deref-in-Some.ensures.value c.stopped.ensures);
    }
