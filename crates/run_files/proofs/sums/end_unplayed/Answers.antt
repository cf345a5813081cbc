use Rattle.std.proofs.Common.{◌≡◌, List, Option, map, length, sym, ap, subst, ◌∙◌}
use Rattle.script_text.specs.declared.script.Script.{Script}
use Rattle.stack_accept.specs.Mount.{Mount}
use Rattle.script_meaning.specs.declared.store.StoreKey.{StoreKey}
use Rattle.mirror_layer.specs.declared.came.Notice.{Notice}
use Rattle.spr_report.specs.Writing.{Finishes}
use Rattle.stack_engine.specs.Tower.{TowerSeen}
use Rattle.file_stores.specs.Notices.{all_notices}
use Rattle.file_stores.specs.Stop.{stop_status, stop_text}
use Rattle.run_files.proofs.RunLaws.{has-stores}
use Rattle.run_files.proofs.SumLaws.{many-tried, tried-over, unplayed-over}
use Rattle.run_files.proofs.sums.end_unplayed.Goals as goal

pub shut_files-shut-requires-clause-towers : goal.shut_files-shut-requires-clause-towers
shut_files-shut-requires-clause-towers g c κs within =
    let mount : Mount = c.args.given.now.mount.now in
    let script : Script = c.args.given.now.script.now in
    let towers : List TowerSeen = c.args.files.towers.items in
    let mades : List (List (Option Notice)) = map (λ m. m.items) c.args.files.made.items in
    let b = c.requires.tried in
    many-tried mount (length script.clients) b.0 b.1 towers b.2 b.3 b.5

pub shut_files-shut-requires-clause-own : goal.shut_files-shut-requires-clause-own
shut_files-shut-requires-clause-own g c κs within news told shut ended =
    let mount : Mount = c.args.given.now.mount.now in
    let script : Script = c.args.given.now.script.now in
    let towers : List TowerSeen = c.args.files.towers.items in
    let mades : List (List (Option Notice)) = map (λ m. m.items) c.args.files.made.items in
    let b = c.requires.tried in
    has-stores mount b.1 towers b.0 news (tried-over mount (length script.clients) b.0 news b.1 towers mades told b.2 b.3 b.4 b.5 shut ended)

pub returns : goal.returns
returns g c =
    let mount : Mount = c.args.given.now.mount.now in
    let script : Script = c.args.given.now.script.now in
    let towers : List TowerSeen = c.args.files.towers.items in
    let mades : List (List (Option Notice)) = map (λ m. m.items) c.args.files.made.items in
    let closed = c.shut_files-shut.ensures.closed in
    let lost : List StoreKey = c.shut_files-shut.result.1.items in
    let mid = g.B.Bay.told c.args.bay.now in
    let end = g.B.Bay.told c.shut_files-shut.new.bay in
    let old = g.K.Sink.told c.args.sink.now in
    let new = g.K.Sink.told c.stopped.new.sink in
    let ends : Finishes old new (stop_text mount c.args.stop lost) (stop_status c.args.stop) c.stopped.result =
    subst (λ (l : List StoreKey). Finishes old new (stop_text mount c.args.stop l) (stop_status c.args.stop) c.stopped.result) c.deref.ensures.value c.stopped.ensures in
    record {
      ended = λ before olds opened taken of opens made tried loss. record {
        notices = all_notices mount closed.told;
        offered = closed.offered;
        written = unplayed-over mount loss script before mid end opened towers olds closed.news lost c.args.stop old new c.stopped.result c.requires.mount taken
            (tried-over mount (length script.clients) olds closed.news opened towers mades closed.told of opens made tried closed.shut closed.ended) tried c.requires.halt closed.given ends;
      };
    }
