use Rattle.std.proofs.Common.{◌≡◌, ℕ, suc, List, map, length, Option, sym, ap, subst, ◌∙◌}
use Rattle.script_text.specs.declared.script.Reply.{Reply}
use Rattle.script_text.specs.declared.script.Said.{Said}
use Rattle.script_meaning.specs.declared.store.StoreKey.{StoreKey}
use Rattle.pager_channel.specs.declared.numbers.Ops.{Ops}
use Rattle.tower_log.specs.declared.logged.Logged.{Logged}
use Rattle.tower_log.specs.Trail.{TrailSeen}
use Rattle.spr_report.specs.declared.status.Status.{Status}
use Rattle.spr_report.specs.Tracing.{AreReported}
use Rattle.stack_engine.specs.Tower.{TowerSeen}
use Rattle.spr_volume.specs.Passes.{logs}
use Rattle.file_stores.specs.Notices.{all_notices}
use Rattle.run_files.specs.Ended.{status_of}
use Rattle.run_files.specs.Run.{traced_by}
use Rattle.run_files.specs.Told.{Tells}
use Rattle.run_files.proofs.TowerLaws.{length-towers}
use Rattle.run_files.proofs.RunLaws.{has-stores, logs-over, run-over}
use Rattle.run_files.proofs.run.end_run.Goals as goal

pub shut_files-trails-requires-clause-towers : goal.shut_files-trails-requires-clause-towers
shut_files-trails-requires-clause-towers g c κs within = length-towers c.args.given.now.mount.now c.args.files.towers.items c.requires.towers

pub shut_files-trails-requires-clause-own : goal.shut_files-trails-requires-clause-own
shut_files-trails-requires-clause-own g c κs within news told shut ended =
    let b = c.requires.begun in
    has-stores c.args.given.now.mount.now b.1 c.args.files.towers.items b.0 news
    (record { of = b.2; opened = b.3; end = suc (length c.args.given.now.script.now.clients); back = b.6.later; shut = shut; mades = map (λ m. m.items) c.args.files.made.items; told = told; made = b.4; ended = ended })

pub tell-requires-clause-logs : goal.tell-requires-clause-logs
tell-requires-clause-logs g c κs within =
    let mount = c.args.given.now.mount.now in
    let after : List TowerSeen = c.args.files.towers.items in
    let closed = c.shut_files-trails.ensures.closed in
    let told : map (λ t. t.log) c.deref.result.now ≡ logs after = ap (λ (ts : List TrailSeen). map (λ t. t.log) ts) c.deref.ensures.value ∙ c.shut_files-trails.ensures.logs in
    subst (λ (ls : List (List Logged)). AreReported mount mount.files ls) (sym told) (logs-over mount after closed.news c.requires.towers closed.shut)

pub returns : goal.returns
returns g c =
    let mount = c.args.given.now.mount.now in
    let script = c.args.given.now.script.now in
    let after : List TowerSeen = c.args.files.towers.items in
    let closed = c.shut_files-trails.ensures.closed in
    let lost : List StoreKey = c.shut_files-trails.result.1.items in
    let said : List (List Said) = map (λ v. v.items) c.args.answers.said.items in
    let closing : List Reply = c.args.answers.closing.items in
    let mid = g.B.Bay.told c.args.bay.now in
    let end = g.B.Bay.told c.shut_files-trails.new.bay in
    let old = g.K.Sink.told c.args.sink.now in
    let new = g.K.Sink.told c.tell.new.sink in
    let traced : Option Ops = traced_by c.args.given.now.ops.now c.args.trace in
    let ls : List (List Logged) = map (λ t. t.log) c.deref.result.now in
    let status : Status = c.status_of-status.result in
    let told : map (λ t. t.log) c.deref.result.now ≡ logs after = ap (λ (ts : List TrailSeen). map (λ t. t.log) ts) c.deref.ensures.value ∙ c.shut_files-trails.ensures.logs in
    let said_is = ap (λ vs. map (λ v. v.items) vs) c.deref-2.ensures.value in
    let how : status ≡ status_of said closing lost =
    c.status_of-status.ensures
    ∙ (ap (λ ss. status_of (map (λ v. v.items) ss) c.deref-6.result.now c.deref-7.result.now) c.deref-5.ensures.value
    ∙ (ap (λ (cs : List Reply). status_of said cs c.deref-7.result.now) c.deref-6.ensures.value ∙ ap (λ (gone : List StoreKey). status_of said closing gone) c.deref-7.ensures.value)) in
    let tells : Tells mount script traced (record { logs = ls; names = c.args.names }) said closing lost status old new c.tell.result =
    subst (λ (gone : List StoreKey). Tells mount script traced (record { logs = ls; names = c.args.names }) said closing gone status old new c.tell.result) c.deref-4.ensures.value
    (subst (λ (cs : List Reply). Tells mount script traced (record { logs = ls; names = c.args.names }) said cs c.deref-4.result.now status old new c.tell.result) c.deref-3.ensures.value
    (subst (λ (ss : List (List Said)). Tells mount script traced (record { logs = ls; names = c.args.names }) ss c.deref-3.result.now c.deref-4.result.now status old new c.tell.result) said_is
    (subst (λ (o : Option Ops). Tells mount script o (record { logs = ls; names = c.args.names }) (map (λ v. v.items) c.deref-2.result.now) c.deref-3.result.now c.deref-4.result.now status old new c.tell.result) c.traced_by.ensures c.tell.ensures))) in
    record {
      ended = λ bay olds begun taken of opens made loss played. record {
        notices = all_notices mount closed.told;
        offered = closed.offered;
        written = run-over mount loss script traced bay mid end begun after c.args.names olds closed.news lost said closing ls old new status c.tell.result c.requires.mount taken
            (record { of = of; opened = opens; end = suc (length script.clients); back = played.later; shut = closed.shut; mades = map (λ m. m.items) c.args.files.made.items; told = closed.told; made = made; ended = closed.ended }) played closed.given told how tells;
      };
    }
