use Rattle.std.proofs.Common.{◌≡◌, ◌*◌, ℕ, List, Option, map, length, sym, ap, subst, ◌∙◌}
use Rattle.std.specs.Global.{Vec}
use Rattle.std.proofs.lemmas.List.{length-map}
use Rattle.script_text.specs.declared.script.Reply.{Reply}
use Rattle.script_text.specs.declared.script.Said.{Said}
use Rattle.script_text.specs.declared.script.Script.{Script}
use Rattle.stack_accept.specs.Mount.{Mount}
use Rattle.script_meaning.specs.declared.store.StoreKey.{StoreKey}
use Rattle.script_meaning.specs.Stack.{pages_of}
use Rattle.tower_log.specs.declared.logged.Logged.{Logged}
use Rattle.tower_log.specs.Trail.{TrailSeen}
use Rattle.mirror_layer.specs.declared.came.Notice.{Notice}
use Rattle.spr_report.specs.declared.status.Status.{Status}
use Rattle.spr_report.specs.Tracing.{AreReported}
use Rattle.stack_engine.specs.Tower.{TowerSeen}
use Rattle.spr_volume.specs.Passes.{logs}
use Rattle.file_stores.specs.Keys.{EachAt}
use Rattle.file_stores.specs.Notices.{all_notices}
use Rattle.run_files.specs.Ended.{status_of}
use Rattle.run_files.specs.Sums.{SumTold}
use Rattle.run_files.proofs.RunLaws.{has-stores, logs-over}
use Rattle.run_files.proofs.SumLaws.{many-bytes, many-read, read-over, sized-bytes, stack-read, summed-over}
use Rattle.run_files.proofs.sums.end_sum.Goals as goal

pub shut_files-logs-requires-clause-towers : goal.shut_files-logs-requires-clause-towers
shut_files-logs-requires-clause-towers g c κs within =
    let mount : Mount = c.args.given.now.mount.now in
    let script : Script = c.args.given.now.script.now in
    let towers : List TowerSeen = c.args.files.towers.items in
    let bs : List (List ℕ) = map (λ b. b.items) c.args.bytes.items in
    let said : List (List Said) = map (λ v. v.items) c.args.answers.said.items in
    let closing : List Reply = c.args.answers.closing.items in
    let mades : List (List (Option Notice)) = map (λ m. m.items) c.args.files.made.items in
    let b = c.requires.begun in
    many-read mount b.8 script b.0 b.1 b.2 towers bs b.3 said closing b.4 b.5 b.7 b.9

pub shut_files-logs-requires-clause-own : goal.shut_files-logs-requires-clause-own
shut_files-logs-requires-clause-own g c κs within news told shut ended =
    let mount : Mount = c.args.given.now.mount.now in
    let script : Script = c.args.given.now.script.now in
    let towers : List TowerSeen = c.args.files.towers.items in
    let bs : List (List ℕ) = map (λ b. b.items) c.args.bytes.items in
    let said : List (List Said) = map (λ v. v.items) c.args.answers.said.items in
    let closing : List Reply = c.args.answers.closing.items in
    let mades : List (List (Option Notice)) = map (λ m. m.items) c.args.files.made.items in
    let b = c.requires.begun in
    has-stores mount b.1 towers b.0 news (read-over mount b.8 script b.0 news b.1 b.2 towers bs b.3 said closing mades told b.4 b.5 b.6 b.7 b.9 shut ended)

pub tell_sum-requires-clause-begun : goal.tell_sum-requires-clause-begun
tell_sum-requires-clause-begun g c =
    let mount : Mount = c.args.given.now.mount.now in
    let bs : List (List ℕ) = map (λ b. b.items) c.args.bytes.items in
    let b = c.requires.begun in
    ap length c.deref-5.ensures.value ∙ (sym (length-map c.args.bytes.items (λ (v : Vec ℕ). v.items)) ∙ many-bytes mount b.0 b.1 b.2 bs b.4 b.5 b.7)

pub tell_sum-requires-clause-sized : goal.tell_sum-requires-clause-sized
tell_sum-requires-clause-sized g c =
    let mount : Mount = c.args.given.now.mount.now in
    let bs : List (List ℕ) = map (λ b. b.items) c.args.bytes.items in
    let b = c.requires.begun in
    subst (λ (vs : List (Vec ℕ)). EachAt (λ at bytes. length bytes ≡ pages_of mount at * mount.page_size) (map (λ b. b.items) vs)) (sym c.deref-5.ensures.value)
    (λ at bytes is. sized-bytes mount b.0 b.1 b.2 bs b.4 b.5 b.7 at bytes is)

pub tell_sum-requires-clause-logs : goal.tell_sum-requires-clause-logs
tell_sum-requires-clause-logs g c =
    let mount : Mount = c.args.given.now.mount.now in
    let script : Script = c.args.given.now.script.now in
    let towers : List TowerSeen = c.args.files.towers.items in
    let bs : List (List ℕ) = map (λ b. b.items) c.args.bytes.items in
    let said : List (List Said) = map (λ v. v.items) c.args.answers.said.items in
    let closing : List Reply = c.args.answers.closing.items in
    let mades : List (List (Option Notice)) = map (λ m. m.items) c.args.files.made.items in
    let b = c.requires.begun in
    let closed = c.shut_files-logs.ensures.closed in
    let told : map (λ t. t.log) c.deref-6.result.now ≡ logs towers = ap (λ (ts : List TrailSeen). map (λ t. t.log) ts) c.deref-6.ensures.value ∙ c.shut_files-logs.ensures.logs in
    subst (λ (ls : List (List Logged)). AreReported mount mount.files ls) (sym told) (logs-over mount towers closed.news (stack-read mount b.8 script b.0 b.1 b.2 towers bs b.3 said closing b.4 b.5 b.7 b.9) closed.shut)

pub returns : goal.returns
returns g c =
    let mount : Mount = c.args.given.now.mount.now in
    let script : Script = c.args.given.now.script.now in
    let towers : List TowerSeen = c.args.files.towers.items in
    let bs : List (List ℕ) = map (λ b. b.items) c.args.bytes.items in
    let said : List (List Said) = map (λ v. v.items) c.args.answers.said.items in
    let closing : List Reply = c.args.answers.closing.items in
    let mades : List (List (Option Notice)) = map (λ m. m.items) c.args.files.made.items in
    let closed = c.shut_files-logs.ensures.closed in
    let lost : List StoreKey = c.shut_files-logs.result.1.items in
    let mid = g.B.Bay.told c.args.bay.now in
    let end = g.B.Bay.told c.shut_files-logs.new.bay in
    let old = g.K.Sink.told c.args.sink.now in
    let new = g.K.Sink.told c.tell_sum.new.sink in
    let ls : List (List Logged) = map (λ t. t.log) c.deref-6.result.now in
    let status : Status = c.status_of-status.result in
    let told : map (λ t. t.log) c.deref-6.result.now ≡ logs towers = ap (λ (ts : List TrailSeen). map (λ t. t.log) ts) c.deref-6.ensures.value ∙ c.shut_files-logs.ensures.logs in
    let how : status ≡ status_of said closing lost =
    c.status_of-status.ensures
    ∙ (ap (λ ss. status_of (map (λ v. v.items) ss) c.deref-2.result.now c.deref-3.result.now) c.deref.ensures.value
    ∙ (ap (λ (cs : List Reply). status_of said cs c.deref-3.result.now) c.deref-2.ensures.value ∙ ap (λ (gone : List StoreKey). status_of said closing gone) c.deref-3.ensures.value)) in
    let said_is = ap (λ vs. map (λ v. v.items) vs) c.deref-4.ensures.value in
    let bytes_is : map (λ b. b.items) c.deref-5.result.now ≡ bs = ap (λ (vs : List (Vec ℕ)). map (λ b. b.items) vs) c.deref-5.ensures.value in
    let tells : SumTold mount script bs ls said lost status old new c.tell_sum.result =
    subst (λ (gone : List StoreKey). SumTold mount script bs ls said gone status old new c.tell_sum.result) c.deref-7.ensures.value
    (subst (λ (ss : List (List Said)). SumTold mount script bs ls ss c.deref-7.result.now status old new c.tell_sum.result) said_is
    (subst (λ (rs : List (List ℕ)). SumTold mount script rs ls (map (λ v. v.items) c.deref-4.result.now) c.deref-7.result.now status old new c.tell_sum.result) bytes_is c.tell_sum.ensures)) in
    record {
      ended = λ bay olds opened begun names taken of opens made read loss played. record {
        notices = all_notices mount closed.told;
        offered = closed.offered;
        written = summed-over mount loss script bay mid end opened begun towers bs names olds closed.news lost said closing ls old new status c.tell_sum.result c.requires.mount taken
            (read-over mount loss script olds closed.news opened begun towers bs names said closing mades closed.told of opens made read played closed.shut closed.ended) read played closed.given told how tells;
      };
    }
