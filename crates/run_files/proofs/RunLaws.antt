-- From the towers of a run to what became of its files and their stores.
use Rattle.std.proofs.Common.{◌≡◌, ⊎_elim, ℕ, suc, ◌+◌, ◌<◌, ◌^◌, List, [], ◌∷◌, length, map, Option, Some, refl, sym, ap, subst, ◌∙◌, arith}
use Rattle.std.specs.Prelude.{get_or, slice_get}
use Rattle.std.specs.List.{AllByRecursion}
use Rattle.std.proofs.lemmas.Option.{slice_get_within}
use Rattle.hist_plain.specs.History.{IsNumbered}
use Rattle.script_text.specs.declared.script.Script.{Script}
use Rattle.script_text.specs.declared.script.Said.{Said}
use Rattle.script_text.specs.declared.script.Reply.{Reply}
use Rattle.script_text.specs.declared.script.Reply.TheVariants.{Done}
use Rattle.stack_accept.specs.Mount.{Mount}
use Rattle.stack_accept.specs.declared.entries.FileEntry.{FileEntry}
use Rattle.script_meaning.specs.declared.store.StoreKey.{StoreKey}
use Rattle.script_meaning.specs.Stack.{pages_of}
use Rattle.name_context.specs.History.{NamesSeen}
use Rattle.script_meaning.specs.Log.{log_of, EndsSynced}
use Rattle.script_meaning.specs.Fits.{FitsScript}
use Rattle.spr_io.specs.Berth.{BaySeen}
use Rattle.spr_io.specs.Texts.{SinkSeen}
use Rattle.spr_report.specs.declared.status.Status.{Status}
use Rattle.spr_report.specs.declared.status.Status.TheVariants as statuses
use Rattle.spr_report.specs.Report.{report}
use Rattle.spr_report.specs.Tracing.{IsReported, AreReported}
use Rattle.pager_channel.specs.declared.numbers.Ops.{Ops}
use Rattle.page_messages.specs.declared.paged.PagedFile.{PagedFile}
use Rattle.tower_core.specs.Legal.{FitsFile}
use Rattle.tower_core.specs.Trail.{IsRun, start}
use Rattle.tower_core.specs.TreeShape.{TreeShape}
use Rattle.tower_log.specs.declared.logged.Logged.{Logged}
use Rattle.tower_log.specs.Log.{trail_of}
use Rattle.stack_engine.specs.Engine.{EngineSeen, IsSound, events_in, file_in, log_in, tree_in}
use Rattle.stack_engine.specs.Tower.{TowerSeen}
use Rattle.spr_volume.specs.Later.{IsLater}
use Rattle.spr_volume.specs.Passes.{logs}
use Rattle.spr_volume.specs.Passes.{AreBack as AreTowersBack}
use Rattle.spr_client.specs.Calls.{frames, AreFrames, AreOfStack}
use Rattle.file_stores.specs.Keys.{stores_of, stores_of_file}
use Rattle.file_stores.specs.State.{Returned}
use Rattle.file_stores.specs.Held.{keys_of, AreGiven}
use Rattle.file_stores.specs.Files.{AreFilePairs, ArePairs, FileSeen, IsFile, Lasts, StandsAt, stores_in}
use Rattle.file_stores.specs.Stop.{lost_text}
use Rattle.file_stores.specs.Written.{Written}
use Rattle.file_stores.proofs.Lists.{there}
use Rattle.file_stores.proofs.FileLaws.{became-files, file-number, keys-in, pairs-in, pairs-keys, short-after}
use Rattle.file_stores.proofs.ReturnLaws.{returned-of}
use Rattle.file_stores.specs.Under.{Under, seen_under}
use Rattle.run_files.specs.Ended.{status_of}
use Rattle.mirror_layer.specs.declared.came.Notice.{Notice}
use Rattle.file_stores.specs.Notices.{AreAtClose, all_notices}
use Rattle.run_files.specs.Held.{AreFiles, AreMade, AreEnded, IsTaken, Opens, OpensEach, IsShut, AreShut}
use Rattle.run_files.specs.Play.{IsClosed, IsUnwritten, ArePlayed, IsWhole, unnamed}
use Rattle.run_files.specs.Leaves.{LeavesFile}
use Rattle.run_files.specs.Run.{IsOfFile, AreOfFiles, start_of, Played, SaysRun, reported, ran_out}
use Rattle.run_files.specs.Shut.{HasStores}
use Rattle.run_files.specs.Told.{Tells}
use Rattle.run_files.proofs.HeldLaws.{opens-length, opens-at, made-at, ended-at, ended-length, shut-length, shut-at, length-logs}
use Rattle.run_files.proofs.TowerLaws.{back-at, log_at-tower, same-number}
use Rattle.run_files.proofs.EngineLaws.{EngineRun, disks-later, of-file}
use Rattle.run_files.proofs.FirstLaws.{stands-by-first}
use Rattle.spr_volume.specs.Reads.{StandsByFirst}
use Rattle.stack_accept.specs.Sound.{IsMount}
use Rattle.run_files.proofs.TurnLaws.{UnderTurn, few-disks, leaves-of, turn-of, turn-pairs}

-- the pages of a file of the stack
pub pages-at : (mount : Mount) (k : ℕ) (f : FileEntry) → slice_get mount.files k ≡ Some f → pages_of mount k ≡ f.pages
pages-at mount k f is = rw is refl

frames-of : (mount : Mount) (files : List FileEntry) (ts : List TowerSeen) → length ts ≡ length files
    → ((k : ℕ) (f : FileEntry) (t : TowerSeen) → slice_get files k ≡ Some f → slice_get ts k ≡ Some t → (tree_in t.engine ≡ mount.tree) × ((file_in t.engine).page_size ≡ mount.page_size) × ((file_in t.engine).pages ≡ f.pages))
    → AreFrames mount files (frames ts)
frames-of mount [] [] len h = tt
frames-of mount [] (t ∷ ts) len h = absurd (omega (arith, len))
frames-of mount (f ∷ fs) [] len h = absurd (omega (arith, len))
frames-of mount (f ∷ fs) (t ∷ ts) len h =
    let here = h 0 f t refl refl in
    (here.0, here.1, here.2, frames-of mount fs ts (omega (arith, len)) (λ k g u p q. h (suc k) g u p q))

-- the towers may be called
pub towers-opened : (mount : Mount) (files : List FileSeen) (ts : List TowerSeen) → AreFiles mount files → OpensEach mount files ts → AreOfStack mount ts
towers-opened mount files ts of opens =
    let many = opens-length mount files ts opens in
    let number = of.number in
    frames-of mount mount.files ts (many ∙ number)
    (λ k f t is at.
    let within = slice_get_within ts k t at in
    let x = there files k (omega (arith, within, many)) in
    let o = opens-at mount files ts k x.0 t opens x.1 at in
    let file : (x.0).file ≡ k = (of.each k x.0 x.1).0 in
    (o.opens.tree_is, ap (λ (p : PagedFile). p.page_size) o.opens.file_is, ap (λ (p : PagedFile). p.pages) o.opens.file_is ∙ (ap (λ n. pages_of mount n) file ∙ pages-at mount k f is)))

pub unwritten-opened : (mount : Mount) (files : List FileSeen) (ts : List TowerSeen) → OpensEach mount files ts → AllByRecursion IsUnwritten ts
unwritten-opened mount [] [] opens = tt
unwritten-opened mount [] (t ∷ ts) opens = absurd opens
unwritten-opened mount (f ∷ fs) [] opens = absurd opens
unwritten-opened mount (f ∷ fs) (t ∷ ts) opens = (opens.0.opens.no_log, unwritten-opened mount fs ts opens.1)

-- the stores and the tower of a file, before the run and after it
pub record FileRun (mount : Mount) (after : List TowerSeen) (k : ℕ) (f g : FileSeen) : Type 0 where
  pub t0 : TowerSeen
  pub t1 : TowerSeen
  pub there1 : slice_get after k ≡ Some t1
  pub opens : Opens mount f t0
  pub later : IsLater t0.engine t1.engine
  pub shut : IsShut k t1 g
  pub is : IsFile mount f
  pub file : f.file ≡ k
  pub notices : List (Option Notice)
  pub close : AreAtClose shut.under opens.made notices

-- all that is known of a run that is over
pub record IsRunOver (mount : Mount) (before after : List TowerSeen) (olds news : List FileSeen) : Type 0 where
  pub of : AreFiles mount olds
  pub opened : OpensEach mount olds before
  pub end : ℕ
  pub back : AreTowersBack end before after
  pub shut : AreShut 0 after news
  -- what is told of the files' disks, by what their openings made of them
  pub mades : List (List (Option Notice))
  pub told : List (List (Option Notice))
  pub made : AreMade mount olds before mades
  pub ended : AreEnded 0 after news mades told

pub number-news : (mount : Mount) (before after : List TowerSeen) (olds news : List FileSeen) → IsRunOver mount before after olds news → length news ≡ length olds
number-news mount before after olds news run =
    shut-length 0 after news run.shut ∙ (same-number run.end before after run.back ∙ opens-length mount olds before run.opened)

pub file-run : (mount : Mount) (before after : List TowerSeen) (olds news : List FileSeen) (k : ℕ) (f g : FileSeen) (run : IsRunOver mount before after olds news) → slice_get olds k ≡ Some f → slice_get news k ≡ Some g → (r : FileRun mount after k f g) × (r.notices ≡ get_or run.told k [])
file-run mount before after olds news k f g run is at =
    let within = slice_get_within olds k f is in
    let many = opens-length mount olds before run.opened in
    let a = there before k (omega (arith, within, many)) in
    let b = shut-at 0 after news k g run.shut at in
    let own = run.of.each k f is in
    let o = made-at k f a.0 run.made is a.1 in
    let zero : 0 + k ≡ k = omega arith in
    let e : (shut : IsShut k b.0 g) × AreAtClose shut.under (o.0).made (get_or run.told k []) =
    subst (λ n. (shut : IsShut n b.0 g) × AreAtClose shut.under (o.0).made (get_or run.told k [])) zero (ended-at k b.0 g (o.0).made run.ended b.1 at o.1) in (
      record {
        t0 = a.0;
        t1 = b.0;
        there1 = b.1;
        opens = o.0;
        later = (back-at run.end before after k a.0 b.0 run.back a.1 b.1).later;
        shut = e.0;
        is = own.1;
        file = own.0;
        notices = get_or run.told k [];
        close = e.1;
      },
      refl,
    )

module _ (mount : Mount) (after : List TowerSeen) (k : ℕ) (f g : FileSeen) (r : FileRun mount after k f g) where
  abbrev u0 : Under
  u0 = r.opens.under

  abbrev u1 : Under
  u1 = r.shut.under

  abbrev e1 : EngineSeen
  e1 = r.t1.engine

  -- the engine of the file, from its opening to its end
  engine-run : EngineRun mount f.file (seen_under u0) (seen_under u1) r.t0.engine e1
  engine-run = record { opens = r.opens.opens; began = r.opens.began; later = r.later; sound = r.shut.sound; ground = r.shut.ground }

  log-at : log_in e1 ≡ log_of (logs after) k
  log-at = sym (log_at-tower after k r.t1 r.there1)

  turn : UnderTurn mount (log_in e1) f g u0 u1
  turn = turn-of mount (log_in e1) f g r.opens.made u0 u1 r.is r.opens.over r.opens.under_sound (disks-later mount f.file (seen_under u0) (seen_under u1) r.t0.engine e1 engine-run) r.shut.left r.shut.under_sound

  pub file-pairs : ArePairs Lasts f.stores g.stores
  file-pairs =
      turn-pairs mount (log_in e1) f g u0 u1 r.is (r.shut.file_is ∙ sym r.file) (r.shut.keys ∙ ap (λ m. stores_of_file (length g.stores) m) (sym r.shut.file_is)) turn

  -- what became of the file's stores
  file-left : (closing : Option Reply) → (closing ≡ Some Done → IsWhole e1) → LeavesFile mount closing (log_of (logs after) k) f g r.notices
  file-left closing whole =
      subst (λ (l : List Logged). LeavesFile mount closing l f g r.notices) log-at
      (leaves-of mount f g closing r.opens.made r.notices u0 u1 r.t0.engine e1 r.is engine-run r.opens.over r.opens.under_sound (disks-later mount f.file (seen_under u0) (seen_under u1) r.t0.engine e1 engine-run) r.shut.left r.shut.under_sound whole r.opens.each r.close)

  -- its log
  pub file-log : StandsByFirst mount.tree → IsOfFile mount k (log_of (logs after) k)
  file-log first = subst (λ (l : List Logged). IsOfFile mount k l) log-at
      (subst (λ n. IsOfFile mount n (log_in e1)) r.file
      (of-file mount f.file (seen_under u0) (seen_under u1) r.t0.engine e1 engine-run first (length f.stores) (file-number mount f r.is) (few-disks mount (log_in e1) f g u0 u1 r.is turn)))

pub over-pairs : (mount : Mount) (before after : List TowerSeen) (olds news : List FileSeen) → IsRunOver mount before after olds news → AreFilePairs Lasts olds news
over-pairs mount before after olds news run file f g was is = file-pairs mount after file f g (file-run mount before after olds news file f g run was is).0

-- THE RUN IS OVER
module _ (mount : Mount) (closer : ℕ) (before after : List TowerSeen) (olds news : List FileSeen) (closing : List Reply) (run : IsRunOver mount before after olds news)
    (closed : (file : ℕ) (t : TowerSeen) → slice_get closing file ≡ Some Done → slice_get after file ≡ Some t → IsClosed closer t) where
  -- the stores that were taken came back, but for those that are lost
  pub are-back : (old mid new : BaySeen) (lost : List StoreKey) → IsTaken mount old mid (stores_of mount) (stores_in olds) → AreGiven mount mid new (stores_in news) lost
      → Returned mount old new (stores_of mount) lost (StandsAt (stores_in olds) (stores_in news))
  are-back old mid new lost taken given =
      let calm = taken.calm in
      subst (λ (ks : List StoreKey). Returned mount old new ks lost (StandsAt (stores_in olds) (stores_in news))) taken.which
      (returned-of mount old mid new (stores_in olds) (stores_in news) lost (StandsAt (stores_in olds) (stores_in news)) taken.out (omega (arith, calm))
      (became-files olds news (number-news mount before after olds news run) (over-pairs mount before after olds news run)) given)

  pub leaves : (file : ℕ) (f g : FileSeen) → slice_get olds file ≡ Some f → slice_get news file ≡ Some g → LeavesFile mount (slice_get closing file) (log_of (logs after) file) f g (get_or run.told file [])
  leaves file f g was is =
      let found = file-run mount before after olds news file f g run was is in
      let r = found.0 in
      subst (λ (ns : List (Option Notice)). LeavesFile mount (slice_get closing file) (log_of (logs after) file) f g ns) found.1
      (file-left mount after file f g r (slice_get closing file) (λ done. (closed file r.t1 done r.there1).whole))

  -- the logs of the files
  of-files : StandsByFirst mount.tree → length closing ≡ length mount.files → AreOfFiles mount closer closing (logs after)
  of-files first all =
      let files = run.of.number in
      let many = number-news mount before after olds news run in
      let towers = shut-length 0 after news run.shut in
      record {
        number = length-logs after ∙ (sym towers ∙ (many ∙ files));
        each = λ file lt.
            let f = there olds file (omega (arith, lt, files)) in
            let g = there news file (omega (arith, lt, files, many)) in
            file-log mount after file f.0 g.0 (file-run mount before after olds news file f.0 g.0 run f.1 g.1).0 first;
        ended = λ file done.
            let within = slice_get_within closing file Done done in
            let t = there after file (omega (arith, within, all, files, many, towers)) in
            subst (λ (l : List Logged). EndsSynced closer (trail_of l)) (sym (log_at-tower after file t.0 t.1)) (closed file t.0 done t.1).ends;
      }

-- the stores that go back are those of the stack
pub news-keys : (mount : Mount) (before after : List TowerSeen) (olds news : List FileSeen) → IsRunOver mount before after olds news → keys_of (stores_in news) ≡ stores_of mount
news-keys mount before after olds news run =
    pairs-keys Lasts (stores_in olds) (stores_in news) (pairs-in Lasts olds news (number-news mount before after olds news run) (over-pairs mount before after olds news run)) ∙ keys-in mount olds run.of.each run.of.number

pub news-short : (mount : Mount) (before after : List TowerSeen) (olds news : List FileSeen) → IsRunOver mount before after olds news → (at : ℕ) (f : FileSeen) → slice_get news at ≡ Some f → length f.stores < 2 ^ 32
news-short mount before after olds news run =
    short-after Lasts mount olds news run.of.each (number-news mount before after olds news run) (over-pairs mount before after olds news run)

pub has-stores : (mount : Mount) (before after : List TowerSeen) (olds news : List FileSeen) → IsRunOver mount before after olds news → HasStores mount news
has-stores mount before after olds news run = record { keys = news-keys mount before after olds news run; short = news-short mount before after olds news run }

reported-is : (mount : Mount) (file : FileEntry) (e : EngineSeen) → IsSound e → tree_in e ≡ mount.tree → (file_in e).page_size ≡ mount.page_size → (file_in e).pages ≡ file.pages → IsReported mount file (log_in e)
reported-is mount file e sound tree size many = record {
  run = subst (λ (t : TreeShape). IsRun t file.pages start (events_in e)) tree (subst (λ n. IsRun (tree_in e) n start (events_in e)) many sound.true_to.run);
  fits = subst (λ n. AllByRecursion (FitsFile n file.pages) (events_in e)) size (subst (λ n. AllByRecursion (FitsFile (file_in e).page_size n) (events_in e)) many sound.true_to.fits);
  few = sound.few;
}

-- the logs of closed towers
shut-reported : (mount : Mount) (files : List FileEntry) (n : ℕ) (ts : List TowerSeen) (gs : List FileSeen) → AreFrames mount files (frames ts) → AreShut n ts gs → AreReported mount files (logs ts)
shut-reported mount [] n [] gs h k = tt
shut-reported mount [] n (t ∷ ts) gs h k = absurd h
shut-reported mount (f ∷ fs) n [] gs h k = absurd h
shut-reported mount (f ∷ fs) n (t ∷ ts) [] h k = absurd k
shut-reported mount (f ∷ fs) n (t ∷ ts) (g ∷ gs) h k = (reported-is mount f t.engine k.0.sound h.0 h.1 h.2, shut-reported mount fs (suc n) ts gs h.3 k.1)

-- a log for each file
pub logs-over : (mount : Mount) (after : List TowerSeen) (news : List FileSeen) → AreOfStack mount after → AreShut 0 after news → AreReported mount mount.files (logs after)
logs-over mount after news may shut = shut-reported mount mount.files 0 after news may shut

shut-numbered : (n : ℕ) (ts : List TowerSeen) (gs : List FileSeen) → AreShut n ts gs → AllByRecursion (λ l. IsNumbered (trail_of l)) (logs ts)
shut-numbered n [] gs k = tt
shut-numbered n (t ∷ ts) [] k = absurd k
shut-numbered n (t ∷ ts) (g ∷ gs) k = (k.0.sound.numbered, shut-numbered (suc n) ts gs k.1)

-- the logs before were empty
starts-are : (end : ℕ) (before after : List TowerSeen) → AreTowersBack end before after → AllByRecursion IsUnwritten before → logs before ≡ map start_of (logs after)
starts-are end [] [] back none = refl
starts-are end [] (t ∷ ts) back none = absurd back
starts-are end (t ∷ ts) [] back none = absurd back
starts-are end (t ∷ ts) (u ∷ us) back none =
    ap (λ (l : List Logged). l ∷ logs ts) none.0 ∙ ap (λ (ls : List (List Logged)). start_of (log_in u.engine) ∷ ls) (starts-are end ts us back.1 none.1)

-- the run of the files
pub played-over : (mount : Mount) (loss : Option ℕ) (script : Script) (before mid after : BaySeen) (towers towers_after : List TowerSeen) (names : NamesSeen) (olds news : List FileSeen) (lost : List StoreKey) (said : List (List Said)) (closing : List Reply)
    → IsMount mount → IsTaken mount before mid (stores_of mount) (stores_in olds) → (run : IsRunOver mount towers towers_after olds news) → ArePlayed mount loss script towers towers_after names said closing → AreGiven mount mid after (stores_in news) lost
    → Played mount loss script before after (record { logs = logs towers_after; names = names }) said closing lost (all_notices mount run.told)
played-over mount loss script before mid after towers towers_after names olds news lost said closing is_mount taken run played given =
    let unwritten = unwritten-opened mount olds towers run.opened in
    record {
      olds = olds;
      news = news;
      told = run.told;
      many_told = ended-length run.ended ∙ (sym (shut-length 0 towers_after news run.shut) ∙ number-news mount towers towers_after olds news run);
      lines = refl;
      of = run.of;
      same = record { many = number-news mount towers towers_after olds news run; pairs = over-pairs mount towers towers_after olds news run };
      stores = are-back mount (length script.clients) towers towers_after olds news closing run played.closed before mid after lost taken given;
      leaves = leaves mount (length script.clients) towers towers_after olds news closing run played.closed;
      files = of-files mount (length script.clients) towers towers_after olds news closing run played.closed (stands-by-first mount is_mount) played.closing_each;
      fits = subst (λ (ls : List (List Logged)). FitsScript mount loss script (record { logs = ls; names = unnamed mount }) (record { logs = logs towers_after; names = names }) said closing) (starts-are run.end towers towers_after run.back unwritten) (played.fits (shut-numbered 0 towers_after news run.shut));
      answered = played.answered;
    }

-- its files are those that were taken
pub played-olds : (mount : Mount) (loss : Option ℕ) (script : Script) (before mid after : BaySeen) (towers towers_after : List TowerSeen) (names : NamesSeen) (olds news : List FileSeen) (lost : List StoreKey) (said : List (List Said)) (closing : List Reply)
    → (is_mount : IsMount mount) → (taken : IsTaken mount before mid (stores_of mount) (stores_in olds)) → (run : IsRunOver mount towers towers_after olds news) → (played : ArePlayed mount loss script towers towers_after names said closing) → (given : AreGiven mount mid after (stores_in news) lost)
    → (played-over mount loss script before mid after towers towers_after names olds news lost said closing is_mount taken run played given).olds ≡ olds
unfolding played-over
played-olds mount loss script before mid after towers towers_after names olds news lost said closing is_mount taken run played given = refl

-- the run, by what was written of it
pub run-over : (mount : Mount) (loss : Option ℕ) (script : Script) (traced : Option Ops) (before mid after : BaySeen) (towers towers_after : List TowerSeen) (names : NamesSeen) (olds news : List FileSeen) (lost : List StoreKey) (said : List (List Said)) (closing : List Reply)
    (ls : List (List Logged)) (old new : SinkSeen) (status result : Status) → IsMount mount → IsTaken mount before mid (stores_of mount) (stores_in olds) → (run : IsRunOver mount towers towers_after olds news) → ArePlayed mount loss script towers towers_after names said closing
    → AreGiven mount mid after (stores_in news) lost → ls ≡ logs towers_after → status ≡ status_of said closing lost → Tells mount script traced (record { logs = ls; names = names }) said closing lost status old new result → Written (SaysRun mount loss script traced before after (all_notices mount run.told)) old new result
run-over mount loss script traced before mid after towers towers_after names olds news lost said closing ls old new status result is_mount taken run played given is how tells =
    let p = played-over mount loss script before mid after towers towers_after names olds news lost said closing is_mount taken run played given in
    ⊎_elim
    (λ done.
    record {
      text = report mount script traced ls names.history said closing lost;
      status = status;
      says = reported (record { logs = logs towers_after; names = names }) said closing lost p (ap (λ (l : List (List Logged)). report mount script traced l names.history said closing lost) is) how;
      ends = done;
    })
    (λ lacked. record { text = lost_text mount lost; status = statuses.Memory; says = ran_out (record { logs = logs towers_after; names = names }) said closing lost p refl refl; ends = lacked })
    tells
