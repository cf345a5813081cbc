-- From files that were read, and a script that was run over them, to the sum; and where the script was not run.
use Rattle.std.specs.Global.{Vec}
use Rattle.std.specs.declared.alloc.AllocError.{AllocError}
use Rattle.std.proofs.Common.{◌≡◌, ⊎_elim, IfOk, Result, Ok, Err, ℕ, zero, suc, ◌+◌, ◌*◌, ◌<◌, ◌++◌, List, [], ◌∷◌, length, take, drop, Option, Some, None, IfSome, refl, sym, ap, subst, ◌∙◌, arith}
use Rattle.std.specs.Prelude.{slice_get}
use Rattle.std.specs.List.{AllByRecursion}
use Rattle.std.proofs.lemmas.Option.{slice_get_within}
use Rattle.hist_plain.specs.File.{Counted}
use Rattle.script_text.specs.declared.script.CallLine.{CallLine}
use Rattle.script_text.specs.declared.script.Script.{Script}
use Rattle.script_text.specs.declared.script.Said.{Said}
use Rattle.script_text.specs.declared.script.Reply.{Reply}
use Rattle.script_text.specs.declared.script.Reply.TheVariants.{Done}
use Rattle.stack_accept.specs.Mount.{Mount}
use Rattle.stack_accept.specs.Sound.{IsMount}
use Rattle.spr_io.specs.Berth.{BaySeen}
use Rattle.spr_io.specs.Texts.{SinkSeen}
use Rattle.spr_report.specs.declared.status.Status.{Status}
use Rattle.spr_report.specs.declared.status.Status.TheVariants as statuses
use Rattle.spr_report.specs.Writing.{Finishes}
use Rattle.pager_channel.specs.declared.numbers.Ops.{Ops}
use Rattle.gen_summary.specs.Summary.{summary}
use Rattle.name_context.specs.History.{NamesSeen}
use Rattle.page_ground.specs.Seen.{Seen}
use Rattle.page_ground.specs.Pages.{cut}
use Rattle.disk_format.specs.declared.shape.ImageShape.{ImageShape}
use Rattle.disk_layer.proofs.PageLaws.{length-cut, page-cut, read-all}
use Rattle.page_messages.specs.declared.paged.PagedFile.{PagedFile}
use Rattle.tower_log.specs.declared.logged.Logged.{Logged}
use Rattle.tower_log.specs.Log.{trail_of}
use Rattle.tower_shows.specs.Began.{ArePagesOf}
use Rattle.stack_engine.specs.Engine.{file_in, log_in}
use Rattle.stack_engine.specs.Tower.{TowerSeen}
use Rattle.spr_client.specs.Calls.{AreOfStack}
use Rattle.spr_volume.specs.Passes.{logs}
use Rattle.script_meaning.specs.declared.store.StoreKey.{StoreKey}
use Rattle.script_meaning.specs.Stack.{pages_of}
use Rattle.script_meaning.specs.Log.{Histories, log_of}
use Rattle.script_meaning.specs.Fits.{FitsScript}
use Rattle.mirror_layer.specs.declared.came.Notice.{Notice}
use Rattle.mirror_layer.specs.Ground.{seen_of}
use Rattle.file_stores.specs.declared.stop.Stop.{Stop}
use Rattle.file_stores.specs.declared.stop.Stop.TheVariants as stops
use Rattle.file_stores.specs.Files.{FileSeen, IsFile, stores_in}
use Rattle.file_stores.specs.Held.{AreGiven}
use Rattle.file_stores.specs.Keys.{stores_of}
use Rattle.file_stores.specs.Notices.{all_notices}
use Rattle.file_stores.specs.Opening.{IsOpened}
use Rattle.file_stores.specs.Stop.{lost_text, stop_status, stop_text}
use Rattle.file_stores.specs.Under.{IsSound as IsSoundUnder, Many, One, Under, seen_under}
use Rattle.file_stores.specs.Written.{Written, WrittenBeside}
use Rattle.file_stores.proofs.Lists.{some-is, no-item, there}
use Rattle.file_stores.proofs.NoticeLaws.{written-alone}
use Rattle.file_stores.proofs.ReadLaws.{ground-many}
use Rattle.run_files.specs.declared.run.Wanted.{Wanted}
use Rattle.run_files.specs.declared.run.Wanted.TheVariants.{Report, Sum}
use Rattle.run_files.specs.Beginning.{AreRead, AreTried, AreUnread, IsRead, IsTried, IsUnread, no_room, failed}
use Rattle.run_files.specs.Begun.{BeganAs, IsSized, Opening, begun_as, file_then}
use Rattle.run_files.specs.Ended.{status_of}
use Rattle.run_files.specs.Held.{AreEnded, AreFiles, AreMade, AreShut, IsTaken, Opens, OpensEach}
use Rattle.run_files.specs.Play.{ArePlayed, IsClosed, IsUnwritten, unnamed}
use Rattle.run_files.specs.Run.{Played, traced_by}
use Rattle.run_files.specs.Sums.{AreLasts, BeginsAs, EndsAs, IsHalt, IsUnplayed, SaysSum, SumTold, Summed, memory, ran_out, stopped, summed, summed_calls, told, unplayed, unread, untold}
use Rattle.run_files.specs.Told.{Stopped}
use Rattle.run_files.specs.Wanted.{SaysWanted}
use Rattle.run_files.proofs.BeginLaws.{back-since, back-tried, length-read, length-tried}
use Rattle.run_files.proofs.HeldLaws.{ended-length, length-logs, opens-at, opens-length, shut-length}
use Rattle.run_files.proofs.OnlyLaws.{first-number, first-shape, ground-of, only-alike, only-opened, only-sound}
use Rattle.run_files.proofs.FirstLaws.{stands-by-first}
use Rattle.run_files.proofs.RunLaws.{IsRunOver, are-back, file-log, file-run, leaves, number-news, over-pairs, played-olds, played-over, towers-opened, unwritten-opened}
use Rattle.run_files.proofs.StopLaws.{run-stopped}
use Rattle.run_files.proofs.TowerLaws.{log_at-tower, same-number, towers-stay}

-- THE BYTES WITH WHICH A FILE BEGAN, by what lay under it
begins-of : (mount : Mount) (f : FileSeen) (made : List (Option Notice)) (u : Under) (opening : Opening) → IsFile mount f → IsOpened mount f made u → IsSized (begun_as mount f.file opening)
    → IfSome (seen_under u).pages (BeganAs (begun_as mount f.file opening)) → BeginsAs mount f opening
begins-of mount f made (One a) opening is over sized began = record {
  sized = sized;
  opened = ground-of a;
  over = only-opened mount f over.0 a is over.1 over.2 over.3;
  began = subst (λ (o : Option (List (List ℕ))). IfSome o (BeganAs (begun_as mount f.file opening))) (sym (only-alike a).pages) began;
}
begins-of mount f made (Many g) opening is over sized began = record { sized = sized; opened = g; over = over.1.over; began = began }

-- as many pages lie under a file as it has, if they are told
many-under : (mount : Mount) (f : FileSeen) (made : List (Option Notice)) (u : Under) → IsFile mount f → IsOpened mount f made u → IsSoundUnder u → IfSome (seen_under u).pages (λ ps. length ps ≡ pages_of mount f.file)
many-under mount f made (One a) is over sound =
    subst (λ (o : Option (List (List ℕ))). IfSome o (λ ps. length ps ≡ pages_of mount f.file)) (only-alike a).pages
    (subst (λ n. IfSome (seen_of (ground-of a)).pages (λ ps. length ps ≡ n)) (ap (λ (s : ImageShape). s.pages) (first-shape mount f over.0 a is over.1 over.2 over.3))
    (ground-many (ground-of a) (only-sound a sound.0 sound.1 sound.2 (first-number mount f over.0 a is over.1 over.2 over.3)).0))
many-under mount f made (Many g) is over sound = subst (λ n. IfSome (seen_of g).pages (λ ps. length ps ≡ n)) (ap (λ (s : ImageShape). s.pages) over.1.over.shaped) (ground-many g sound.0)

-- bytes that are cut into pages are those of these pages
cut-are : (size n : ℕ) (bytes : List ℕ) → ArePagesOf size n bytes (cut size n bytes)
cut-are size n bytes = record {
  many = length-cut size n bytes;
  each = λ page lt. let at : page * size ≡ page * size + 0 = omega arith in page-cut size n page bytes lt ∙ ap (λ k. Some (take size (drop k bytes))) at;
}

cut-began : (size n : ℕ) (bytes : List ℕ) (pages : Option (List (List ℕ))) → IfSome pages (λ ps. ps ≡ cut size n bytes) → IfSome pages (ArePagesOf size n bytes)
cut-began size n bytes None h = tt
cut-began size n bytes (Some ps) h = subst (ArePagesOf size n bytes) (sym h) (cut-are size n bytes)

file-begins : (mount : Mount) (f : FileSeen) (t u : TowerSeen) (bytes : List ℕ) → IsFile mount f → Opens mount f t → IsRead t u bytes → BeginsAs mount f (record { bytes = bytes })
file-begins mount f t u bytes is opens read =
    let file = opens.opens.file_is in
    let many : IfSome t.engine.ground.pages (λ ps. length ps ≡ pages_of mount f.file) =
    subst (λ (s : Seen). IfSome s.pages (λ ps. length ps ≡ pages_of mount f.file)) (sym opens.opens.ground_is) (many-under mount f opens.made opens.under is opens.over opens.under_sound) in
    begins-of mount f opens.made opens.under (record { bytes = bytes }) is opens.over
    (subst (λ (p : PagedFile). length bytes ≡ p.pages * p.page_size) file read.sized)
    (subst (λ (s : Seen). IfSome s.pages (ArePagesOf mount.page_size (pages_of mount f.file) bytes)) opens.opens.ground_is
    (cut-began mount.page_size (pages_of mount f.file) bytes t.engine.ground.pages
    (read-all mount.page_size (pages_of mount f.file) bytes t.engine.ground.pages many
    (subst (λ (p : PagedFile). IfSome t.engine.ground.pages (λ ps. take p.pages ps ≡ cut p.page_size p.pages bytes)) file read.told))))

-- a file that was read
read-at : (ts us : List TowerSeen) (bs : List (List ℕ)) (k : ℕ) (b : List ℕ) → AreRead ts us bs → slice_get bs k ≡ Some b → (t : TowerSeen) × (u : TowerSeen) × (slice_get ts k ≡ Some t) × IsRead t u b
read-at [] [] [] k b are is = absurd (no-item k b is)
read-at (t ∷ ts) (u ∷ us) (c ∷ cs) zero b are is = (t, u, refl, subst (IsRead t u) (some-is c b is) are.0)
read-at (t ∷ ts) (u ∷ us) (c ∷ cs) (suc k) b are is = read-at ts us cs k b are.1 is
read-at [] [] (c ∷ cs) k b are is = absurd are
read-at [] (u ∷ us) [] k b are is = absurd are
read-at [] (u ∷ us) (c ∷ cs) k b are is = absurd are
read-at (t ∷ ts) [] [] k b are is = absurd are
read-at (t ∷ ts) [] (c ∷ cs) k b are is = absurd are
read-at (t ∷ ts) (u ∷ us) [] k b are is = absurd are

logs-read : (ts us : List TowerSeen) (bs : List (List ℕ)) → AreRead ts us bs → logs us ≡ logs ts
logs-read [] [] [] are = refl
logs-read (t ∷ ts) (u ∷ us) (c ∷ cs) are = ap (λ (l : List Logged). l ∷ logs us) are.0.log ∙ ap (λ (ls : List (List Logged)). log_in t.engine ∷ ls) (logs-read ts us cs are.1)
logs-read [] [] (c ∷ cs) are = absurd are
logs-read [] (u ∷ us) [] are = absurd are
logs-read [] (u ∷ us) (c ∷ cs) are = absurd are
logs-read (t ∷ ts) [] [] are = absurd are
logs-read (t ∷ ts) [] (c ∷ cs) are = absurd are
logs-read (t ∷ ts) (u ∷ us) [] are = absurd are

-- what was played over files that were read was played over them as they were opened
pub played-since : (mount : Mount) (loss : Option ℕ) (script : Script) (ts us vs : List TowerSeen) (bs : List (List ℕ)) (names : NamesSeen) (said : List (List Said)) (closing : List Reply) → AreRead ts us bs → ArePlayed mount loss script us vs names said closing → ArePlayed mount loss script ts vs names said closing
played-since mount loss script ts us vs bs names said closing are p = record {
  fits = λ numbered. subst (λ (ls : List (List Logged)). FitsScript mount loss script (record { logs = ls; names = unnamed mount }) (record { logs = logs vs; names = names }) said closing) (logs-read ts us bs are) (p.fits numbered);
  answered = p.answered;
  closed = p.closed;
  later = back-since (suc (length script.clients)) ts us vs bs are p.later;
  said_each = p.said_each;
  closing_each = p.closing_each;
}

-- how many files were read
pub many-bytes : (mount : Mount) (olds : List FileSeen) (ts us : List TowerSeen) (bs : List (List ℕ)) → AreFiles mount olds → OpensEach mount olds ts → AreRead ts us bs → length bs ≡ length mount.files
many-bytes mount olds ts us bs of opened are = (length-read ts us bs are).1 ∙ (opens-length mount olds ts opened ∙ of.number)

-- each has as many bytes as its pages
pub sized-bytes : (mount : Mount) (olds : List FileSeen) (ts us : List TowerSeen) (bs : List (List ℕ)) → AreFiles mount olds → OpensEach mount olds ts → AreRead ts us bs → (at : ℕ) (b : List ℕ) → slice_get bs at ≡ Some b → length b ≡ pages_of mount at * mount.page_size
sized-bytes mount olds ts us bs of opened are at b is =
    let found = read-at ts us bs at b are is in
    let within = slice_get_within bs at b is in
    let many = (length-read ts us bs are).1 in
    let opens = opens-length mount olds ts opened in
    let f = there olds at (omega (arith, within, many, opens)) in
    let own = of.each at f.0 f.1 in
    let begins = file-begins mount f.0 found.0 found.1 b own.1 (opens-at mount olds ts at f.0 found.0 opened f.1 found.2) found.3 in
    subst (λ n. length b ≡ pages_of mount n * mount.page_size) own.0 begins.sized

-- THE SUM, by what was written of it
pub summed-over : (mount : Mount) (loss : Option ℕ) (script : Script) (before mid after : BaySeen) (opened begun towers : List TowerSeen) (bytes : List (List ℕ)) (names : NamesSeen) (olds news : List FileSeen) (lost : List StoreKey) (said : List (List Said)) (closing : List Reply)
    (ls : List (List Logged)) (old new : SinkSeen) (status result : Status) → IsMount mount → IsTaken mount before mid (stores_of mount) (stores_in olds) → (run : IsRunOver mount opened towers olds news) → AreRead opened begun bytes → ArePlayed mount loss script begun towers names said closing
    → AreGiven mount mid after (stores_in news) lost → ls ≡ logs towers → status ≡ status_of said closing lost → SumTold mount script bytes ls said lost status old new result → Written (SaysSum mount loss script before after (all_notices mount run.told)) old new result
summed-over mount loss script before mid after opened begun towers bytes names olds news lost said closing ls old new status result is_mount taken run are played given is how sum = by sum
  where
    p : Played mount loss script before after (record { logs = logs towers; names = names }) said closing lost (all_notices mount run.told)
    p = played-over mount loss script before mid after opened towers names olds news lost said closing is_mount taken run (played-since mount loss script opened begun towers bytes names said closing are played) given

    same : p.olds ≡ olds
    same = played-olds mount loss script before mid after opened towers names olds news lost said closing is_mount taken run (played-since mount loss script opened begun towers bytes names said closing are played) given

    ends-as : (lasts : List Counted) → ((file : ℕ) (b : List ℕ) (last : Counted) → slice_get bytes file ≡ Some b → slice_get lasts file ≡ Some last → last.file ≡ file_then (begun_as mount file (record { bytes = b })) (trail_of (log_of ls file))) → length lasts ≡ length bytes
        → (file : ℕ) (f : FileSeen) (last : Counted) → slice_get olds file ≡ Some f → slice_get lasts file ≡ Some last → EndsAs mount f (log_of (logs towers) file) last
    ends-as lasts ends many file f last was at =
        let within = slice_get_within lasts file last at in
        let b = there bytes file (omega (arith, within, many)) in
        let found = read-at opened begun bytes file b.0 are b.1 in
        let own = run.of.each file f was in
        let opens = opens-at mount olds opened file f found.0 run.opened was found.2 in
        record {
          opening = record { bytes = b.0 };
          begins = file-begins mount f found.0 found.1 b.0 own.1 opens found.3;
          is = subst (λ (l : List (List Logged)). last.file ≡ file_then (begun_as mount f.file (record { bytes = b.0 })) (trail_of (log_of l file))) is
              (subst (λ n. last.file ≡ file_then (begun_as mount n (record { bytes = b.0 })) (trail_of (log_of ls file))) (sym own.0) (ends file b.0 last b.1 at));
        }

    by : SumTold mount script bytes ls said lost status old new result → Written (SaysSum mount loss script before after (all_notices mount run.told)) old new result
    by (told lasts are_lasts done) = record {
      text = summary (summed_calls script) said lasts ++ lost_text mount lost;
      status = status;
      says = summed (record { logs = logs towers; names = names }) said closing lost lasts
          (record { played = p; many = are_lasts.many ∙ many-bytes mount olds opened begun bytes run.of run.opened are; ends = subst (λ (fs : List FileSeen). (file : ℕ) (f : FileSeen) (last : Counted) → slice_get fs file ≡ Some f → slice_get lasts file ≡ Some last → EndsAs mount f (log_of (logs towers) file) last) (sym same) (ends-as lasts are_lasts.each are_lasts.many) }) refl how;
      ends = done;
    }
    by (untold done) = record { text = lost_text mount lost; status = statuses.Memory; says = ran_out (record { logs = logs towers; names = names }) said closing lost p refl refl; ends = done }

-- a file that was tried
tried-at : (caller : ℕ) (ts us : List TowerSeen) (k : ℕ) (u : TowerSeen) → AreTried caller ts us → slice_get us k ≡ Some u → (t : TowerSeen) × (slice_get ts k ≡ Some t) × IsTried caller t u
tried-at caller [] [] k u are is = absurd (no-item k u is)
tried-at caller (t ∷ ts) (v ∷ us) zero u are is = (t, refl, subst (IsTried caller t) (some-is v u is) are.0)
tried-at caller (t ∷ ts) (v ∷ us) (suc k) u are is = tried-at caller ts us k u are.1 is
tried-at caller [] (v ∷ us) k u are is = absurd are
tried-at caller (t ∷ ts) [] k u are is = absurd are

empty-tried : (caller : ℕ) (ts us : List TowerSeen) → AreTried caller ts us → AllByRecursion IsUnwritten ts → (file : ℕ) → trail_of (log_of (logs us) file) ≡ []
empty-tried caller [] [] are none file = refl
empty-tried caller (t ∷ ts) (u ∷ us) are none zero = are.0.events ∙ ap trail_of none.0
empty-tried caller (t ∷ ts) (u ∷ us) are none (suc file) = empty-tried caller ts us are.1 none.1 file
empty-tried caller [] (u ∷ us) are none file = absurd are
empty-tried caller (t ∷ ts) [] are none file = absurd are

-- why the script was not run, by the logs
unplayed-why : (mount : Mount) (caller : ℕ) (olds : List FileSeen) (ts us : List TowerSeen) (stop : Stop) → AreFiles mount olds → OpensEach mount olds ts → AreTried caller ts us → IsHalt caller us stop → IsUnplayed caller (logs us) stop
unplayed-why mount caller olds ts us stop of opened are halt = ⊎_elim (λ e. memory e) (λ u. by u u.why) halt
  where
    by : (u : AreUnread caller us stop) → IsUnread caller u.new stop → IsUnplayed caller (logs us) stop
    by u (no_room e) = memory e
    by u (failed disk count e log) =
        let found = tried-at caller ts us u.at u.new are u.there in
        let within = slice_get_within us u.at u.new u.there in
        let many = length-tried caller ts us are in
        let opens = opens-length mount olds ts opened in
        let f = there olds u.at (omega (arith, within, many, opens)) in
        let own = of.each u.at f.0 f.1 in
        let number : (file_in u.new.engine).number ≡ u.at =
        ap (λ (p : PagedFile). p.number) (found.2.back.later.file.file ∙ (opens-at mount olds ts u.at f.0 found.0 opened f.1 found.1).opens.file_is) ∙ own.0 in
        unread u.at disk count (subst (λ n. stop ≡ stops.Store (record { file = n; disk = disk }) count) number e) (log_at-tower us u.at u.new u.there ∙ log)

-- THE SCRIPT WAS NOT RUN over files that were opened
pub unplayed-over : (mount : Mount) (loss : Option ℕ) (script : Script) (before mid after : BaySeen) (opened towers : List TowerSeen) (olds news : List FileSeen) (lost : List StoreKey) (stop : Stop) (old new : SinkSeen) (result : Status) → IsMount mount → IsTaken mount before mid (stores_of mount) (stores_in olds)
    → (run : IsRunOver mount opened towers olds news) → AreTried (length script.clients) opened towers → IsHalt (length script.clients) towers stop → AreGiven mount mid after (stores_in news) lost
    → Finishes old new (stop_text mount stop lost) (stop_status stop) result → Written (SaysSum mount loss script before after (all_notices mount run.told)) old new result
unplayed-over mount loss script before mid after opened towers olds news lost stop old new result is_mount taken run are halt given done =
    let caller : ℕ = length script.clients in
    record {
      text = stop_text mount stop lost;
      status = stop_status stop;
      says = unplayed stop lost
          (record {
            logs = logs towers;
            why = unplayed-why mount caller olds opened towers stop run.of run.opened are halt;
            number = length-logs towers ∙ (length-tried caller opened towers are ∙ (opens-length mount olds opened run.opened ∙ run.of.number));
            files = λ file lt.
                let files = run.of.number in
                let many = number-news mount opened towers olds news run in
                let f = there olds file (omega (arith, lt, files)) in
                let g = there news file (omega (arith, lt, files, many)) in
                file-log mount towers file f.0 g.0 (file-run mount opened towers olds news file f.0 g.0 run f.1 g.1).0 (stands-by-first mount is_mount);
            empty = empty-tried caller opened towers are (unwritten-opened mount olds opened run.opened);
            olds = olds;
            news = news;
            of = run.of;
            same = record { many = number-news mount opened towers olds news run; pairs = over-pairs mount opened towers olds news run };
            stores = are-back mount caller opened towers olds news [] run (never caller towers) before mid after lost taken given;
            told = run.told;
            many_told = ended-length run.ended ∙ (sym (shut-length 0 towers news run.shut) ∙ number-news mount opened towers olds news run);
            leaves = leaves mount caller opened towers olds news [] run (never caller towers);
            lines = refl;
          })
          refl refl;
      ends = done;
    }
  where
    never : (caller : ℕ) (ts : List TowerSeen) (file : ℕ) (t : TowerSeen) → slice_get {X = Reply} [] file ≡ Some Done → slice_get ts file ≡ Some t → IsClosed caller t
    never caller ts file t e at = absurd (no-item file Done e)

-- the files could not be taken or opened
pub sum-stopped : (mount : Mount) (loss : Option ℕ) (script : Script) (before after : BaySeen) (old new notices : SinkSeen) (result : Status) → Written (Stopped mount before after) old new result → WrittenBeside (SaysSum mount loss script before after) old new notices notices result
sum-stopped mount loss script before after old new notices result w =
    written-alone (SaysSum mount loss script before after) old new notices result (record { text = w.text; status = w.status; says = stopped w.says.stop w.says.lost w.says.halted refl w.says.says w.says.ends; ends = w.ends })

-- whatever is to be written of it
pub wanted-stopped : (mount : Mount) (loss : Option ℕ) (script : Script) (ops : Ops) (wanted : Wanted) (before after : BaySeen) (old new notices : SinkSeen) (result : Status) → Written (Stopped mount before after) old new result → WrittenBeside (SaysWanted mount loss script ops wanted before after) old new notices notices result
wanted-stopped mount loss script ops (Report trace) before after old new notices result w = run-stopped mount loss script (traced_by ops trace) before after old new notices result w
wanted-stopped mount loss script ops Sum before after old new notices result w = sum-stopped mount loss script before after old new notices result w

-- the text of a sum, if there was memory for it
pub text-sums : (mount : Mount) (begun : List (List ℕ)) (ls : List (List Logged)) (calls script_calls : List CallLine) (said : List (List Said)) (files lasts : List Counted) (q : Result (Vec ℕ) AllocError) → calls ≡ script_calls → files ≡ lasts → AreLasts mount begun ls lasts
    → IfOk q (λ text. text.items ≡ summary calls said files) → IfOk q (λ text. (ends : List Counted) × AreLasts mount begun ls ends × (text.items ≡ summary script_calls said ends))
text-sums mount begun ls calls script_calls said files lasts (Err e) c f are h = tt
text-sums mount begun ls calls script_calls said files lasts (Ok text) c f are h = (lasts, are, h ∙ (ap (λ (cs : List CallLine). summary cs said files) c ∙ ap (λ (fs : List Counted). summary script_calls said fs) f))

-- what was read has no event either
pub unwritten-read : (ts us : List TowerSeen) (bs : List (List ℕ)) → AreRead ts us bs → AllByRecursion IsUnwritten ts → AllByRecursion IsUnwritten us
unwritten-read [] [] [] are none = tt
unwritten-read (t ∷ ts) (u ∷ us) (c ∷ cs) are none = (are.0.log ∙ none.0, unwritten-read ts us cs are.1 none.1)
unwritten-read [] [] (c ∷ cs) are none = absurd are
unwritten-read [] (u ∷ us) [] are none = absurd are
unwritten-read [] (u ∷ us) (c ∷ cs) are none = absurd are
unwritten-read (t ∷ ts) [] [] are none = absurd are
unwritten-read (t ∷ ts) [] (c ∷ cs) are none = absurd are
unwritten-read (t ∷ ts) (u ∷ us) [] are none = absurd are

-- THE RUN IS OVER, of files that were read
abbrev pub read-over : (mount : Mount) (loss : Option ℕ) (script : Script) (olds news : List FileSeen) (opened begun towers : List TowerSeen) (bytes : List (List ℕ)) (names : NamesSeen) (said : List (List Said)) (closing : List Reply) (mades tolds : List (List (Option Notice))) → AreFiles mount olds → OpensEach mount olds opened → AreMade mount olds opened mades
    → AreRead opened begun bytes → ArePlayed mount loss script begun towers names said closing → AreShut 0 towers news → AreEnded 0 towers news mades tolds → IsRunOver mount opened towers olds news
read-over mount loss script olds news opened begun towers bytes names said closing mades tolds of opens made are played shut ended = record {
  of = of;
  opened = opens;
  end = suc (length script.clients);
  back = back-since (suc (length script.clients)) opened begun towers bytes are played.later;
  shut = shut;
  mades = mades;
  told = tolds;
  made = made;
  ended = ended;
}

-- or only tried
abbrev pub tried-over : (mount : Mount) (caller : ℕ) (olds news : List FileSeen) (opened towers : List TowerSeen) (mades tolds : List (List (Option Notice))) → AreFiles mount olds → OpensEach mount olds opened → AreMade mount olds opened mades
    → AreTried caller opened towers → AreShut 0 towers news → AreEnded 0 towers news mades tolds → IsRunOver mount opened towers olds news
tried-over mount caller olds news opened towers mades tolds of opens made are shut ended = record {
  of = of;
  opened = opens;
  end = suc caller;
  back = back-tried caller opened towers are;
  shut = shut;
  mades = mades;
  told = tolds;
  made = made;
  ended = ended;
}

-- how many towers there are
pub many-read : (mount : Mount) (loss : Option ℕ) (script : Script) (olds : List FileSeen) (opened begun towers : List TowerSeen) (bytes : List (List ℕ)) (names : NamesSeen) (said : List (List Said)) (closing : List Reply) → AreFiles mount olds → OpensEach mount olds opened
    → AreRead opened begun bytes → ArePlayed mount loss script begun towers names said closing → length towers ≡ length mount.files
many-read mount loss script olds opened begun towers bytes names said closing of opens are played =
    same-number (suc (length script.clients)) begun towers played.later ∙ ((length-read opened begun bytes are).0 ∙ (opens-length mount olds opened opens ∙ of.number))

pub many-tried : (mount : Mount) (caller : ℕ) (olds : List FileSeen) (opened towers : List TowerSeen) → AreFiles mount olds → OpensEach mount olds opened → AreTried caller opened towers → length towers ≡ length mount.files
many-tried mount caller olds opened towers of opens are = length-tried caller opened towers are ∙ (opens-length mount olds opened opens ∙ of.number)

-- the towers are still those of the stack
pub stack-read : (mount : Mount) (loss : Option ℕ) (script : Script) (olds : List FileSeen) (opened begun towers : List TowerSeen) (bytes : List (List ℕ)) (names : NamesSeen) (said : List (List Said)) (closing : List Reply) → AreFiles mount olds → OpensEach mount olds opened
    → AreRead opened begun bytes → ArePlayed mount loss script begun towers names said closing → AreOfStack mount towers
stack-read mount loss script olds opened begun towers bytes names said closing of opens are played =
    towers-stay mount (suc (length script.clients)) opened towers (back-since (suc (length script.clients)) opened begun towers bytes are played.later) (towers-opened mount olds opened of opens)
