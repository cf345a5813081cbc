-- What a run promises of a file, from what it leaves.
use Rattle.std.proofs.Common.{◌≡◌, ℕ, ◌≤◌, List, [], Option, Some, subst, arith, get_or}
use Rattle.std.specs.Prelude.{slice_get}
use Rattle.hist_plain.specs.declared.event.Event.TheVariants.{Synced}
use Rattle.hist_plain.specs.declared.event.Keep.{Keep}
use Rattle.script_text.specs.declared.script.Reply.{Reply}
use Rattle.stack_accept.specs.Mount.{Mount}
use Rattle.tower_log.specs.declared.logged.Logged.{Logged}
use Rattle.tower_log.specs.Log.{trail_of}
use Rattle.script_meaning.specs.Log.{log_of}
use Rattle.file_stores.specs.Files.{FileSeen}
use Rattle.mirror_layer.specs.declared.came.Notice.{Notice}
use Rattle.run_files.specs.Begun.{Begun, IsFrom}
use Rattle.run_files.specs.Headline.{Headline, IsHeadline}
use Rattle.run_files.specs.Leaves.{IsKept, LeavesFile, TellsAll, live_of}
use Rattle.run_files.proofs.PromiseLaws.{each-sync}

-- an image of the file from a place on is one from an earlier place on
from-earlier : (b : Begun) (log : List Logged) (from latest : ℕ) (blocks : List (List ℕ)) → from ≤ latest → IsFrom b log latest blocks → IsFrom b log from blocks
from-earlier b log from latest blocks le (found, is, since) =
    (found, is, λ page bytes at. let s = since page bytes at in let low = s.not_before in record { place = s.place; not_before = omega (arith, le, low); not_after = s.not_after; is = s.is })

-- what is kept behind the latest sync is kept behind each
keeps-each : (b : Begun) (closing : Option Reply) (log : List Logged) (first : Option (List (List ℕ))) (kept : List (List ℕ)) → IsKept b closing log first kept
    → (place caller number node from : ℕ) (keep : Keep) → slice_get (trail_of log) place ≡ Some (Synced caller number node from keep) → IsFrom b log from kept
keeps-each b closing log first kept is place caller number node from keep at =
    let latest = each-sync (trail_of log) place caller number node from keep at in
    from-earlier b log from latest.0 kept latest.2 (is.synced latest.0 latest.1)

left-headline : (mount : Mount) (closing : Option Reply) (log : List Logged) (f g : FileSeen) (notices : List (Option Notice)) (leaves : LeavesFile mount closing log f g notices) → TellsAll f → IsHeadline mount f.file log f g (live_of leaves.closed)
left-headline mount closing log f g notices leaves tells =
    let told = leaves.told tells in
    record {
      opening = told.opening;
      legal = told.is.along.legal;
      answers = told.is.along.answers;
      synced = λ place caller number node from keep at disk old new live store.
          let left = told.is.lasts disk old new store live in
          (left.new, left.still, keeps-each _ closing log _ left.new.kept left.kept place caller number node from keep at);
    }

pub headline-is : Headline
headline-is mount loss script before after h said closing lost notices played file f g at to tells =
    let files = played.of.each file f at in
    let leaves = played.leaves file f g at to in
    subst (λ n. IsHeadline mount n (log_of h.logs file) f g (live_of leaves.closed)) files.0 (left-headline mount (slice_get closing file) (log_of h.logs file) f g (get_or played.told file []) leaves tells)
