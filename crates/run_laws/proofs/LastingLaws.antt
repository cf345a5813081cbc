-- What a sync made lasting, over any list of the program's sittings behind it.
use Rattle.std.proofs.Common.{ℕ, List, []}
use Rattle.mirror_rules.specs.Tree.{Image}
use Rattle.mirror_rules.specs.Guards.{Direct}
use Rattle.mirror_rules.specs.History.{Chain, Lived, Rests}
use Rattle.run_files.proofs.PromiseLaws.{each-sync-lasts, runs-go-on}
use Rattle.run_laws.specs.Lasting.{DumpsShowTheSync, RunsShowTheSync, SinceSync, SittingsAreChains, sync_made, sync_ran, sync_sat}
use Rattle.run_laws.proofs.SittingLaws.{each-sync-is-dumped, sittings-go-on}

pub are-chains : {n : ℕ} {Vs : List (ℕ → ℕ → List ℕ)} {past next counts : List Image} → SinceSync n Vs past next counts → Chain Direct n (Lived Vs []) (Rests past next counts)
are-chains (sync_made {s = s} {past = past} {next = next} {counts = counts} {for_run = for_run} {for_sync = for_sync} {from = from} run chain to last high) =
    (runs-go-on run s past next counts for_run for_sync chain to high).1 from last
are-chains (sync_ran {Vs = Vs} {past = past} {next = next} {counts = counts} {for_run = for_run} {for_sync = for_sync} run since to high) =
    (runs-go-on run (Lived Vs []) past next counts for_run for_sync (are-chains since) to high).0
are-chains (sync_sat {Vs = Vs} {past = past} {next = next} {counts = counts} {for_run = for_run} {for_sync = for_sync} {run_then = run_then} {sync_then = sync_then} {ss = ss} {ts = ts} mount f g since tells to sits) =
    sittings-go-on mount f g tells (Lived Vs []) past next counts ss ts for_run for_sync run_then sync_then (are-chains since) to sits

pub sittings-are-chains : SittingsAreChains
sittings-are-chains pages Vs past next counts since = are-chains since

pub runs-show : RunsShowTheSync
runs-show run Vs past next counts since comes counted = each-sync-lasts run Vs past next counts (are-chains since) comes counted

pub dumps-show : DumpsShowTheSync
dumps-show mount f g look pages are tells Vs past next counts since comes counted = each-sync-is-dumped mount f g look pages are tells Vs past next counts (are-chains since) comes counted
