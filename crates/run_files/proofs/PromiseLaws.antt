-- What a sync made lasting, from one run to the next.
use Rattle.std.proofs.Common.{◌≡◌, ℕ, zero, suc, ◌<◌, ◌≤◌, Bool, true, List, [], ◌∷◌, ◌++◌, length, Option, Some, None, IfSome, refl, sym, ap, subst, ◌∙◌, arith}
use Rattle.std.specs.Prelude.{Contains, max, slice_get, unwrap_or}
use Rattle.std.specs.List.{fold}
use Rattle.hist_plain.specs.declared.event.Event.{Event}
use Rattle.hist_plain.specs.declared.event.Event.TheVariants.{Synced}
use Rattle.hist_plain.specs.declared.event.Keep.{Keep}
use Rattle.stack_engine.specs.Opened.{from_after, last_from}
use Rattle.spr_io.specs.Content.{Content}
use Rattle.disk_format.specs.declared.shape.ImageShape.{ImageShape}
use Rattle.page_ground.specs.Seen.{Imaged}
use Rattle.disk_format.specs.Image.{image}
use Rattle.mirror_rules.specs.Tree.{Seat, Store as Found}
use Rattle.mirror_rules.specs.Claims.{Pairs}
use Rattle.mirror_rules.specs.Opening.{Good, Opens}
use Rattle.mirror_rules.specs.Guards.{Direct, Leaves, Within, Among}
use Rattle.mirror_rules.specs.History.{Chain, Runs, either, chain_runs, run_goes, run_keeps, chain_rests}
use Rattle.mirror_rules.proofs.RoundLaws.{pairs-map}
use Rattle.mirror_rules.proofs.LevelLaws.{opens-level}
use Rattle.mirror_rules.proofs.ChainLaws.{chain-lasts}
use Rattle.mirror_layer.specs.Calls.{all_told}
use Rattle.mirror_layer.specs.Ground.{live_pages}
use Rattle.mirror_layer.specs.Stores.{Left, left}
use Rattle.mirror_layer.proofs.ChangeLaws.{pages-are}
use Rattle.file_stores.specs.Held.{StoreSeen}
use Rattle.file_stores.proofs.Lists.{some-is}
use Rattle.run_files.specs.Promise.{DiskLastsOn, EachSyncCounts, EachSyncLasts, Follows, NextBegins, RunsGoOn, SinceSyncOnDisk, ToldRun, disk_ran, disk_synced, file_of, first_pages, history, live_first, number_of, shape_of}
use Rattle.run_files.specs.Begun.{Holds, HoldsAll, IsFrom, StandFor, synced_from}
use Rattle.run_files.specs.Leaves.{IsLeft, IsOnly, kept_by}
use Rattle.run_files.proofs.GivenLaws.{lies-told, told-all, pages-shown}
use Rattle.run_files.proofs.VersionLaws.{first-within, lower, within-of}

-- A RUN in a chain
module _ (run : ToldRun) where
  all-tell : all_told run.leaves.opened.beside ≡ true
  all-tell = told-all run.leaves.opened.beside (lies-told run.tells run.leaves.began.seen.lies)

  -- its opening, by disks that all tell what they hold
  opening-told : (owed : Bool) → run.leaves.opened.owed ≡ owed → Opens true (number_of run) run.leaves.began.seen.row (Good owed run.leaves.opened.generation) run.leaves.opened.row
  opening-told owed is =
      subst (λ o. Opens true (number_of run) run.leaves.began.seen.row (Good o run.leaves.opened.generation) run.leaves.opened.row) is
      (subst (λ t. Opens t (number_of run) run.leaves.began.seen.row (Good run.leaves.opened.owed run.leaves.opened.generation) run.leaves.opened.row) all-tell run.leaves.began.opens)

  closed-leaves : Pairs (Leaves Direct) run.leaves.closed.row run.leaves.ended.seen
  closed-leaves = pairs-map (λ x s. one) run.leaves.ended.left
    where
      one : {x : Seat} {s : Found} → Left x s → Leaves Direct x s
      one (left shows count kept) = shows

  -- pages that its live disks have are those that it began with
  first-shown : (F : List (List ℕ)) → live_pages run.leaves.opened.row ≡ F → F ≡ first_pages run
  first-shown F is = some-is F (first_pages run) (sym (pages-shown (all_told run.leaves.opened.beside) (live_pages run.leaves.opened.row) F all-tell is) ∙ (run.leaves.told run.tells).is.shown)

pub runs-go-on : RunsGoOn
runs-go-on run s past next counts for_run for_sync chain to high =
    let told = (run.leaves.told run.tells).is in
    let went = told.went in
    let rises = went.rises in
    let owed = run.leaves.owes to.owes in
    let opened : Chain Direct (number_of run) s (Runs past counts (either for_sync (live_first run)) true run.leaves.opened.generation run.leaves.opened.row) =
    chain_runs chain to.comes to.marked run.leaves.began.seen.meets to.up (opening-told run true owed) (omega (arith, rises, high)) in
    let leaves = closed-leaves run in
    (chain_rests (run_goes refl opened went (omega (arith, high))) leaves, λ from last. chain_rests (run_keeps refl opened went (told.synced from last owed) high) leaves)

pub each-sync-lasts : EachSyncLasts
each-sync-lasts run Vs past next counts chain comes counted =
    let opens = opening-told run run.leaves.opened.owed refl in
    let given = chain-lasts chain comes run.leaves.began.seen.meets opens counted.up counted.counted in
    let level = opens-level opens run.leaves.began.seen.meets in
    subst (λ (F : List (List ℕ)). Within (Among Vs) F) (first-shown run given.0 (pages-are given.1 level.1)) given.2

-- EACH SYNC
-- the latest place never falls
grown : (trail : List Event) (found : ℕ) → (latest : ℕ) × (fold from_after (Some found) trail ≡ Some latest) × (found ≤ latest)
grown [] found = (found, refl, omega arith)
grown (Synced caller number node from keep ∷ trail) found =
    let rest = grown trail (max found from) in let up = rest.2 in (rest.0, rest.1, omega (arith, up))
grown (event ∷ trail) found = grown trail found

each-from : (trail : List Event) (found : Option ℕ) (place caller number node from : ℕ) (keep : Keep) → slice_get trail place ≡ Some (Synced caller number node from keep) → (latest : ℕ) × (fold from_after found trail ≡ Some latest) × (from ≤ latest)
each-from [] found place caller number node from keep at = absurd cc
each-from (event ∷ trail) found zero caller number node from keep at =
    let same : event ≡ Synced caller number node from keep = some-is event (Synced caller number node from keep) at in
    let rest = grown trail (max (unwrap_or found 0) from) in
    let up = rest.2 in
    (rest.0, ap (λ (e : Event). fold from_after (from_after found e) trail) same ∙ rest.1, omega (arith, up))
each-from (event ∷ trail) found (suc place) caller number node from keep at = each-from trail (from_after found event) place caller number node from keep at

pub each-sync : EachSyncCounts
each-sync trail place caller number node from keep at = each-from trail None place caller number node from keep at

-- A FILE ON ONE DISK
one-of : (xs : List StoreSeen) → length xs ≡ 1 → (x : StoreSeen) × (xs ≡ x ∷ [])
one-of [] many = absurd (omega (arith, many))
one-of (x ∷ []) many = (x, refl)
one-of (x ∷ y ∷ xs) many = absurd (omega (arith, many))

-- its store, as a run left it
module _ (run : ToldRun) (last : StoreSeen) (is : run.after.stores ≡ last ∷ []) where
  first : (old : StoreSeen) × (run.before.stores ≡ old ∷ [])
  first = one-of run.before.stores (sym run.leaves.disks.many ∙ ap (λ (ss : List StoreSeen). length ss) is)

  left-told : IsLeft (file_of run) run.closing run.log (kept_by run.leaves.opened 0) last.state.content
  left-told =
      (run.leaves.told run.tells).is.lasts 0 first.0 last (ap (λ (ss : List StoreSeen). slice_get ss 0) first.1, ap (λ (ss : List StoreSeen). slice_get ss 0) is)
      (subst (λ (ns : List ℕ). Contains ns 0) (sym (run.leaves.only first.0 last first.1 is).live) (0, omega arith, refl))

-- and as a run took it: an image with the pages that the file began with
came-told : (next : ToldRun) (came : StoreSeen) (c : Content) → next.before.stores ≡ came ∷ [] → came.state.content ≡ Some c → image (shape_of next) c.blocks ≡ Some (record { generation = next.leaves.opened.generation; pages = first_pages next })
came-told next came c is told =
    let last = one-of next.after.stores (next.leaves.disks.many ∙ ap (λ (ss : List StoreSeen). length ss) is) in
    let only : IsOnly (shape_of next) next.log next.leaves.opened next.leaves.closed next.notices came last.0 = next.leaves.only came last.0 is last.1 in
    let found : image (shape_of next) c.blocks ≡ Some (record { generation = next.leaves.opened.generation; pages = live_pages next.leaves.opened.row }) =
    subst (λ (o : Option Content). IfSome o (λ k. image (shape_of next) k.blocks ≡ Some (let i : Imaged = record { generation = next.leaves.opened.generation; pages = live_pages next.leaves.opened.row } in i))) told only.came in
    found ∙ ap (λ (ps : List (List ℕ)). let i : Imaged = record { generation = next.leaves.opened.generation; pages = ps } in Some i) (first-shown next (live_pages next.leaves.opened.row) refl)

-- what is so of the image that a run left is so of the pages that the next one began with
begins : (run next : ToldRun) (h : Follows run next) (P : List (List ℕ) → Type 0) → StandFor (shape_of run) P (left-told run h.left h.left_is).new.blocks → P (first_pages next)
begins run next h P (found, is, holds) =
    let was = left-told run h.left h.left_is in
    let first = came-told next h.came was.new h.came_is (h.same ∙ was.still) in
    let same = some-is found _ (sym is ∙ (ap (λ (s : ImageShape). image s was.new.blocks) (sym h.shape) ∙ first)) in
    subst (λ (i : Imaged). P i.pages) same holds

pub next-begins : NextBegins
next-begins run next h =
    let was = left-told run h.left h.left_is in
    (begins run next h (Holds (file_of run) run.log (synced_from run.log)) was.reads, λ done. begins run next h (HoldsAll (file_of run) run.log) (was.reads_all done))

guarded-on-disk : {Vs : List (ℕ → ℕ → List ℕ)} {last : ToldRun} → SinceSyncOnDisk Vs last → (store : StoreSeen) (is : last.after.stores ≡ store ∷ []) → StandFor (shape_of last) (Within (Among Vs)) (left-told last store is).new.blocks
guarded-on-disk (disk_synced {from = from} run last) store is =
    let now = left-told run store is in
    let since : IsFrom (file_of run) run.log from now.new.blocks = subst (λ (o : Option ℕ). IsFrom (file_of run) run.log (unwrap_or o 0) now.new.blocks) last now.reads in
    (since.0, since.1, within-of (file_of run) run.log from (since.0).pages since.2)
guarded-on-disk (disk_ran {Vs = Vs} since run h) store is =
    let now = (left-told run store is).reads in
    (now.0, now.1, first-within (history run 0) Vs (now.0).pages (within-of (file_of run) run.log 0 (now.0).pages (lower (file_of run) run.log (synced_from run.log) (now.0).pages now.2)))

pub disk-lasts-on : DiskLastsOn
disk-lasts-on Vs last next since h = begins last next h (Within (Among Vs)) (guarded-on-disk since h.left h.left_is)
