use Rattle.std.proofs.Common.{◌≡◌, ◌+◌, ◌*◌, ◌<◌, ◌≤◌, ℕ, List, length, map, take, drop, Some, refl, sym, ap, subst, ◌∙◌, arith, length-append}
use Rattle.std.specs.Prelude.{slice_get}
use Rattle.std.proofs.lemmas.List.{length-map, length-take, length-drop, length_push}
use Rattle.hist_plain.specs.declared.event.Event.{Event}
use Rattle.hist_plain.specs.File.{Counted}
use Rattle.hist_plain.specs.Plain.{fresh}
use Rattle.hist_plain.specs.History.{replay}
use Rattle.tower_core.specs.TreeShape.{TreeShape}
use Rattle.tower_log.specs.Log.{trail_of}
use Rattle.tower_log.specs.Trail.{TrailSeen}
use Rattle.tower_log.specs.declared.logged.Logged.{Logged}
use Rattle.stack_accept.specs.Mount.{Mount}
use Rattle.script_meaning.specs.Log.{log_of}
use Rattle.script_meaning.specs.Stack.{pages_of}
use Rattle.run_files.specs.Lasting.{CanPlay}
use Rattle.run_files.specs.Begun.{begun_as, file_then}
use Rattle.file_stores.proofs.Lists.{there}
use Rattle.run_files.proofs.LastLaws.{Ends, bytes-at, can-play, ends-more, limits-at, log-at, pages-entry, reported-at, reported-many}
use Rattle.run_files.proofs.lasting.files_at_end.Goals as goal

pub bounds-logs-file : goal.bounds-logs-file
bounds-logs-file c =
    let low = c.loop-file-test.true in
    let begun = c.requires.begun in
    let ls : List (List Logged) = map (λ t. t.log) c.args.logs.now in
    let many = reported-many c.args.mount.now c.args.mount.now.files ls c.requires.logs in
    let same : length ls ≡ length c.args.logs.now = length-map c.args.logs.now (λ (t : TrailSeen). t.log) in
    omega (arith, low, begun, many, same)

pub file_at_end-requires-clause-pages : goal.file_at_end-requires-clause-pages
file_at_end-requires-clause-pages c =
    let mount : Mount = c.args.mount.now in
    let k = c.loop-file.file in
    let low = c.loop-file-test.true in
    let begun = c.requires.begun in
    let f = there mount.files k (omega (arith, low, begun)) in
    let limits = limits-at mount.files k f.0 c.requires.sound.pages f.1 in
    let pages = pages-entry mount k f.0 f.1 in
    let sized : length c.index-begun-file.result.items ≡ pages_of mount k * mount.page_size = c.requires.sized k c.index-begun-file.result.items (bytes-at c.args.begun.now k c.index-begun-file.result low c.index-begun-file.is) in
    let some = limits.0 in
    let few = limits.1 in (
      pages_of mount k,
      omega (arith, some, pages),
      omega (arith, few, pages),
      ap length c.deref-in-loop-file.ensures.value ∙ (sized ∙ ap (λ n. pages_of mount k * n) (sym c.page_size-page_size.ensures.value)),
    )

pub file_at_end-requires-clause-plays : goal.file_at_end-requires-clause-plays
file_at_end-requires-clause-plays c =
    let mount : Mount = c.args.mount.now in
    let k = c.loop-file.file in
    let low = c.loop-file-test.true in
    let begun = c.requires.begun in
    let f = there mount.files k (omega (arith, low, begun)) in
    let bytes : List ℕ = c.index-begun-file.result.items in
    let sized : length bytes ≡ pages_of mount k * mount.page_size = c.requires.sized k bytes (bytes-at c.args.begun.now k c.index-begun-file.result low c.index-begun-file.is) in
    let ls : List (List Logged) = map (λ t. t.log) c.args.logs.now in
    let many = reported-many mount mount.files ls c.requires.logs in
    let same : length ls ≡ length c.args.logs.now = length-map c.args.logs.now (λ (t : TrailSeen). t.log) in
    let log : log_of ls k ≡ c.index-logs-file.result.log = log-at c.args.logs.now k c.index-logs-file.result (omega (arith, low, begun, many, same)) c.index-logs-file.is in
    let reported = reported-at mount mount.files ls k f.0 c.requires.logs f.1 in
    let plays : CanPlay (record { shape = record { page_size = mount.page_size; parents = mount.tree.parents }; file = fresh mount.tree.parents bytes; len = 0 }) (trail_of (log_of ls k)) mount.page_size =
    can-play mount.tree mount.page_size (f.0).pages bytes (trail_of (log_of ls k)) (sized ∙ ap (λ n. n * mount.page_size) (pages-entry mount k f.0 f.1)) reported.run reported.fits reported.few in
    let parents : c.deref.result.now ≡ mount.tree.parents = c.deref.ensures.value ∙ (c.in_ok-parents.ensures ∙ ap (λ (t : TreeShape). t.parents) c.tree.ensures.value) in
    let room : length c.deref_mut.result.now ≡ mount.page_size = ap length c.deref_mut.ensures.value ∙ c.loop-file.invariant.room in
    subst (λ n. CanPlay (record { shape = record { page_size = c.page_size-page_size.result; parents = c.deref.result.now }; file = fresh c.deref.result.now c.deref-in-loop-file.result.now; len = 0 }) (trail_of c.index-logs-file.result.log) n) (sym room)
    (subst (λ (bs : List ℕ). CanPlay (record { shape = record { page_size = c.page_size-page_size.result; parents = c.deref.result.now }; file = fresh c.deref.result.now bs; len = 0 }) (trail_of c.index-logs-file.result.log) mount.page_size) (sym c.deref-in-loop-file.ensures.value)
    (subst (λ n. CanPlay (record { shape = record { page_size = n; parents = c.deref.result.now }; file = fresh c.deref.result.now bytes; len = 0 }) (trail_of c.index-logs-file.result.log) mount.page_size) (sym c.page_size-page_size.ensures.value)
    (subst (λ (ps : List ℕ). CanPlay (record { shape = record { page_size = mount.page_size; parents = ps }; file = fresh ps bytes; len = 0 }) (trail_of c.index-logs-file.result.log) mount.page_size) (sym parents)
    (subst (λ (l : List Logged). CanPlay (record { shape = record { page_size = mount.page_size; parents = mount.tree.parents }; file = fresh mount.tree.parents bytes; len = 0 }) (trail_of l) mount.page_size) log plays))))

pub loop-file-preserved : goal.loop-file-preserved
loop-file-preserved c =
    let mount : Mount = c.args.mount.now in
    let k = c.loop-file.file in
    let low = c.loop-file-test.true in
    let begun = c.requires.begun in
    let i = c.loop-file.invariant in
    let bytes : List ℕ = c.index-begun-file.result.items in
    let at : slice_get (map (λ b. b.items) c.args.begun.now) k ≡ Some bytes = bytes-at c.args.begun.now k c.index-begun-file.result low c.index-begun-file.is in
    let ls : List (List Logged) = map (λ t. t.log) c.args.logs.now in
    let many = reported-many mount mount.files ls c.requires.logs in
    let same : length ls ≡ length c.args.logs.now = length-map c.args.logs.now (λ (t : TrailSeen). t.log) in
    let log : log_of ls k ≡ c.index-logs-file.result.log = log-at c.args.logs.now k c.index-logs-file.result (omega (arith, low, begun, many, same)) c.index-logs-file.is in
    let parents : c.deref.result.now ≡ mount.tree.parents = c.deref.ensures.value ∙ (c.in_ok-parents.ensures ∙ ap (λ (t : TreeShape). t.parents) c.tree.ensures.value) in
    let new : Counted = c.in_ok-file_at_end.field-0 in
    let is : new.file ≡ file_then (begun_as mount k (record { bytes = bytes })) (trail_of (log_of ls k)) =
    c.in_ok-file_at_end.ensures
    ∙ (ap (λ n. replay (record { page_size = n; parents = c.deref.result.now }) (fresh c.deref.result.now c.deref-in-loop-file.result.now) (trail_of c.index-logs-file.result.log)) c.page_size-page_size.ensures.value
    ∙ (ap (λ (ps : List ℕ). replay (record { page_size = mount.page_size; parents = ps }) (fresh ps c.deref-in-loop-file.result.now) (trail_of c.index-logs-file.result.log)) parents
    ∙ (ap (λ (bs : List ℕ). replay (record { page_size = mount.page_size; parents = mount.tree.parents }) (fresh mount.tree.parents bs) (trail_of c.index-logs-file.result.log)) c.deref-in-loop-file.ensures.value
    ∙ ap (λ (l : List Logged). replay (record { page_size = mount.page_size; parents = mount.tree.parents }) (fresh mount.tree.parents bytes) (trail_of l)) (sym log)))) in
    let here : length c.loop-file.lasts.items ≡ k = i.many in
    let before : List Counted = c.loop-file.lasts.items in
    record {
      many = ap length c.in_ok-push.ensures.items ∙ (length_push c.loop-file.lasts.items new ∙ ap (λ n. n + 1) i.many);
      room = (let kept = c.file_at_end.auto.scratch in let given = ap length c.deref_mut.ensures.value in let len = c.deref_mut.ensures.len in let whole = i.room in simp (length-take, length-append, length-drop) (omega (arith, kept, given, len, whole)));
      ends = subst (λ (ps : List Counted). Ends mount (map (λ b. b.items) c.args.begun.now) ls ps) (sym c.in_ok-push.ensures.items)
          (ends-more mount (map (λ b. b.items) c.args.begun.now) ls before bytes new i.ends (ap (λ n. slice_get (map (λ b. b.items) c.args.begun.now) n) here ∙ at)
          (subst (λ n. new.file ≡ file_then (begun_as mount n (record { bytes = bytes })) (trail_of (log_of ls n))) (sym here) is));
    }
