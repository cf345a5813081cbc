-- Fresh images, and a look at the pages of a file, end well if nothing failed, or memory ran out.
use Rattle.std.proofs.Common.{◌≡◌, ◌⊎◌, inl, ℕ, Bool, true, false, List, [], ◌∷◌, length, Option, Some, refl, sym, ap, subst, ◌∙◌, arith}
use Rattle.std.specs.Prelude.{slice_get}
use Rattle.stack_accept.specs.Mount.{Mount}
use Rattle.script_meaning.specs.declared.store.StoreKey.{StoreKey}
use Rattle.script_meaning.specs.Stack.{disk_name, file_name}
use Rattle.spr_io.specs.Berth.{BaySeen, Berth, Opens, taken}
use Rattle.spr_io.specs.Content.{Content, all_kept}
use Rattle.disk_format.specs.Image.{image}
use Rattle.disk_format.specs.Shape.{blocks_of}
use Rattle.spr_report.specs.declared.status.Status.{Status}
use Rattle.spr_report.specs.declared.status.Status.TheVariants as statuses
use Rattle.mirror_rules.specs.Tree.{Seat}
use Rattle.mirror_rules.specs.Tree as machine
use Rattle.mirror_rules.specs.Claims.{Pairs, pairs_more, pairs_none}
use Rattle.mirror_rules.specs.Fates.{Blamed, blamed_here, blamed_later}
use Rattle.mirror_rules.specs.Steps.{Named, named_here, named_later}
use Rattle.mirror_rules.proofs.BlameLaws.{Counts, counts, opens-count}
use Rattle.file_stores.specs.Files.{FileSeen, IsFile, StandsAt, states}
use Rattle.file_stores.specs.Held.{StoreSeen}
use Rattle.file_stores.specs.Keys.{image_shape, is_lost, stores_of, stores_of_file}
use Rattle.file_stores.specs.Opening.{shape_of_file}
use Rattle.file_stores.specs.State.{BackFrom, Returned, RoseBy, StoreState, Turned}
use Rattle.file_stores.specs.declared.stop.Stop.{Stop}
use Rattle.file_stores.specs.declared.stop.Stop.TheVariants as stops
use Rattle.file_stores.proofs.FileLaws.{in-disks}
use Rattle.file_stores.proofs.Lists.{some-is, there, to-map}
use Rattle.mirror_layer.specs.declared.came.Notice.{Notice}
use Rattle.image_commands.specs.Fresh.{FailedAt, Part}
use Rattle.image_commands.specs.Read.{IsUnprinted, Looked, no_text, refused_many, refused_one, unopened}
use Rattle.image_commands.specs.Says.{FormatStops, all_fresh, not_fresh, not_printed, not_taken, printed}
use Rattle.image_commands.specs.Told.{done_status}
use Rattle.run_files.specs.Leaves.{Store}
use Rattle.run_laws.specs.Sound.{AreBerthsSound, HoldImages, IsBaySound, LieImages, SoundDumpEndsWell, SoundFormatEndsWell}
use Rattle.run_laws.proofs.SoundLaws.{blamed-rose, first-is, stop-well, unopened-well, untaken-well}

-- COUNTS
back-count : (berth after : Berth) (gone : Bool) (state : StoreState) → BackFrom (taken berth) after gone state → after.faults ≡ state.faults
back-count berth after false state back = ap (λ (b : Berth). b.faults) back
back-count berth after true state back = ap (λ (b : Berth). b.faults) back

-- a store whose berth has the count that it had came back with the count that it had
turned-count : (mount : Mount) (before after : BaySeen) (key : StoreKey) (gone : Bool) (Becomes : StoreState → StoreState → Type 0) (turned : Turned mount before after key gone Becomes)
    → (after.berths (disk_name mount key.disk) (file_name mount key.file)).faults ≡ (before.berths (disk_name mount key.disk) (file_name mount key.file)).faults → turned.new.faults ≡ turned.old.faults
turned-count mount before after key gone Becomes turned same =
    sym (back-count (before.berths (disk_name mount key.disk) (file_name mount key.file)) (after.berths (disk_name mount key.disk) (file_name mount key.file)) gone turned.new turned.back) ∙ same ∙ sym turned.lay.count

done-good : (lost : List StoreKey) (before after : BaySeen) → RoseBy (length lost) before.faults after.faults → IsBaySound before after → done_status lost ≡ statuses.Good
done-good [] before after rose bay = refl
done-good (key ∷ lost) before after rose bay = let same = bay.same in let below = bay.below_end in absurd (omega (arith, rose, same, below))

done-well : (lost : List StoreKey) (before after : BaySeen) (status : Status) → RoseBy (length lost) before.faults after.faults → IsBaySound before after → status ≡ done_status lost → (status ≡ statuses.Good) ⊎ (status ≡ statuses.Memory)
done-well lost before after status rose bay is = inl (is ∙ done-good lost before after rose bay)

-- FRESH IMAGES
format-stops : (mount : Mount) (before after : BaySeen) (lost : List StoreKey) (stop : Stop) → IsBaySound before after → AreBerthsSound mount (stores_of mount) before after → FormatStops mount before after (stores_of mount) lost stop → stop ≡ stops.Memory
format-stops mount before after lost (stops.Bay key) bay sound why = untaken-well mount before after (stores_of mount) lost (stops.Bay key) bay why
format-stops mount before after lost (stops.Store key count) bay sound why =
    let turned = why.back.each why.number key why.is in
    let failed = turned.becomes.here refl in
    let above = failed.above in
    let is = failed.is in
    let same = turned-count mount before after key (is_lost lost key) (λ old new. Part mount why.number (FailedAt count) why.number key old new) turned (sound why.number key why.is) in
    absurd (omega (arith, above, is, same))
format-stops mount before after lost (stops.Image key place why) bay sound stopped = absurd stopped
format-stops mount before after lost stops.Memory bay sound why = refl

pub format-ends-well : SoundFormatEndsWell
format-ends-well mount before after text status (all_fresh lost formatted says how) bay sound = done-well lost before after status formatted.paid bay how
format-ends-well mount before after text status (not_fresh stop lost why says how) bay sound = stop-well status stop how (format-stops mount before after lost stop bay sound why)

-- THE PAGES OF A FILE
state-is : (stores : List StoreSeen) (disk : ℕ) (store : StoreSeen) (state : StoreState) → slice_get stores disk ≡ Some store → slice_get (states stores) disk ≡ Some state → store.state ≡ state
state-is stores disk store state at found = some-is store.state state (sym (to-map (λ (s : StoreSeen). s.state) stores disk store at) ∙ found)

named-blamed : {d k : ℕ} {ss : List machine.Store} {xs ys : List Seat} → Pairs Counts ss xs → Named d k xs ys → Blamed d k ss ys
named-blamed pairs_none named = elim named [ ]
named-blamed (pairs_more (counts e l) m) (named_here q a b) = blamed_here (sym e ∙ q) (omega arith) (omega (arith, b))
named-blamed (pairs_more c m) (named_later named) = blamed_later (named-blamed m named)

module _ (mount : Mount) (before after : BaySeen) (file : ℕ) (lost : List StoreKey) (f g : FileSeen) (own : f.file ≡ file) (is : IsFile mount f)
    (back : Returned mount before after (stores_of_file (length mount.disks) file) lost (StandsAt f.stores g.stores)) where
  key-at : (disk : ℕ) (old : StoreSeen) → slice_get f.stores disk ≡ Some old → slice_get (stores_of_file (length mount.disks) file) disk ≡ Some old.key
  key-at disk old at =
      subst (λ n. slice_get (stores_of_file (length mount.disks) n) disk ≡ Some old.key) own
      (ap (λ (ks : List StoreKey). slice_get ks disk) (sym is.keys) ∙ to-map (λ (s : StoreSeen). s.key) f.stores disk old at)

  count-stands : AreBerthsSound mount (stores_of_file (length mount.disks) file) before after → (disk : ℕ) (old new : StoreSeen) → Store f g disk old new → new.state.faults ≡ old.state.faults
  count-stands sound disk old new at =
      let key = key-at disk old at.0 in
      let turned = back.each disk old.key key in
      let was = state-is f.stores disk old turned.old at.0 turned.becomes.0 in
      let now = state-is g.stores disk new turned.new at.1 turned.becomes.1 in
      ap (λ (s : StoreState). s.faults) now ∙ turned-count mount before after old.key (is_lost lost old.key) (StandsAt f.stores g.stores disk old.key) turned (sound disk old.key key) ∙ ap (λ (s : StoreState). s.faults) (sym was)

  hold-images : LieImages mount (stores_of_file (length mount.disks) file) before → HoldImages (shape_of_file mount f.file) f.stores
  hold-images lie disk inside =
      let found = there f.stores disk inside in
      let store = found.0 in
      let key = key-at disk store found.1 in
      let had = lie disk store.key key in
      let turned = back.each disk store.key key in
      let was = state-is f.stores disk store turned.old found.1 turned.becomes.0 in
      let opened = subst (λ (holds : Option (Option Content)). Opens mount.page_size (blocks_of (image_shape mount store.key)) holds turned.old.content) had.lies turned.lay.opens in
      let of : store.key.file ≡ f.file = ap (λ (k : StoreKey). k.file) (in-disks (length mount.disks) file disk store.key key).0 ∙ sym own in (
        had.imaged,
        record {
          store = store;
          content = all_kept had.content;
          there = found.1;
          tells = ap (λ (s : StoreState). s.content) was ∙ opened;
          is = subst (λ n. image (shape_of_file mount n) had.content.blocks ≡ Some had.imaged) of had.is;
        },
      )

  -- a read that each live disk of the ground refused rose a count
  looked-rose : (disk count : ℕ) (looked : Looked mount true f g) → Named disk count looked.opened.row looked.row → AreBerthsSound mount (stores_of_file (length mount.disks) file) before after → ⊥
  looked-rose disk count looked named sound =
      let seen = looked.over.seen in
      let blamed = named-blamed (opens-count looked.over.opens seen.meets) named in
      let rose = blamed-rose seen.brought seen.lies looked.back.stored looked.back.left blamed in
      let same = count-stands sound rose.0 rose.1 rose.2 (rose.3, rose.4) in
      let up = rose.5 in
      omega (arith, same, up)

  unprinted-well : (told : List (Option Notice)) (stop : Stop) → AreBerthsSound mount (stores_of_file (length mount.disks) file) before after → LieImages mount (stores_of_file (length mount.disks) file) before
      → IsUnprinted mount told f g stop → stop ≡ stops.Memory
  unprinted-well told stop sound lie (unopened why quiet) = unopened-well mount f g is (count-stands sound) (hold-images lie) stop why
  unprinted-well told stop sound lie (refused_one {old} {new} was now refused by quiet) =
      let same = count-stands sound 0 old new (first-is f.stores old was, first-is g.stores new now) in
      let above = refused.1.above in
      let within = refused.1.within in
      absurd (omega (arith, same, above, within))
  unprinted-well told stop sound lie (refused_many {disk} {count} looked says named by) = absurd (looked-rose disk count looked named sound)
  unprinted-well told stop sound lie (no_text read by) = by

pub dump-ends-well : SoundDumpEndsWell
dump-ends-well mount before after file notices text status (printed pages told lost turned quiet says how) bay sound lie = done-well lost before after status turned.stores.paid bay how
dump-ends-well mount before after file notices text status (not_taken stop lost why quiet says how) bay sound lie = stop-well status stop how (untaken-well mount before after (stores_of_file (length mount.disks) file) lost stop bay why)
dump-ends-well mount before after file notices text status (not_printed stop told lost turned quiet says how) bay sound lie =
    stop-well status stop how (unprinted-well mount before after file lost turned.old turned.new turned.file_is turned.of turned.stores told stop sound lie turned.becomes)
