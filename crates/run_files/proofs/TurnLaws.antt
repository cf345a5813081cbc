-- A file's image from its opening to its closing.
use Rattle.std.proofs.Common.{◌≡◌, ◌≢◌, false, ℕ, ◌<◌, List, [], ◌∷◌, length, map, Option, Some, None, IfSome, inl, refl, sym, ap, subst, ◌∙◌, arith}
use Rattle.std.specs.Prelude.{Contains, is_some, slice_get, IsSome}
use Rattle.script_text.specs.declared.script.Reply.{Reply}
use Rattle.script_text.specs.declared.script.Reply.TheVariants.{Done}
use Rattle.stack_engine.specs.Engine.{EngineSeen, log_in}
use Rattle.stack_accept.specs.Mount.{Mount}
use Rattle.spr_io.specs.Content.{Content}
use Rattle.disk_format.specs.declared.shape.ImageShape.{ImageShape}
use Rattle.disk_format.specs.Image.{image, pages_of}
use Rattle.disk_layer.specs.Disk.{Disk, HasImage}
use Rattle.disk_layer.specs.Calls as disks
use Rattle.page_ground.specs.Seen.{Seen, live_in}
use Rattle.mirror_rules.specs.Claims.{Every, every_more}
use Rattle.mirror_layer.specs.View.{Beside}
use Rattle.mirror_layer.specs.Ground.{Ground, Differ, seen_of}
use Rattle.mirror_layer.proofs.CloseSteps.{told-kept}
use Rattle.tower_log.specs.declared.logged.Logged.{Logged}
use Rattle.tower_log.specs.Notes.{counts_of, last_count}
use Rattle.spr_volume.specs.Later.{AreLater}
use Rattle.script_meaning.specs.declared.store.StoreKey.{StoreKey}
use Rattle.file_stores.specs.Keys.{image_shape, stores_of_file}
use Rattle.file_stores.specs.State.{StoreState}
use Rattle.file_stores.specs.Held.{StoreSeen, keys_of}
use Rattle.file_stores.specs.Files.{ArePairs, FileSeen, IsFile, Lasts}
use Rattle.file_stores.specs.Stops.{HoldsImage}
use Rattle.file_stores.proofs.Lists.{to-map}
use Rattle.file_stores.proofs.FileLaws.{in-disks}
use Rattle.file_stores.specs.Under.{IsSound, Many, One, Under, seen_under}
use Rattle.mirror_layer.specs.declared.came.Notice.{Notice}
use Rattle.file_stores.specs.Notices.{AreAtClose}
use Rattle.file_stores.proofs.NoticeLaws.{alone-silent}
use Rattle.file_stores.specs.Opening.{IsLeft, IsOpened, shape_of_file, under}
use Rattle.file_stores.specs.WholeDisk.{Alone, IsAlone, IsFirst, seen_whole}
use Rattle.file_stores.proofs.StoreLaws.{AllLast, in-pairs, lasts-one, same-keys}
use Rattle.file_stores.proofs.WholeLaws.{kept-under, faults-under, whole-content, whole-count}
use Rattle.file_stores.proofs.SpotLaws.{numbers-seen}
use Rattle.run_files.specs.Held.{Closes, closes_one, closes_many}
use Rattle.run_files.specs.Play.{IsWhole}
use Rattle.mirror_rules.specs.Tree.{Seat, In}
use Rattle.run_files.specs.Leaves.{AreNotices, IsOnly, LeavesFile}
use Rattle.run_files.proofs.AlikeLaws.{alike-self, later-alike}
use Rattle.run_files.proofs.EngineLaws.{EngineRun, noted-of}
use Rattle.run_files.proofs.LeftLaws.{Turn, few, file-left, lasts}
use Rattle.run_files.proofs.OnlyLaws.{cell-on, file-key, first-number, ground-of, only-alike, only-back, only-came, only-kept, only-opened, only-row, only-sound, only-words}
use Rattle.run_files.proofs.WholeLaws.{on-disk, same-number-under}

-- the only store of a file, or its stores on disks in mirrors
pub data UnderTurn (mount : Mount) (more : List Logged) (f g : FileSeen) : Under → Under → Type 0 where
  turn_one : {d0 d1 : Alone} {old new : StoreSeen} → f.stores ≡ old ∷ [] → disks.Opened (under mount old) d0.disk → AreLater more (seen_whole d0) (seen_whole d1) → g.stores ≡ new ∷ [] → new.state ≡ record { content = d1.disk.content; faults = d1.disk.faults }
      → HasImage d1.disk → IsFirst d0 → IsAlone d1 → UnderTurn mount more f g (One d0) (One d1)
  turn_many : {a z : Ground} → 1 < length f.stores → Turn mount more f g a z → UnderTurn mount more f g (Many a) (Many z)

-- no disks in mirrors have one number
apart : (bs : List Beside) (d : ℕ) → Differ bs → map (λ b. b.disk) bs ≡ d ∷ d ∷ d ∷ [] → ⊥
apart [] d differ e = cc
apart (b ∷ []) d differ e = cc
apart (b ∷ c ∷ bs) d differ e = by differ.0 (ap first e) (ap second e)
  where
    first : List ℕ → ℕ
    first [] = 0
    first (n ∷ ns) = n

    second : List ℕ → ℕ
    second [] = 0
    second (n ∷ ns) = first ns

    by : Every (λ x. x.disk ≢ b.disk) (c ∷ bs) → b.disk ≡ d → c.disk ≡ d → ⊥
    by (every_more p q) one two = p (two ∙ sym one)

pub turn-of : (mount : Mount) (more : List Logged) (f g : FileSeen) (made : List (Option Notice)) (u0 u1 : Under) → IsFile mount f → IsOpened mount f made u0 → IsSound u0 → AreLater more (seen_under u0) (seen_under u1) → IsLeft u1 g → IsSound u1 → UnderTurn mount more f g u0 u1
turn-of mount more f g made (One d0) (One d1) is over sound later left still = turn_one over.1 over.2 later left.1 left.2 still.0 over.3 still.2
turn-of mount more f g made (Many a) (Many z) is over sound later back still = turn_many over.0 (record { is = is; over = over.1.over; sound = sound; later = later; back = back; still = still })
turn-of mount more f g made (One d0) (Many z) is over sound later back still = absurd (apart z.beside d0.disk.disk still.0.differ (sym (numbers-seen still.0.counts) ∙ later.disks))
turn-of mount more f g made (Many a) (One d1) is over sound later left still = absurd (apart a.beside d1.disk.disk sound.0.differ (sym (numbers-seen sound.0.counts) ∙ sym later.disks))

still-told : (x y : Option Content) → is_some y ≡ is_some x → IfSome x (λ _. IsSome y)
still-told None y e = tt
still-told (Some c) y e = e

-- no count falls, and what tells goes on telling
pub turn-lasts : (mount : Mount) (more : List Logged) (f g : FileSeen) (u0 u1 : Under) → UnderTurn mount more f g u0 u1 → AllLast f.stores g.stores
turn-lasts mount more f g _ _ (turn_one {d0} {d1} {old} {new} was over later left state has first near) =
    let same : d0.disk.disk ≡ d1.disk.disk = same-number-under d0 d1 later.disks in
    let up = later.faults d0.disk.disk in
    let first = faults-under d0 d0.disk.disk refl in
    let last = faults-under d1 d0.disk.disk same in
    let calm = over.calm in
    let count = ap (λ (s : StoreState). s.faults) state in
    let told : is_some new.state.content ≡ is_some old.state.content =
    ap (λ (s : StoreState). is_some s.content) state
    ∙ (sym (told-kept d1.disk) ∙ (ap (λ o. is_some o) (sym (kept-under d1 d0.disk.disk same)) ∙ (later.told d0.disk.disk ∙ (ap (λ o. is_some o) (kept-under d0 d0.disk.disk refl) ∙ (told-kept d0.disk ∙ ap (λ (o : Option Content). is_some o) over.content))))) in
    lasts-one old new f.stores g.stores was left (omega (arith, up, first, last, calm, count), still-told old.state.content new.state.content told)
turn-lasts mount more f g _ _ (turn_many {a} {z} some turn) = lasts mount more f g a z turn

-- nothing was asked
pub later-same : (a b : Seen) → b ≡ a → AreLater [] a b
later-same a b same = subst (AreLater [] a) (sym same) (record {
  disks = refl;
  up = λ disk. refl;
  told = λ disk. refl;
  live = λ disk live. live;
  some = λ some. some;
  lost = λ disk live. inl live;
  faults = λ disk. omega arith;
  opened = λ disk. refl;
  aside = λ disk down. refl;
  level = omega arith;
  due = omega arith;
  notes = tt;
  paid = λ disk live. omega arith;
})

-- a disk that was opened holds an image
holds-image : (d : Disk) (shape : ImageShape) (content : Option Content) → d.shape ≡ shape → d.content ≡ content → HasImage d → HoldsImage shape content
holds-image d shape content s c has = subst (λ (o : Option Content). HoldsImage shape o) c (subst (λ (x : ImageShape). HoldsImage x d.content) s (by d.content has))
  where
    by : (o : Option Content) → IfSome o (λ k. image d.shape k.blocks ≡ Some (record { generation = d.generation; pages = pages_of d.shape.page_size k.blocks d.entries })) → HoldsImage d.shape o
    by None h = tt
    by (Some k) h = subst (λ o. IsSome o) (sym h) refl

same-state : (a b : StoreState) → a.content ≡ b.content → a.faults ≡ b.faults → a ≡ b
same-state a b c f = λ i. record { content = c i; faults = f i }

-- a file that was opened, and closed again as it was
pub turn-closes : (mount : Mount) (more : List Logged) (f g : FileSeen) (u0 u1 : Under) → seen_under u1 ≡ seen_under u0 → UnderTurn mount more f g u0 u1 → Closes mount f g
turn-closes mount more f g _ _ same (turn_one {d0} {d1} {old} {new} was over later left state has first near) =
    closes_one was left (holds-image d0.disk (image_shape mount old.key) old.state.content over.shape over.content over.image)
    (same-state new.state old.state (ap (λ (s : StoreState). s.content) state ∙ (whole-content d1 d0 same ∙ over.content)) (ap (λ (s : StoreState). s.faults) state ∙ (whole-count d1 d0 same ∙ over.calm)))
turn-closes mount more f g _ _ same (turn_many {a} {z} some turn) = closes_many some (record { opened = a; over = turn.over; closed = z; same = same; sound = turn.still.0; back = turn.back })

-- THE STORES OF A FILE BEFORE AND AFTER, in pairs
pub turn-pairs : (mount : Mount) (more : List Logged) (f g : FileSeen) (u0 u1 : Under) → IsFile mount f → g.file ≡ f.file → keys_of g.stores ≡ stores_of_file (length g.stores) g.file → UnderTurn mount more f g u0 u1 → ArePairs Lasts f.stores g.stores
turn-pairs mount more f g u0 u1 is file keys turn =
    let all = turn-lasts mount more f g u0 u1 turn in
    in-pairs f.stores g.stores (same-keys mount f g is (keys ∙ ap (λ n. stores_of_file (length g.stores) n) file) all.many) all

-- WHAT BECAME OF THE STORES, and what is told of the disks
same-first : (a b : StoreSeen) → a ∷ [] ≡ b ∷ [] → a ≡ b
same-first a b e = cc

module _ (mount : Mount) (f g : FileSeen) (closing : Option Reply) (made notices : List (Option Notice)) (d0 d1 : Alone) (old new : StoreSeen) (e0 e1 : EngineSeen) (is : IsFile mount f) (run : EngineRun mount f.file (seen_whole d0) (seen_whole d1) e0 e1)
    (was : f.stores ≡ old ∷ []) (over : disks.Opened (under mount old) d0.disk) (first : IsFirst d0) (sound : IsSound (One d0)) (later : AreLater (log_in e1) (seen_whole d0) (seen_whole d1))
    (left : g.stores ≡ new ∷ []) (state : new.state ≡ record { content = d1.disk.content; faults = d1.disk.faults }) (still : IsSound (One d1)) (whole : closing ≡ Some Done → IsWhole e1) (each : length made ≡ length f.stores) (close : AreAtClose (One d1) made notices) where
  same-disk : d0.disk.disk ≡ d1.disk.disk
  same-disk = same-number-under d0 d1 later.disks

  first-zero : d0.disk.disk ≡ 0
  first-zero = first-number mount f old d0 is was over first

  last-zero : d1.disk.disk ≡ 0
  last-zero = sym same-disk ∙ first-zero

  one-turn : Turn mount (log_in e1) f g (ground-of d0) (ground-of d1)
  one-turn = record {
    is = is;
    over = only-opened mount f old d0 is was over first;
    sound = only-sound d0 sound.0 sound.1 sound.2 first-zero;
    later = later-alike (log_in e1) (seen_whole d0) (seen_whole d1) (seen_of (ground-of d0)) (seen_of (ground-of d1)) (only-alike d0) (only-alike d1) (ap (λ n. n ∷ []) (sym same-disk)) later;
    back = only-back d1 still.0 still.1 still.2 g new left state last-zero;
    still = only-sound d1 still.0 still.1 still.2 last-zero;
  }

  one-row : one-turn.over.seen.row ≡ In false (cell-on d0) ∷ []
  unfolding one-turn
  one-row = only-row mount f old d0 is was over first

  one-only : IsOnly (shape_of_file mount f.file) (log_in e1) (ground-of d0) (ground-of d1) notices old new
  one-only = record {
    live = ap (λ n. n ∷ []) last-zero;
    noted =
        ap (λ (s : StoreState). s.faults) state
        ∙ (sym (faults-under d1 d0.disk.disk same-disk)
        ∙ (noted-of mount f.file (seen_whole d0) (seen_whole d1) e0 e1 run d0.disk.disk (on-disk d0)
        ∙ (ap (λ n. last_count n (counts_of d0.disk.disk (log_in e1))) (faults-under d0 d0.disk.disk refl ∙ over.calm) ∙ ap (λ n. last_count old.state.faults (counts_of n (log_in e1))) first-zero)));
    came = only-came mount f old d0 is was over first;
    had_kept = only-kept mount f old d0 is was over first;
    silent = alone-silent close;
  }

  one-leaves : LeavesFile mount closing (log_in e1) f g notices
  one-leaves =
      file-left mount f g (ground-of d0) (ground-of d1) (seen_whole d0) (seen_whole d1) e0 e1 closing run (only-alike d0) (only-alike d1) one-turn whole notices
      (subst (λ (xs : List Seat). AreNotices f (ground-of d0) (ground-of d1) xs notices) (sym one-row) (only-words f old d0 d1 was first-zero last-zero made notices each close))
      (λ o n was_o left_n.
      subst (λ (x : StoreSeen). IsOnly (shape_of_file mount f.file) (log_in e1) (ground-of d0) (ground-of d1) notices x n) (same-first old o (sym was ∙ was_o))
      (subst (λ (x : StoreSeen). IsOnly (shape_of_file mount f.file) (log_in e1) (ground-of d0) (ground-of d1) notices old x) (same-first new n (sym left ∙ left_n)) one-only))

pub leaves-of : (mount : Mount) (f g : FileSeen) (closing : Option Reply) (made notices : List (Option Notice)) (u0 u1 : Under) (e0 e1 : EngineSeen) → IsFile mount f → EngineRun mount f.file (seen_under u0) (seen_under u1) e0 e1
    → IsOpened mount f made u0 → IsSound u0 → AreLater (log_in e1) (seen_under u0) (seen_under u1) → IsLeft u1 g → IsSound u1 → (closing ≡ Some Done → IsWhole e1) → length made ≡ length f.stores → AreAtClose u1 made notices
    → LeavesFile mount closing (log_in e1) f g notices
leaves-of mount f g closing made notices (One d0) (One d1) e0 e1 is run opened sound later left still whole each close =
    one-leaves mount f g closing made notices d0 d1 opened.0 left.0 e0 e1 is run opened.1 opened.2 opened.3 sound later left.1 left.2 still whole each close
leaves-of mount f g closing made notices (Many a) (Many z) e0 e1 is run opened sound later back still whole each close =
    let turn : Turn mount (log_in e1) f g a z = record { is = is; over = opened.1.over; sound = sound; later = later; back = back; still = still } in
    let some = opened.0 in
    file-left mount f g a z (seen_of a) (seen_of z) e0 e1 closing run (alike-self (seen_of a)) (alike-self (seen_of z)) turn whole notices (record { made = made; made_so = opened.1.came_so; each = each; notices_so = close })
    (λ o n was_o left_n. let one = ap (λ (ss : List StoreSeen). length ss) was_o in absurd (omega (arith, one, some)))
leaves-of mount f g closing made notices (One d0) (Many z) e0 e1 is run opened sound later left still whole each close = absurd (apart z.beside d0.disk.disk still.0.differ (sym (numbers-seen still.0.counts) ∙ later.disks))
leaves-of mount f g closing made notices (Many a) (One d1) e0 e1 is run opened sound later left still whole each close = absurd (apart a.beside d1.disk.disk sound.0.differ (sym (numbers-seen sound.0.counts) ∙ sym later.disks))

-- the live disks have numbers of the file's stores
pub few-disks : (mount : Mount) (more : List Logged) (f g : FileSeen) (u0 u1 : Under) → IsFile mount f → UnderTurn mount more f g u0 u1 → (disk : ℕ) → Contains (live_in (seen_under u0).disks) disk → disk < length f.stores
few-disks mount more f g _ _ is (turn_one {d0} {d1} {old} {new} was over later left state has first near) disk live =
    let one = (on-disk d0).alone disk live in
    let number = over.disk in
    let first = ap (λ (k : StoreKey). k.disk) (file-key mount f is old was) in
    let many = ap (λ (ss : List StoreSeen). length ss) was in
    omega (arith, one, number, first, many)
few-disks mount more f g _ _ is (turn_many {a} {z} some turn) disk live = few mount more f g a z turn disk live

-- a file's image that was closed as soon as it was opened
pub shut-at-once : (mount : Mount) (f g : FileSeen) (made : List (Option Notice)) (u0 u1 : Under) (file : ℕ) → IsFile mount f → IsOpened mount f made u0 → IsSound u0 → u1 ≡ u0 → file ≡ f.file → g.file ≡ file → keys_of g.stores ≡ stores_of_file (length g.stores) file → IsLeft u1 g
    → Closes mount f g × ArePairs Lasts f.stores g.stores
shut-at-once mount f g made u0 u1 file is over sound same own named keys left =
    let back : IsLeft u0 g = subst (λ (u : Under). IsLeft u g) same left in
    let turn : UnderTurn mount [] f g u0 u0 = turn-of mount [] f g made u0 u0 is over sound (later-same (seen_under u0) (seen_under u0) refl) back sound in
    (turn-closes mount [] f g u0 u0 refl turn, turn-pairs mount [] f g u0 u0 is (named ∙ own) (keys ∙ ap (λ n. stores_of_file (length g.stores) n) (sym named)) turn)
