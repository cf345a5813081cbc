-- What became of the stores of a file, by its ground as it was opened and as it was closed.
use Rattle.std.proofs.Common.{◌≡◌, ◌⊎◌, inl, inr, ℕ, zero, suc, ◌+◌, ◌<◌, ◌≤◌, Bool, true, false, ◌&&◌, List, [], ◌∷◌, length, map, Option, Some, None, IfSome, refl, sym, ap, subst, ◌∙◌, arith}
use Rattle.std.specs.Prelude.{◌||◌, Contains, is_some, ltb, slice_get, unwrap_or, IsSome}
use Rattle.std.proofs.lemmas.Bool.{lt-ltb, or_left}
use Rattle.std.specs.List.Sorted.{IsPermutation}
use Rattle.std.specs.List.{concat}
use Rattle.script_text.specs.declared.script.Reply.{Reply}
use Rattle.script_text.specs.declared.script.Reply.TheVariants.{Done}
use Rattle.stack_accept.specs.Mount.{Mount}
use Rattle.stack_accept.specs.Plan.{disks_in, numbers_below}
use Rattle.spr_io.specs.Content.{Content, IsShaped}
use Rattle.disk_format.specs.Shape.{blocks_of}
use Rattle.disk_format.specs.declared.shape.ImageShape.{ImageShape}
use Rattle.page_ground.specs.Seen.{Imaged}
use Rattle.disk_format.specs.Image.{image}
use Rattle.page_ground.specs.Seen.{Seen, faults_in, held_in, is_up_in, kept_in, opened_in, pages_in as told_in}
use Rattle.mirror_rules.specs.Tree.{Image, Cell, Seat, In, limit}
use Rattle.mirror_rules.specs.Claims.{Every, every_none, every_more, Has, HasPages, pages_live, Nth}
use Rattle.mirror_rules.specs.Guards.{Direct, Within, Among, Shows, shows_now, shows_kept, at_place, Placed, placed, live_at}
use Rattle.mirror_rules.specs.History.{Went, Kept}
use Rattle.mirror_rules.proofs.OpenLaws.{nth-back, nth-same}
use Rattle.mirror_rules.proofs.GuardLaws.{every-nth, live-nth}
use Rattle.mirror_rules.proofs.LevelLaws.{opens-level}
use Rattle.mirror_rules.proofs.ChainLaws.{direct-not-caching}
use Rattle.mirror_layer.specs.View.{Beside}
use Rattle.mirror_layer.specs.Calls.{all_told}
use Rattle.mirror_layer.specs.Ground.{Counted, Ground, IsGround, as_imaged, due_of, image_told, live_pages, seen_of}
use Rattle.mirror_layer.specs.Stores.{GivesBack, Numbered}
use Rattle.mirror_layer.specs.Bringing.{OpenedOver}
use Rattle.mirror_layer.proofs.NumberSteps.{numbers-each}
use Rattle.mirror_layer.proofs.BringSteps.{lies-ordered}
use Rattle.mirror_layer.proofs.ChangeLaws.{pages-are}
use Rattle.tower_log.specs.declared.logged.Logged.{Logged}
use Rattle.tower_log.specs.Log.{trail_of}
use Rattle.tower_log.specs.Notes.{Rises, counts_of}
use Rattle.stack_engine.specs.Engine.{EngineSeen, log_in}
use Rattle.stack_engine.specs.Opened.{IsOf, last_from}
use Rattle.spr_volume.specs.Later.{AreLater, notes_in}
use Rattle.script_meaning.specs.declared.store.StoreKey.{StoreKey}
use Rattle.script_meaning.specs.Stack.{pages_of}
use Rattle.file_stores.specs.Keys.{EachAt}
use Rattle.file_stores.specs.Held.{StoreSeen}
use Rattle.file_stores.specs.Files.{FileSeen, IsFile}
use Rattle.file_stores.proofs.Lists.{to-map}
use Rattle.file_stores.proofs.FileLaws.{file-number, in-disks}
use Rattle.file_stores.specs.Under.{Many}
use Rattle.file_stores.specs.Opening.{IsFoundBad, content_of, faults_of, shape_of_file}
use Rattle.file_stores.proofs.RowLaws.{image-at, live-seat, live-told, pairs-many, row-goes, seat-image, up-at, held-after}
use Rattle.file_stores.proofs.GroundLists.{get-within}
use Rattle.file_stores.proofs.StoreLaws.{AllLast}
use Rattle.file_stores.proofs.SpotLaws.{After, Before, after-at, before-at, live-few, live-some, numbers-seen}
use Rattle.file_stores.proofs.UnderLaws.{counts-under}
use Rattle.run_files.specs.Play.{IsWhole}
use Rattle.mirror_layer.specs.declared.came.Notice.{Notice}
use Rattle.run_files.specs.Begun.{Begun, Holds, HoldsAll, Opening, StandFor, begun_as, synced_from, versions}
use Rattle.run_files.specs.Leaves.{AreNotices, IsLeft, IsOnly, LeavesFile, OwesRaise, Store, TellsFile, kept_by, live_of}
use Rattle.run_files.proofs.AlikeLaws.{Alike, ground-behind, ground-kept, ground-lifts, ground-number, ground-rises, ground-shows, ground-shows-all, ground-shows-last, ground-size, ground-turned}
use Rattle.run_files.proofs.EngineLaws.{EngineRun, along-of, reached-of, IsTurnedIn}
use Rattle.run_files.proofs.VersionLaws.{within-of}
use Rattle.run_files.proofs.GivenLaws.{given-paged, lies-told, pages-shown, row-tree, stored-told, told-all}
use Rattle.run_files.proofs.PageLaws.{ArePaged, joined-are, length-of}

length-same : (xs ys : List Beside) → map (λ b. b.disk) xs ≡ map (λ b. b.disk) ys → length xs ≡ length ys
length-same [] [] e = refl
length-same [] (y ∷ ys) e = absurd cc
length-same (x ∷ xs) [] e = absurd cc
length-same (x ∷ xs) (y ∷ ys) e = ap suc (length-same xs ys (ap rest e))
  where
    rest : List ℕ → List ℕ
    rest [] = []
    rest (n ∷ ns) = ns

there-within : (xs : List StoreSeen) (k : ℕ) → k < length xs → (x : StoreSeen) × (slice_get xs k ≡ Some x)
there-within [] k lt = absurd (omega arith)
there-within (x ∷ xs) zero lt = (x, refl)
there-within (x ∷ xs) (suc k) lt = there-within xs k (omega arith)

-- A GROUND THAT WAS OPENED over a file's stores, as it is known later on, and closed then
pub record Turn (mount : Mount) (more : List Logged) (f g : FileSeen) (a z : Ground) : Type 0 where
  pub is : IsFile mount f
  pub over : OpenedOver content_of faults_of (shape_of_file mount f.file) f.stores mount.ground a
  pub sound : IsGround a × Numbered a.beside
  pub later : AreLater more (seen_of a) (seen_of z)
  pub back : GivesBack content_of faults_of z.beside z.row g.stores
  pub still : IsGround z × Numbered z.beside

module _ (mount : Mount) (more : List Logged) (f g : FileSeen) (a z : Ground) (turn : Turn mount more f g a z) where
  plan : IsPermutation (disks_in mount.ground) (numbers_below (length f.stores))
  plan = subst (λ n. IsPermutation (disks_in mount.ground) (numbers_below n)) (sym (file-number mount f turn.is)) turn.is.sound.disks

  pub first-many : length a.beside ≡ length f.stores
  first-many = (lies-ordered turn.over.seen.lies plan).many

  last-many : length z.beside ≡ length f.stores
  last-many = length-same z.beside a.beside (sym (numbers-seen turn.still.0.counts) ∙ (turn.later.disks ∙ numbers-seen turn.sound.0.counts)) ∙ first-many

  -- a store of each disk
  pub many : length g.stores ≡ length f.stores
  many = turn.back.many ∙ last-many

  pub before : (k : ℕ) (old : StoreSeen) → slice_get f.stores k ≡ Some old → Before k old (seen_of a).disks a.row
  before k old was =
      before-at k old turn.over.seen.lies turn.over.seen.brought turn.over.fair.excused turn.sound.0.counts turn.sound.0.differ
      (numbers-each (disks_in mount.ground) (length f.stores) plan k (get-within f.stores k old was)) was

  pub after : (k : ℕ) (new : StoreSeen) → slice_get g.stores k ≡ Some new → After z.shape k new (seen_of z).disks
  after k new is =
      after-at z.shape k new turn.back.stored turn.back.left turn.still.0.counts turn.still.0.shapes turn.still.0.differ
      (turn.still.1.each k (let within = get-within g.stores k new is in let all = turn.back.many in omega (arith, within, all))) is

  -- it reads as the image that its disk has
  pub after-held : (k : ℕ) (new : StoreSeen) → slice_get g.stores k ≡ Some new → IfSome new.state.content (λ c. held_in (seen_of z).disks k ≡ image z.shape c.blocks)
  after-held k new is =
      held-after z.shape k new turn.back.stored turn.back.left turn.still.0.counts turn.still.0.shapes turn.still.0.differ
      (turn.still.1.each k (let within = get-within g.stores k new is in let all = turn.back.many in omega (arith, within, all))) is

  -- the store's count when the disks were opened is what it was before
  since : (k : ℕ) (old : StoreSeen) → slice_get f.stores k ≡ Some old → old.state.faults ≤ faults_in (seen_of a).disks k
  since k old was =
      let opened = (before k old was).opened in
      let counts = counts-under (Many a) turn.sound k in
      omega (arith, opened, counts)

  -- no count falls, and what tells goes on telling
  pub lasts : AllLast f.stores g.stores
  lasts = record {
    many = many;
    each = λ k old new was is.
        let first = since k old was in
        let next = turn.later.faults k in
        let last = (after k new is).faults in
        (omega (arith, first, next, last), still old.state.content new.state.content (sym (after k new is).told ∙ (turn.later.told k ∙ (before k old was).told)));
  }
    where
      still : (x y : Option Content) → is_some y ≡ is_some x → IfSome x (λ _. IsSome y)
      still None y e = tt
      still (Some c) y e = e

  -- each disk is live, or its store failed since it was taken, or it was found bad
  pub fell : (k : ℕ) (old new : StoreSeen) → Store f g k old new → Contains (live_of z) k ⊎ (old.state.faults < new.state.faults) ⊎ IsFoundBad a k
  fell k old new at =
      let b = before k old at.0 in
      let first = since k old at.0 in
      let next = turn.later.faults k in
      let last = (after k new at.1).faults in
      elim b.rose [
        | inl live ↦ elim (turn.later.lost k live) [
          | inl still ↦ inl still
          | inr up ↦ inr (inl (omega (arith, first, up, last)))
        ]
        | inr rest ↦ elim rest [
          | inl up ↦ inr (inl (omega (arith, up, next, last)))
          | inr bad ↦ inr (inr bad)
        ]
      ]

  -- each disk that is live failed once at least for each note
  pub paid : (k : ℕ) (old new : StoreSeen) → Store f g k old new → Contains (live_of z) k → old.state.faults + notes_in more ≤ new.state.faults
  paid k old new at live =
      let first = since k old at.0 in
      let next = turn.later.paid k live in
      let last = (after k new at.1).faults in
      omega (arith, first, next, last)

  -- some disk is live
  pub some : 0 < length (live_of z)
  some = turn.later.some (live-some a.beside a.row turn.sound.0.counts turn.sound.0.live)

  -- the numbers of the disks are those of the file's stores
  pub few : (k : ℕ) → Contains (live_of a) k → k < length f.stores
  few k live = let inside = live-few a.beside a.row (length a.beside) turn.sound.0.counts turn.sound.1.below k live in let all = first-many in omega (arith, inside, all)

-- WHAT BECAME OF THE STORES
module _ (mount : Mount) (f g : FileSeen) (a z : Ground) (s u : Seen) (e0 e1 : EngineSeen) (closing : Option Reply) (run : EngineRun mount f.file s u e0 e1) (at_first : Alike s (seen_of a)) (at_last : Alike u (seen_of z)) (turn : Turn mount (log_in e1) f g a z)
    (whole : closing ≡ Some Done → IsWhole e1) where
  rises : (k : ℕ) (old new : StoreSeen) → Store f g k old new → Rises old.state.faults new.state.faults (counts_of k (log_in e1))
  rises k old new at =
      subst (λ n. Rises n new.state.faults (counts_of k (log_in e1))) (before mount (log_in e1) f g a z turn k old at.0).opened
      (subst (λ n. Rises (opened_in (seen_of a).disks k) n (counts_of k (log_in e1))) (after mount (log_in e1) f g a z turn k new at.1).faults (ground-rises mount f.file s u (seen_of a) (seen_of z) e0 e1 run at_first at_last k))

  or_right : (x y : Bool) → y ≡ true → x || y ≡ true
  or_right true y e = refl
  or_right false y e = e

  -- a raise is owed at the opening
  owes-of : OwesRaise f a → a.owed ≡ true
  owes-of owes =
      let level = opens-level turn.over.opens turn.over.seen.meets in
      let owed : ltb 1 (length a.row) || ltb 1 a.generation ≡ true =
      elim owes [
        | inl many ↦ (let row : length a.row ≡ length f.stores = pairs-many turn.sound.0.counts ∙ first-many mount (log_in e1) f g a z turn in or_left (ltb 1 (length a.row)) (ltb 1 a.generation) (lt-ltb 1 (length a.row) (omega (arith, many, row))))
        | inr above ↦ or_right (ltb 1 (length a.row)) (ltb 1 a.generation) (lt-ltb 1 a.generation above)
      ] in
      level.2 ∙ owed

  -- where all tell what they hold
  module _ (tells : EachAt (λ at s. IsSome s.state.content) f.stores) where
    abbrev shape : ImageShape
    shape = shape_of_file mount f.file

    all : all_told a.beside ≡ true
    all = told-all a.beside (lies-told tells turn.over.seen.lies)

    plan-first : Has (λ n. n ≡ 0) (disks_in mount.ground)
    plan-first = numbers-each (disks_in mount.ground) (length f.stores) (plan mount (log_in e1) f g a z turn) 0 some-store
      where
        some-store : 0 < length f.stores
        some-store = let number = file-number mount f turn.is in let some = turn.is.sound.some_disk in omega (arith, number, some)

    -- the key of a store
    key-at : (k : ℕ) (old : StoreSeen) → slice_get f.stores k ≡ Some old → old.key ≡ record { file = f.file; disk = k }
    key-at k old was = (in-disks (length mount.disks) f.file k old.key (ap (λ (ks : List StoreKey). slice_get ks k) (sym turn.is.keys) ∙ to-map (λ (s : StoreSeen). s.key) f.stores k old was)).0

    -- what it tells has the shape of the file's image
    shaped : (at : ℕ) (s : StoreSeen) → slice_get f.stores at ≡ Some s → IsShaped shape.page_size (blocks_of shape) s.state.content
    shaped at s is =
        subst (λ n. IsShaped mount.page_size (blocks_of (shape_of_file mount n)) s.state.content) (ap (λ (x : StoreKey). x.file) (key-at at s is)) (turn.is.fits at s is).told

    -- the pages of the ground, and the file that they are
    paged-pages : (F : List (List ℕ)) × ((seen_of a).pages ≡ Some F) × ArePaged shape F
    paged-pages =
        let seen = turn.over.seen in
        let tree = row-tree seen.brought seen.meets plan-first in
        let given = (turn.over.given all).gives tree.0 tree.1 in
        let F : List (List ℕ) = given.0 in
        let shown : (seen_of a).pages ≡ Some F = pages-shown (all_told a.beside) (live_pages a.row) F all (pages-are given.3 turn.sound.0.live) in
        (F, shown, given-paged mount shape shaped tells seen.brought seen.meets tree.1 given.2 given.4)

    content-some : (o : Option Content) → IsSome o → (c : Content) × (o ≡ Some c)
    content-some None h = absurd cc
    content-some (Some c) h = (c, refl)

    lasts-told : (k : ℕ) (old new : StoreSeen) → Store f g k old new → IsSome new.state.content
    lasts-told k old new at = still old.state.content new.state.content (tells k old at.0) ((lasts mount (log_in e1) f g a z turn).each k old new at.0 at.1).1
      where
        still : (x y : Option Content) → IsSome x → IfSome x (λ _. IsSome y) → IsSome y
        still None y h t = absurd cc
        still (Some c) y h t = t

    last-shape-is : z.shape ≡ shape
    last-shape-is =
        let size : z.shape.page_size ≡ mount.page_size = ground-size mount f.file s u (seen_of a) (seen_of z) e0 e1 run at_first at_last in
        let number : z.shape.pages ≡ pages_of mount f.file = ground-number mount f.file s u (seen_of a) (seen_of z) e0 e1 run at_first at_last in
        λ i. record { page_size = size i; pages = number i }

    all-last : all_told z.beside ≡ true
    all-last = told-all z.beside (stored-told (λ k new is. let within = get-within g.stores k new is in let old = there-within f.stores k (let len = many mount (log_in e1) f g a z turn in omega (arith, within, len)) in lasts-told k old.0 new (old.1, is)) turn.back.stored)

    numbers-same : map (λ b. b.disk) z.beside ≡ map (λ b. b.disk) a.beside
    numbers-same = sym (numbers-seen turn.still.0.counts) ∙ (turn.later.disks ∙ numbers-seen turn.sound.0.counts)

    told-each : (bs : List Beside) → all_told bs ≡ true → Every (λ b. b.told ≡ true) bs
    told-each [] e = every_none
    told-each (b ∷ bs) e = let p = both b.told (all_told bs) e in every_more p.0 (told-each bs p.1)
      where
        both : (s t : Bool) → s && t ≡ true → (s ≡ true) × (t ≡ true)
        both true t e = (refl, e)
        both false t e = absurd cc

    -- each disk went as in a run
    went-of : (opening : Opening) → IsOf opening.bytes e0 → Went (versions (begun_as mount f.file opening) (log_in e1) 0) a.generation a.row z.generation z.row
    went-of opening of = record {
      goes = row-goes (versions (begun_as mount f.file opening) (log_in e1) 0) turn.sound.0.counts turn.still.0.counts turn.sound.0.differ turn.still.0.differ (told-each a.beside all) (told-each z.beside all-last) numbers-same
          (λ n. record { up = turn.later.up n; live = turn.later.live n; aside = turn.later.aside n; turned = turned n (ground-turned mount f.file s u (seen_of a) (seen_of z) e0 e1 run at_first at_last opening n of) });
      rises = turn.later.level;
      near = turn.still.0.near;
    }
      where
        turned : (n : ℕ) → (held_in (seen_of z).disks n ≡ held_in (seen_of a).disks n) ⊎ IsTurnedIn (begun_as mount f.file opening) (log_in e1) (held_in (seen_of a).disks n) (held_in (seen_of z).disks n)
            → (held_in (seen_of z).disks n ≡ held_in (seen_of a).disks n) ⊎ ((i j : Imaged) × (held_in (seen_of a).disks n ≡ Some i) × (held_in (seen_of z).disks n ≡ Some j) × (i.generation ≤ j.generation) × Within (Among (versions (begun_as mount f.file opening) (log_in e1) 0 ∷ [])) j.pages)
        turned n (inl same) = inl same
        turned n (inr t) = inr (t.old, t.new, t.was, t.is, t.later, within-of (begun_as mount f.file opening) (log_in e1) 0 t.new.pages t.since)

    -- the disk at a place, as it is told
    told-at : (p : ℕ) (x : Seat) → Nth p z.row x → (b : Beside) × Nth p z.beside b × (held_in (seen_of z).disks b.disk ≡ image_told true (seat-image x))
    told-at p x at = by (nth-back turn.still.0.counts at)
      where
        by : ((b : Beside) × Nth p z.beside b × Counted b x) → (b : Beside) × Nth p z.beside b × (held_in (seen_of z).disks b.disk ≡ image_told true (seat-image x))
        by (b, here, counts) = (b, here, image-at turn.still.0.counts turn.still.0.differ (every-nth (told-each z.beside all-last) here) here at)

    -- behind a completed sync
    synced-of : (opening : Opening) → IsOf opening.bytes e0 → (from : ℕ) → last_from (trail_of (log_in e1)) ≡ Some from → a.owed ≡ true → Kept (versions (begun_as mount f.file opening) (log_in e1) from) a.generation z.generation z.row
    synced-of opening of from last owed = record {
      paid = let due = ground-lifts mount f.file s u (seen_of a) (seen_of z) e0 e1 run at_first at_last from last in subst (λ o. due_of o a.generation ≤ z.generation) owed due;
      since = λ c held. since-at c held;
      behind = λ c held d v e at. behind-at c held d v e at;
    }
      where
        live-cell : (c : Image) → Placed (Shows Direct) (live_at z.row) z.row c → (p : ℕ) × (e : Cell) × Nth p z.row (In true e) × (e.now ≡ c)
        live-cell c (placed {d = p} on (at_place at shows)) = let r = live-nth z.row p on in (p, r.0, r.1, shown r.0 c (subst (λ x. Shows Direct x c) (nth-same at r.1) shows))
          where
            shown : (e : Cell) (c : Image) → Shows Direct (In true e) c → e.now ≡ c
            shown e _ shows_now = refl
            shown e c (shows_kept q k) = absurd (direct-not-caching q)

        pages-live : (F : List (List ℕ)) × Every (HasPages F) z.row × (length F ≡ z.shape.pages)
        pages-live = turn.still.0.pages all-last

        shown-pages : (seen_of z).pages ≡ Some pages-live.0
        shown-pages = pages-shown (all_told z.beside) (live_pages z.row) pages-live.0 all-last (pages-are pages-live.1 turn.still.0.live)

        now-within : Within (Among (versions (begun_as mount f.file opening) (log_in e1) from ∷ [])) pages-live.0
        now-within = within-of (begun_as mount f.file opening) (log_in e1) from pages-live.0 (subst (λ (o : Option (List (List ℕ))). IfSome o (Holds (begun_as mount f.file opening) (log_in e1) from)) shown-pages (ground-shows mount f.file s u (seen_of a) (seen_of z) e0 e1 run at_first at_last opening from of last))

        has-pages : (e : Cell) → HasPages pages-live.0 (In true e) → e.now.pages ≡ pages-live.0
        has-pages e (pages_live q) = q

        since-at : (c : Image) → Placed (Shows Direct) (live_at z.row) z.row c → Within (Among (versions (begun_as mount f.file opening) (log_in e1) from ∷ [])) c.pages
        since-at c held =
            let r = live-cell c held in
            subst (λ (F : List (List ℕ)). Within (Among (versions (begun_as mount f.file opening) (log_in e1) from ∷ [])) F) (sym (has-pages r.1 (every-nth pages-live.1 r.2)) ∙ ap (λ (i : Image). i.pages) r.3) now-within

        behind-at : (c : Image) → Placed (Shows Direct) (live_at z.row) z.row c → (d : ℕ) (v : Bool) (e : Cell) → Nth d z.row (In v e) → Within (Among (versions (begun_as mount f.file opening) (log_in e1) from ∷ [])) e.now.pages ⊎ (e.now.generation < c.generation) ⊎ (limit ≤ c.generation)
        behind-at c held d v e at =
            let r = live-cell c held in
            let mine = told-at r.0 (In true r.1) r.2 in
            let other = told-at d (In v e) at in
            let live : Contains (live_of z) mine.0.disk = live-told turn.still.0.counts mine.1 r.2 refl in
            let up : is_up_in (seen_of z).disks other.0.disk ≡ true = up-at turn.still.0.counts turn.still.0.differ other.1 at in
            let low : r.1.now.generation ≡ c.generation = ap (λ (i : Image). i.generation) r.3 in
            elim (ground-behind mount f.file s u (seen_of a) (seen_of z) e0 e1 run at_first at_last opening from of last mine.0.disk other.0.disk (as_imaged r.1.now) (as_imaged e.now) live up mine.2 other.2) [
              | inl since ↦ inl (within-of (begun_as mount f.file opening) (log_in e1) from e.now.pages since)
              | inr rest ↦ inr (elim rest [ inl lt ↦ inl (omega (arith, lt, low)) | inr top ↦ inr (omega (arith, top, low)) ])
            ]

    -- the image of a live disk has the pages of the ground
    held-live : (k : ℕ) → Contains (live_of z) k → (F : List (List ℕ)) × ((seen_of z).pages ≡ Some F) × (i : Imaged) × (held_in (seen_of z).disks k ≡ Some i) × (i.pages ≡ F)
    held-live k live =
        let r = live-seat z.beside z.row k turn.still.0.counts live in
        let seat : held_in (seen_of z).disks k ≡ Some (as_imaged (r.2).now) = ap (λ n. held_in (seen_of z).disks n) (sym r.5) ∙ image-at turn.still.0.counts turn.still.0.differ (every-nth (told-each z.beside all-last) r.3) r.3 r.4 in
        let pages = turn.still.0.pages all-last in
        (pages.0, pages-shown (all_told z.beside) (live_pages z.row) pages.0 all-last (pages-are pages.1 turn.still.0.live), as_imaged (r.2).now, seat, live-pages r.2 pages.0 (every-nth pages.1 r.4))
      where
        live-pages : (e : Cell) (F : List (List ℕ)) → HasPages F (In true e) → e.now.pages ≡ F
        live-pages e F (pages_live q) = q

    -- and its store reads as that image
    reads-at : (P : List (List ℕ) → Type 0) (k : ℕ) (old new : StoreSeen) (c : Content) → Store f g k old new → new.state.content ≡ Some c → Contains (live_of z) k → IfSome (seen_of z).pages P → StandFor (shape_of_file mount f.file) P c.blocks
    reads-at P k old new c at told live shown =
        let r = held-live k live in
        let is : held_in (seen_of z).disks k ≡ image z.shape c.blocks =
        subst (λ (o : Option Content). IfSome o (λ v. held_in (seen_of z).disks k ≡ image z.shape v.blocks)) told (after-held mount (log_in e1) f g a z turn k new at.1) in
        (r.2, ap (λ (v : ImageShape). image v c.blocks) (sym last-shape-is) ∙ (sym is ∙ r.3), subst P (sym r.4) (subst (λ (o : Option (List (List ℕ))). IfSome o P) r.1 shown))

    abbrev begun : Opening → Begun
    begun opening = begun_as mount f.file opening

    left-of : (opening : Opening) → IsOf opening.bytes e0 → (k : ℕ) (old new : StoreSeen) → Store f g k old new → Contains (live_of z) k → IsLeft (begun opening) closing (log_in e1) (kept_by a k) new.state.content
    left-of opening of k old new at live =
        let c = content-some new.state.content (lasts-told k old new at) in
        let was : told_in (kept_in (seen_of a).disks k) ≡ Some (kept_by a k) = first-told (kept_in (seen_of a).disks k) ((before mount (log_in e1) f g a z turn k old at.0).told ∙ tells k old at.0) in
        let is : kept_in (seen_of z).disks k ≡ Some (image (shape_of_file mount f.file) (c.0).kept) =
        subst (λ (v : ImageShape). kept_in (seen_of z).disks k ≡ Some (image v (c.0).kept)) last-shape-is
        (subst (λ (o : Option Content). IfSome o (λ v. kept_in (seen_of z).disks k ≡ Some (image z.shape v.kept))) c.1 (after mount (log_in e1) f g a z turn k new at.1).kept) in
        record {
          new = c.0;
          still = c.1;
          kept = ground-kept mount f.file s u (seen_of a) (seen_of z) e0 e1 run at_first at_last closing opening k (kept_by a k) (c.0).kept of live was is whole;
          reads = reads-at (Holds (begun opening) (log_in e1) (synced_from (log_in e1))) k old new c.0 at c.1 live (ground-shows-last mount f.file s u (seen_of a) (seen_of z) e0 e1 run at_first at_last opening of);
          reads_all = λ done. reads-at (HoldsAll (begun opening) (log_in e1)) k old new c.0 at c.1 live (ground-shows-all mount f.file s u (seen_of a) (seen_of z) e0 e1 run at_first at_last (whole done) opening of);
        }
      where
        first-told : (o : Option (Option Imaged)) → is_some o ≡ true → told_in o ≡ Some (unwrap_or (told_in o) None)
        first-told None h = absurd cc
        first-told (Some i) h = refl

    told-of : TellsFile mount closing (log_in e1) f g a z
    told-of =
        let F : List (List ℕ) = paged-pages.0 in
        let are : ArePaged shape F = paged-pages.2 in
        let opening : Opening = record { bytes = concat F } in
        let of : IsOf opening.bytes e0 = run.began opening F (sym at_first.pages ∙ paged-pages.1) (length-of shape F are) (joined-are shape F are) in
        record {
          opening = opening;
          is = record {
            pages = F;
            shown = paged-pages.1;
            began = joined-are shape F are;
            along = along-of mount f.file s u e0 e1 run opening of;
            shows = ground-shows-last mount f.file s u (seen_of a) (seen_of z) e0 e1 run at_first at_last opening of;
            shows_all = λ done. ground-shows-all mount f.file s u (seen_of a) (seen_of z) e0 e1 run at_first at_last (whole done) opening of;
            reached = λ from last. reached-of mount f.file s u e0 e1 run opening from of last;
            lasts = left-of opening of;
            went = went-of opening of;
            synced = λ from last owed. synced-of opening of from last owed;
          };
        }

  -- the ground has the shape that it had
  shape-kept : z.shape ≡ a.shape
  shape-kept =
      let size : z.shape.page_size ≡ mount.page_size = ground-size mount f.file s u (seen_of a) (seen_of z) e0 e1 run at_first at_last in
      let number : z.shape.pages ≡ pages_of mount f.file = ground-number mount f.file s u (seen_of a) (seen_of z) e0 e1 run at_first at_last in
      let same : z.shape ≡ shape_of_file mount f.file = λ i. record { page_size = size i; pages = number i } in
      same ∙ sym turn.over.shaped

  pub file-left : (notices : List (Option Notice)) → AreNotices f a z turn.over.seen.row notices → ((old new : StoreSeen) → f.stores ≡ old ∷ [] → g.stores ≡ new ∷ [] → IsOnly (shape_of_file mount f.file) (log_in e1) a z notices old new)
      → LeavesFile mount closing (log_in e1) f g notices
  file-left notices words only = record {
    opened = a;
    began = turn.over;
    owes = owes-of;
    closed = z;
    sound = turn.still.0;
    shaped = shape-kept;
    ended = turn.back;
    disks = record {
      many = many mount (log_in e1) f g a z turn;
      same = turn.later.disks;
      up = turn.later.up;
      some = some mount (log_in e1) f g a z turn;
      live = turn.later.live;
      fell = fell mount (log_in e1) f g a z turn;
    };
    faults = record { rises = rises; paid = paid mount (log_in e1) f g a z turn };
    told = λ tells. told-of tells;
    words = words;
    only = only;
  }
