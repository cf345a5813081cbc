-- A disk alone under a file as a ground of the machine of mirrors: a row of one.
use Rattle.std.proofs.Common.{◌≡◌, ℕ, zero, suc, ◌<◌, ◌≤◌, ◌==◌, ◌&&◌, Bool, true, false, List, [], ◌∷◌, length, Option, Some, None, IfSome, IsSome, refl, sym, ap, subst, ◌∙◌, arith}
use Rattle.std.specs.Prelude.{◌||◌, if◌then◌else◌, get_or, is_some, ltb, slice_get, unwrap_or}
use Rattle.std.specs.Option.{option_map}
use Rattle.std.specs.List.Sorted.{IsPermutation}
use Rattle.std.proofs.lemmas.Bool.{eq-eqb}
use Rattle.stack_accept.specs.Mount.{Mount}
use Rattle.stack_accept.specs.Plan.{disks_in, numbers_below}
use Rattle.spr_io.specs.Content.{Content}
use Rattle.disk_format.specs.declared.shape.ImageShape.{ImageShape}
use Rattle.disk_format.specs.Image.{image, pages_of as pages_in_blocks}
use Rattle.disk_layer.specs.Disk.{Disk, HasImage, held_on, is_blank, kept_on, pages_on}
use Rattle.disk_layer.specs.Calls as disks
use Rattle.page_ground.specs.Seen.{Imaged, Seen, kept_in, numbers_in}
use Rattle.page_ground.specs.Seen.{pages_in as told_in}
use Rattle.mirror_rules.specs.Tree.{Image, Cell, Store as Found, Seat, In, closed, next, owes}
use Rattle.mirror_rules.specs.Claims.{Pairs, pairs_none, pairs_more, Every, every_none, every_more, Has, has_here, Nth, nth_here, nth_later, pages_live, live_in}
use Rattle.mirror_rules.specs.Opening.{Good, Meets, Opens, meets_good, open_good, wins_here, enter_next, enter_end, passed_live, renew_next, renew_end, filled_in}
use Rattle.mirror_rules.specs.Guards.{Direct, Shows, leaves, shows_kept, shows_now}
use Rattle.mirror_rules.specs.Levels.{Near, near_in, has_live}
use Rattle.mirror_rules.specs.Fates.{Sized}
use Rattle.mirror_rules.proofs.ChainLaws.{direct-not-caching}
use Rattle.mirror_layer.specs.declared.came.Notice.{Notice}
use Rattle.mirror_layer.specs.View.{Beside, as_image, beside_of, cell_of, kept_image, told_pages}
use Rattle.mirror_layer.specs.Calls.{all_told}
use Rattle.mirror_layer.specs.Came.{AreCame, CameAs, came_level, is_live_in}
use Rattle.mirror_layer.specs.Notices.{at_close}
use Rattle.mirror_layer.specs.Ground.{Ground, IsGround, counted, image_told, kept_told, live_pages, pages_told, seen_of}
use Rattle.mirror_layer.specs.Stores.{Finds, GivesBack, Numbered, left, stored}
use Rattle.mirror_layer.specs.Bringing.{Brought, Lies, OpenedOver, Seen as SeenOver, brought, lies}
use Rattle.mirror_layer.proofs.CloseSteps.{told-kept}
use Rattle.mirror_layer.proofs.LastSteps.{blames, given, lasting}
use Rattle.mirror_layer.proofs.NumberSteps.{numbers-many, numbers-under}
use Rattle.script_meaning.specs.declared.store.StoreKey.{StoreKey}
use Rattle.file_stores.specs.State.{StoreState}
use Rattle.file_stores.specs.Held.{StoreSeen}
use Rattle.file_stores.specs.Files.{FileSeen, IsFile}
use Rattle.file_stores.specs.Notices.{AreAtClose}
use Rattle.file_stores.specs.Under.{Many, One}
use Rattle.file_stores.specs.Opening.{content_of, faults_of, shape_of_file, under}
use Rattle.file_stores.specs.WholeDisk.{Alone, IsAlone, IsFirst, seen_whole}
use Rattle.file_stores.proofs.FileLaws.{file-number, in-disks}
use Rattle.file_stores.proofs.Lists.{some-is, to-map}
use Rattle.file_stores.proofs.SpotLaws.{imaged-twice}
use Rattle.file_stores.proofs.WholeLaws.{kept-under}
use Rattle.run_files.specs.Leaves.{AreNotices, kept_by}
use Rattle.run_files.specs.Begun.{pages_in}
use Rattle.run_files.proofs.AlikeLaws.{Alike}
use Rattle.run_files.proofs.PageLaws.{image-many}

-- the ground: its row is the disk, which is live
abbrev pub cell-on : Alone → Cell
cell-on a = cell_of a.disk

abbrev pub ground-of : Alone → Ground
ground-of a = record { shape = a.disk.shape; owed = a.owed; generation = a.generation; row = In true (cell-on a) ∷ []; beside = beside_of a.disk ∷ [] }

-- IT IS TOLD AS THE DISK IS
kept-same : (o : Option (Option Imaged)) (now : Image) → kept_told (is_some o) (kept_image o now) ≡ o
kept-same None now = refl
kept-same (Some kept) now = ap (λ (k : Option Imaged). Some k) (imaged-twice kept)

held-same : (a : Alone) → image_told (is_some (kept_on a.disk)) (Some (cell-on a).now) ≡ held_on a.disk
held-same a = by a.disk.content
  where
    by : (o : Option Content) → image_told (is_some (option_map {T = Content} (λ c. image a.disk.shape c.kept) o)) (Some (record { generation = a.disk.generation; pages = told_pages (option_map {T = Content} (λ c. pages_in_blocks a.disk.shape.page_size c.blocks a.disk.entries) o) }))
        ≡ option_map {T = List (List ℕ)} (λ ps. let image : Imaged = record { generation = a.disk.generation; pages = ps } in image) (option_map {T = Content} (λ c. pages_in_blocks a.disk.shape.page_size c.blocks a.disk.entries) o)
    by None = refl
    by (Some c) = refl

pages-same : (a : Alone) → pages_told (all_told (beside_of a.disk ∷ [])) (live_pages (In true (cell-on a) ∷ [])) ≡ pages_on a.disk
pages-same a = by a.disk.content
  where
    by : (o : Option Content) → pages_told (is_some (option_map {T = Content} (λ c. image a.disk.shape c.kept) o) && true) (told_pages (option_map {T = Content} (λ c. pages_in_blocks a.disk.shape.page_size c.blocks a.disk.entries) o))
        ≡ option_map {T = Content} (λ c. pages_in_blocks a.disk.shape.page_size c.blocks a.disk.entries) o
    by None = refl
    by (Some c) = refl

pub only-alike : (a : Alone) → Alike (seen_whole a) (seen_of (ground-of a))
only-alike a = record {
  size = refl;
  number = refl;
  pages = pages-same a;
  level = refl;
  due = refl;
  live = refl;
  up = λ n. same-up (n == a.disk.disk);
  kept = λ n. same-kept (n == a.disk.disk) _ _;
  held = λ n. same-held (n == a.disk.disk);
  faults = λ n. same-number (n == a.disk.disk) a.disk.faults;
  opened = λ n. same-number (n == a.disk.disk) a.disk.opened;
}
  where
    same-up : (b : Bool) → (if b then true else false) ≡ (if b then true else if b then false else if b then false else false)
    same-up true = refl
    same-up false = refl

    same-number : (b : Bool) (m : ℕ) → (if b then m else 0) ≡ (if b then m else if b then m else if b then m else 0)
    same-number true m = refl
    same-number false m = refl

    same-kept : (b : Bool) (k l : Option (Option Imaged)) → (if b then kept_told (is_some (kept_on a.disk)) (cell-on a).kept else None) ≡ (if b then kept_on a.disk else if b then k else if b then l else None)
    same-kept true k l = kept-same (kept_on a.disk) (cell-on a).now
    same-kept false k l = refl

    same-held : (b : Bool) → (if b then image_told (is_some (kept_on a.disk)) (Some (cell-on a).now) else None) ≡ (if b then held_on a.disk else if b then None else if b then None else None)
    same-held true = held-same a
    same-held false = refl

-- WHAT THE MACHINE SEES of a disk that has an image
module _ (d : Disk) (c : Content) (is : d.content ≡ Some c) where
  -- its pages
  now-told : (cell_of d).now ≡ as_image (record { generation = d.generation; pages = pages_in_blocks d.shape.page_size c.blocks d.entries })
  now-told = ap (λ (o : Option Content). let i : Image = record { generation = d.generation; pages = told_pages (option_map {T = Content} (λ k. pages_in_blocks d.shape.page_size k.blocks d.entries) o) } in i) is

  image-told : HasImage d → image d.shape c.blocks ≡ Some (record { generation = d.generation; pages = pages_in_blocks d.shape.page_size c.blocks d.entries })
  image-told has = subst (λ (o : Option Content). IfSome o (λ k. image d.shape k.blocks ≡ Some (let x : Imaged = record { generation = d.generation; pages = pages_in_blocks d.shape.page_size k.blocks d.entries } in x))) is has

  kept-told : (cell_of d).kept ≡ option_map {T = Imaged} as_image (image d.shape c.kept)
  kept-told = ap (λ (o : Option Content). kept_image (option_map {T = Content} (λ k. image d.shape k.kept) o) (cell_of d).now) is

-- one that tells what it kept
told-content : (d : Disk) (o : Option Content) → is_some (option_map {T = Content} (λ c. image d.shape c.kept) o) && true ≡ true → (c : Content) × (o ≡ Some c)
told-content d None e = absurd cc
told-content d (Some c) e = (c, refl)

-- the store that it leaves
abbrev left-store : Disk → Found
left-store d = closed (In true (cell_of d))

finds-now : (d : Disk) (content : Option Content) → d.content ≡ content → HasImage d → IfSome content (λ c. Some (cell_of d).now ≡ option_map {T = Imaged} as_image (image d.shape c.blocks))
finds-now d None is has = tt
finds-now d (Some c) is has = ap (λ (i : Image). Some i) (now-told d c is) ∙ sym (ap (λ (o : Option Imaged). option_map {T = Imaged} as_image o) (image-told d c is has))

finds-last : (d : Disk) (content : Option Content) → d.content ≡ content → IfSome content (λ c. (cell_of d).kept ≡ option_map {T = Imaged} as_image (image d.shape c.kept))
finds-last d None is = tt
finds-last d (Some c) is = kept-told d c is

no-zeros : (i : Image) (content : Option Content) (P : Content → Type 0) → IfSome content (λ c. Some i ≡ None → P c)
no-zeros i None P = tt
no-zeros i (Some c) P = λ e. absurd cc

finds : (d : Disk) (content : Option Content) (faults : ℕ) → d.content ≡ content → d.faults ≡ faults → HasImage d → Finds d.shape d.disk content faults (left-store d)
finds d content faults is count has = record {
  number = refl;
  count = count;
  now = finds-now d content is has;
  last = finds-last d content is;
  zeros = no-zeros (cell_of d).now content (λ c. (left-store d).blank ≡ is_blank c.blocks);
}

-- the only number of a plan of one disk
only-number : (ns : List ℕ) → IsPermutation ns (numbers_below 1) → ns ≡ 0 ∷ []
only-number ns p = by ns (numbers-many ns 1 p) (numbers-under ns 1 p)
  where
    by : (ms : List ℕ) → length ms ≡ 1 → Every (λ m. m < 1) ms → ms ≡ 0 ∷ []
    by [] many low = absurd (omega (arith, many))
    by (m ∷ []) many (every_more l low) = ap (λ n. n ∷ []) (let e : m ≡ 0 = omega (arith, l) in e)
    by (m ∷ n ∷ ms) many low = absurd (omega (arith, many))

-- the key of a file's only store
pub file-key : (mount : Mount) (f : FileSeen) → IsFile mount f → (old : StoreSeen) → f.stores ≡ old ∷ [] → old.key ≡ record { file = f.file; disk = 0 }
file-key mount f is old was =
    (in-disks (length mount.disks) f.file 0 old.key
    (ap (λ (ks : List StoreKey). slice_get ks 0) (sym is.keys) ∙ to-map (λ (s : StoreSeen). s.key) f.stores 0 old (ap (λ (ss : List StoreSeen). slice_get ss 0) was))).0

-- THE DISK WAS OPENED
-- it wins, nobody joins and nobody is made
module _ (a : Alone) (first : IsFirst a) where
  opens-by : (told : Bool) (n : ℕ) → Opens told n (In false (cell-on a) ∷ []) (Good (owes (In true (cell-on a) ∷ []) a.disk.generation) a.disk.generation) (In true (cell-on a) ∷ [])
  opens-by told n = open_good (wins_here refl every_none) (enter_next nth_here passed_live enter_end) (renew_next nth_here filled_in renew_end)

  opens-alone : (told : Bool) (n : ℕ) → Opens told n (In false (cell-on a) ∷ []) (Good a.owed a.generation) (In true (cell-on a) ∷ [])
  opens-alone told n =
      subst (λ o. Opens told n (In false (cell-on a) ∷ []) (Good o a.generation) (In true (cell-on a) ∷ [])) (sym first.owes)
      (subst (λ g. Opens told n (In false (cell-on a) ∷ []) (Good (ltb 1 g) g) (In true (cell-on a) ∷ [])) (sym first.level) (opens-by told n))

module _ (mount : Mount) (f : FileSeen) (old : StoreSeen) (a : Alone) (is : IsFile mount f) (was : f.stores ≡ old ∷ []) (over : disks.Opened (under mount old) a.disk) (first : IsFirst a) where
  abbrev shape : ImageShape
  shape = shape_of_file mount f.file

  abbrev store : Found
  store = left-store a.disk

  pub first-shape : a.disk.shape ≡ shape
  first-shape = over.shape ∙ ap (λ (k : StoreKey). shape_of_file mount k.file) (file-key mount f is old was)

  pub first-number : a.disk.disk ≡ 0
  first-number = over.disk ∙ ap (λ (k : StoreKey). k.disk) (file-key mount f is old was)

  plan : disks_in mount.ground ≡ 0 ∷ []
  plan = only-number (disks_in mount.ground) (subst (λ n. IsPermutation (disks_in mount.ground) (numbers_below n)) (sym (file-number mount f is) ∙ ap (λ (ss : List StoreSeen). length ss) was) is.sound.disks)

  at-first : Nth 0 f.stores old
  at-first = subst (λ (ss : List StoreSeen). Nth 0 ss old) (sym was) nth_here

  finds-first : Finds shape 0 old.state.content old.state.faults store
  finds-first =
      subst (λ (s : ImageShape). Finds s 0 old.state.content old.state.faults store) first-shape
      (subst (λ n. Finds a.disk.shape n old.state.content old.state.faults store) first-number (finds a.disk old.state.content old.state.faults over.content over.calm over.image))

  meets-alone : Pairs Meets (store ∷ []) (In false (cell-on a) ∷ [])
  meets-alone = pairs_more (meets_good {s = store} {i = (cell-on a).now} refl) pairs_none

  beside-is : beside_of a.disk ≡ record { disk = 0; shape = shape; there = true; told = is_some old.state.content; opened = old.state.faults }
  beside-is =
      let told : is_some (kept_on a.disk) ≡ is_some old.state.content = told-kept a.disk ∙ ap (λ (o : Option Content). is_some o) over.content in
      let since : a.disk.opened ≡ old.state.faults = over.opened ∙ over.calm in
      λ i. record { disk = first-number i; shape = first-shape i; there = true; told = told i; opened = since i }

  seen-alone : SeenOver content_of faults_of shape f.stores mount.ground (beside_of a.disk ∷ [])
  seen-alone = record {
    stores_seen = store ∷ [];
    row = In false (cell-on a) ∷ [];
    brought = subst (λ (ns : List ℕ). Pairs (Brought content_of faults_of shape f.stores) ns (store ∷ [])) (sym plan) (pairs_more (brought {t = old} at-first finds-first) pairs_none);
    lies = subst (λ (ns : List ℕ). Pairs (Lies content_of faults_of shape f.stores) ns (beside_of a.disk ∷ [])) (sym plan) (pairs_more (lies {t = old} at-first beside-is) pairs_none);
    meets = meets-alone;
  }

  sized-alone : all_told (beside_of a.disk ∷ []) ≡ true → Every (Sized shape.pages) (store ∷ [])
  sized-alone told = every_more sized every_none
    where
      sized : (i : Image) → Some (cell-on a).now ≡ Some i → length i.pages ≡ shape.pages
      sized i e =
          let c = told-content a.disk a.disk.content told in
          let many = image-many a.disk.shape (c.0).blocks _ (image-told a.disk c.0 c.1 over.image) in
          ap (λ (x : Image). length x.pages) (sym (some-is (cell-on a).now i e) ∙ now-told a.disk c.0 c.1) ∙ (many ∙ ap (λ (s : ImageShape). s.pages) first-shape)

  pub only-opened : OpenedOver content_of faults_of shape f.stores mount.ground (ground-of a)
  unfolding seen-alone
  only-opened = record {
    seen = seen-alone;
    opens = opens-alone a first (all_told (beside_of a.disk ∷ [])) shape.pages;
    shaped = first-shape;
    fair = blames (Good a.owed a.generation) (opens-alone a first true shape.pages) meets-alone;
    lasting = λ told. lasting (opens-alone a first true shape.pages) meets-alone (sized-alone told);
    given = λ told. given (opens-alone a first true shape.pages) meets-alone (sized-alone told);
  }

  -- what its opening found
  pub only-row : only-opened.seen.row ≡ In false (cell-on a) ∷ []
  unfolding only-opened seen-alone
  only-row = refl

  -- what its store told
  pub only-came : IfSome old.state.content (λ c. image shape c.blocks ≡ Some (record { generation = a.generation; pages = live_pages (In true (cell-on a) ∷ []) }))
  only-came = by old.state.content over.content
    where
      by : (o : Option Content) → a.disk.content ≡ o → IfSome o (λ c. image shape c.blocks ≡ Some (record { generation = a.generation; pages = live_pages (In true (cell-on a) ∷ []) }))
      by None e = tt
      by (Some c) e =
          let now = now-told a.disk c e in
          let level = first.level in
          ap (λ (s : ImageShape). image s c.blocks) (sym first-shape)
          ∙ (image-told a.disk c e over.image
          ∙ (ap (λ (n : ℕ). let i : Imaged = record { generation = n; pages = pages_in_blocks a.disk.shape.page_size c.blocks a.disk.entries } in Some i) (sym level)
          ∙ ap (λ (ps : List (List ℕ)). let i : Imaged = record { generation = a.generation; pages = ps } in Some i) (sym (ap (λ (x : Image). x.pages) now))))

  pub only-kept : IfSome old.state.content (λ c. kept_by (ground-of a) 0 ≡ pages_in shape c.kept)
  only-kept = by old.state.content over.content
    where
      by : (o : Option Content) → a.disk.content ≡ o → IfSome o (λ c. kept_by (ground-of a) 0 ≡ pages_in shape c.kept)
      by None e = tt
      by (Some c) e =
          let same : kept_in (seen_of (ground-of a)).disks 0 ≡ Some (image shape c.kept) =
          (only-alike a).kept 0 ∙ (kept-under a 0 (sym first-number) ∙ (ap (λ (o : Option Content). option_map {T = Content} (λ k. image a.disk.shape k.kept) o) e ∙ ap (λ (s : ImageShape). Some (image s c.kept)) first-shape)) in
          ap (λ (o : Option (Option Imaged)). unwrap_or (told_in o) None) same

-- THE DISK AT ANY TIME
module _ (a : Alone) (has : HasImage a.disk) (counts : a.disk.opened ≤ a.disk.faults) (near : IsAlone a) where
  only-ground : IsGround (ground-of a)
  only-ground = record {
    live = has_here live_in;
    there = every_more refl every_none;
    shapes = every_more refl every_none;
    differ = (every_none, tt);
    counts = pairs_more (counted refl counts) pairs_none;
    pages = λ told. let c = told-content a.disk a.disk.content told in
        ((cell-on a).now.pages, every_more (pages_live refl) every_none, ap (λ (x : Image). length x.pages) (now-told a.disk c.0 c.1) ∙ image-many a.disk.shape (c.0).blocks _ (image-told a.disk c.0 c.1 has));
    near = every_more (near_in (λ i shows. most i shows) (λ e i shows. least i shows)) every_none;
    even = λ e. every_more (has_live (λ i shows. level e i shows)) every_none;
    within = near.within;
  }
    where
      most : (i : Image) → Shows Direct (In true (cell-on a)) i → i.generation ≤ next a.generation
      most _ shows_now = near.high
      most i (shows_kept q k) = absurd (direct-not-caching q)

      least : (i : Image) → Shows Direct (In true (cell-on a)) i → a.generation ≤ i.generation
      least _ shows_now = near.low
      least i (shows_kept q k) = absurd (direct-not-caching q)

      level : a.owed ≡ false → (i : Image) → Shows Direct (In true (cell-on a)) i → i.generation ≡ a.generation
      level e _ shows_now = near.even e
      level e i (shows_kept q k) = absurd (direct-not-caching q)

  only-numbered : a.disk.disk ≡ 0 → Numbered (beside_of a.disk ∷ [])
  only-numbered zero_is = record {
    below = every_more (omega (arith, zero_is)) every_none;
    each = λ n low. has_here (let e : a.disk.disk ≡ n = omega (arith, zero_is, low) in e);
  }

  -- what is true of its ground
  pub only-sound : a.disk.disk ≡ 0 → IsGround (ground-of a) × Numbered (beside_of a.disk ∷ [])
  only-sound zero_is = (only-ground, only-numbered zero_is)

  -- and it was closed
  pub only-back : (g : FileSeen) (new : StoreSeen) → g.stores ≡ new ∷ [] → new.state ≡ record { content = a.disk.content; faults = a.disk.faults } → a.disk.disk ≡ 0
      → GivesBack content_of faults_of (beside_of a.disk ∷ []) (In true (cell-on a) ∷ []) g.stores
  only-back g new is state zero_is =
      let content : a.disk.content ≡ new.state.content = sym (ap (λ (s : StoreState). s.content) state) in
      let count : a.disk.faults ≡ new.state.faults = sym (ap (λ (s : StoreState). s.faults) state) in
      record {
        many = ap (λ (ss : List StoreSeen). length ss) is;
        seen = left-store a.disk ∷ [];
        stored = pairs_more
            (stored {t = new} (subst (λ n. Nth n g.stores new) (sym zero_is) (subst (λ (ss : List StoreSeen). Nth 0 ss new) (sym is) nth_here)) (finds a.disk new.state.content new.state.faults content count has)
            (sym (ap (λ (o : Option Content). is_some o) content) ∙ sym (told-kept a.disk)) (omega (arith, counts, count)))
            pairs_none;
        left = pairs_more (left (leaves shows_now refl) refl refl) pairs_none;
      }

-- WHAT IS TOLD OF IT: its opening made nothing of it, and it is live
module _ (f : FileSeen) (old : StoreSeen) (a z : Alone) (was : f.stores ≡ old ∷ []) (first : a.disk.disk ≡ 0) (last : z.disk.disk ≡ 0) where
  nothing-made : (told : Bool) → AreCame told (beside_of a.disk ∷ []) (In false (cell-on a) ∷ []) (In true (cell-on a) ∷ []) (None ∷ [])
  nothing-made told _ _ _ _ nth_here nth_here nth_here = subst (λ n. CameAs told (In false (cell-on a)) (In true (cell-on a)) (get_or (None ∷ []) n None)) (sym first) (came_level refl)
  nothing-made told _ _ _ _ (nth_later p) q r = elim p [ ]

  still-live : is_live_in (In true (cell-on z) ∷ []) 0 ≡ true
  still-live = subst (λ n. ((true && 0 == n) || false) ≡ true) (sym last) refl

  pub only-words : (made notices : List (Option Notice)) → length made ≡ length f.stores → AreAtClose (One z) made notices → AreNotices f (ground-of a) (ground-of z) (In false (cell-on a) ∷ []) notices
  only-words made notices each close = record {
    made = None ∷ [];
    made_so = nothing-made (all_told (beside_of a.disk ∷ []));
    each = sym (ap (λ (ss : List StoreSeen). length ss) was);
    notices_so = record {
      many = close.many ∙ (each ∙ ap (λ (ss : List StoreSeen). length ss) was);
      each = λ disk low. at disk low;
    };
  }
    where
      at : (disk : ℕ) → disk < 1 → get_or notices disk None ≡ at_close (get_or (None ∷ []) disk None) (is_live_in (In true (cell-on z) ∷ []) disk)
      at zero low =
          let all = ap (λ (ss : List StoreSeen). length ss) was in
          close.each 0 (omega (arith, each, all)) ∙ sym (ap (λ b. at_close None b) still-live)
      at (suc disk) low = absurd (omega (arith, low))
