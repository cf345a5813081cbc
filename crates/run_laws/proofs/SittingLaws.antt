-- The sittings of a file over mirrors that are no runs, in a chain.
use Rattle.std.proofs.Common.{◌≡◌, ℕ, zero, suc, Bool, true, false, List, [], ◌∷◌, ◌++◌, Option, Some, None, refl, sym, ap, subst, ◌∙◌}
use Rattle.std.specs.Prelude.{◌&&◌, IsSome, IfSome, is_some}
use Rattle.std.specs.Option.{option_map}
use Rattle.spr_io.specs.Content.{Content}
use Rattle.stack_accept.specs.Mount.{Mount}
use Rattle.stack_accept.specs.Plan.{disks_in}
use Rattle.script_meaning.specs.Stack.{pages_of}
use Rattle.disk_format.specs.declared.shape.ImageShape.{ImageShape}
use Rattle.disk_format.specs.Image.{image}
use Rattle.page_ground.specs.Seen.{DiskSeen, Imaged, Seen, numbers_in}
use Rattle.mirror_rules.specs.Tree.{Image, Store as Found, Why, Blank, Bad, Down, Seat, In, Out}
use Rattle.mirror_rules.specs.Claims.{Pairs, pairs_none, pairs_more, Every, every_none, every_more, Nth, nth_here, nth_later}
use Rattle.mirror_rules.specs.Opening.{Good, Meets, Opens, opened, meets_good, meets_blank, meets_bad}
use Rattle.mirror_rules.specs.Fates.{Excused, disk_of, ended_same}
use Rattle.mirror_rules.specs.Guards.{Direct, Leaves, leaves, leaves_none, Settled, shows_now, shows_out, Stands, stands, At, at_place, Within, Among}
use Rattle.mirror_rules.specs.History.{Chain, Comes, Joins, Marked, Rests, Sync, Unmoved, unmoved_in, unmoved_out, everywhere, image_if, images_at, chain_looks, chain_refused, chain_rests, look_stays}
use Rattle.mirror_rules.proofs.RoundLaws.{pairs-map}
use Rattle.mirror_rules.proofs.LevelLaws.{opens-level}
use Rattle.mirror_rules.proofs.ChainLaws.{chain-lasts}
use Rattle.mirror_layer.specs.declared.refuse.Refusal.{Refusal}
use Rattle.mirror_layer.specs.View.{Beside, as_image}
use Rattle.mirror_layer.specs.Bringing.{Brought, Lies, OpenedOver, RefusedOver, Seen as SeenOver, brought, lies, lacked, lacked_first, refused}
use Rattle.mirror_layer.specs.Calls.{all_told}
use Rattle.mirror_layer.specs.Ground.{Ground, IsGround, Counted, as_imaged, counted, disk_seen, disks_seen, image_told, pages_told, live_pages, seen_of}
use Rattle.mirror_layer.specs.Meeting.{Rests as RestsAt, rests_met, rests_shut}
use Rattle.mirror_layer.proofs.ChangeLaws.{pages-are}
use Rattle.mirror_layer.specs.Stores.{Finds, GivesBack, Left, left, Stored, stored}
use Rattle.file_stores.specs.Keys.{EachAt}
use Rattle.file_stores.specs.Held.{StoreSeen}
use Rattle.file_stores.specs.Files.{FileSeen}
use Rattle.file_stores.specs.Opening.{content_of, faults_of, shape_of_file}
use Rattle.file_stores.specs.Reading.{Stays, stays_failed, stays_left, stays_out, stays_same}
use Rattle.file_stores.proofs.Lists.{some-is}
use Rattle.file_stores.proofs.GroundLists.{nth-get}
use Rattle.image_commands.specs.Read.{Looked}
use Rattle.run_files.specs.Held.{ClosesGround}
use Rattle.run_files.specs.Leaves.{TellsAll}
use Rattle.run_files.proofs.GivenLaws.{lies-told, pages-shown, told-all}
use Rattle.run_laws.specs.Sittings.{AreSeen, ClosedAreSeen, ComesAs, EachSyncIsDumped, RunsAreSeen, SittingsGoOn, rests_with, sits_closed, sits_looked, sits_refused}
use Rattle.run_laws.proofs.NumberLaws.{SameNumber, opens-number}

-- THE SAME IMAGES
-- two rows of stores show the same images
abbrev Alike : Found → Found → Type 0
Alike s t = s.image ≡ t.image

nth-same : {A : Type 0} {n : ℕ} {xs : List A} {x y : A} → Nth n xs x → Nth n xs y → x ≡ y
nth-same {x = x} {y = y} h k = some-is x y (sym (nth-get h) ∙ nth-get k)

-- a store that tells what it holds shows one image
one-image : (shape : ImageShape) (content : Option Content) (i j : Option Image) → IsSome content → IfSome content (λ c. i ≡ option_map {T = Imaged} as_image (image shape c.blocks)) → IfSome content (λ c. j ≡ option_map {T = Imaged} as_image (image shape c.blocks))
    → i ≡ j
one-image shape None i j some is are = absurd cc
one-image shape (Some c) i j some is are = is ∙ sym are

-- the store at this place tells
abbrev TellsAt : List StoreSeen → ℕ → Type 0
TellsAt stores n = (t : StoreSeen) → Nth n stores t → IsSome t.state.content

one-alike : {shape : ImageShape} {stores : List StoreSeen} {n : ℕ} {s t : Found} → TellsAt stores n → Brought content_of faults_of shape stores n s → Brought content_of faults_of shape stores n t → Alike s t
one-alike {shape = shape} {stores = stores} {n = n} {s = s} {t = t} tells (brought {t = a} p f) (brought {t = b} q g) =
    one-image shape (content_of a) s.image t.image (tells a p) f.now (subst (λ (u : StoreSeen). IfSome (content_of u) (λ c. t.image ≡ option_map {T = Imaged} as_image (image shape c.blocks))) (nth-same q p) g.now)

alike : {shape : ImageShape} {stores : List StoreSeen} {ns : List ℕ} {ss ts : List Found} → Every (TellsAt stores) ns → Pairs (Brought content_of faults_of shape stores) ns ss → Pairs (Brought content_of faults_of shape stores) ns ts → Pairs Alike ss ts
alike every_none pairs_none pairs_none = pairs_none
alike (every_more t h) (pairs_more b p) (pairs_more c q) = pairs_more (one-alike t b c) (alike h p q)

tells-each : {stores : List StoreSeen} (ns : List ℕ) → EachAt (λ at s. IsSome s.state.content) stores → Every (TellsAt stores) ns
tells-each [] told = every_none
tells-each (n ∷ ns) told = every_more (λ t p. told n t (nth-get p)) (tells-each ns told)

comes-alike : {n : ℕ} {past : List Image} {ss ts : List Found} → Pairs Alike ss ts → Every (Comes Direct n past) ss → Every (Comes Direct n past) ts
comes-alike pairs_none every_none = every_none
comes-alike {n = n} {past = past} (pairs_more {x = s} {y = t} e p) (every_more c h) = every_more one (comes-alike p h)
  where
    one : Comes Direct n past t
    one = record { shown = λ i is. c.shown i (e ∙ is); sized = λ i is. c.sized i (e ∙ is); settled = tt }

at-alike : {ss ts : List Found} {d : ℕ} {i : Image} → Pairs Alike ss ts → At Stands d ss i → At Stands d ts i
at-alike p (at_place at is) = by p at is
  where
    by : {ss ts : List Found} {d : ℕ} {s : Found} {i : Image} → Pairs Alike ss ts → Nth d ss s → Stands s i → At Stands d ts i
    by pairs_none at is = elim at [ ]
    by (pairs_more e p) nth_here (stands is) = at_place nth_here (stands (sym e ∙ is))
    by (pairs_more e p) (nth_later at) is = later (by p at is)
      where
        later : {t : Found} {ts : List Found} {d : ℕ} {i : Image} → At Stands d ts i → At Stands (suc d) (t ∷ ts) i
        later (at_place at is) = at_place (nth_later at) is

marked-alike : {next counts : List Image} {ss ts : List Found} {run sync : ℕ → Bool} → Pairs Alike ss ts → Marked next counts ss run sync → Marked next counts ts run sync
marked-alike p m = record {
  for_run = λ d on. let found = m.for_run d on in (found.0, at-alike p found.1, found.2);
  for_sync = λ d on. let found = m.for_sync d on in (found.0, at-alike p found.1, found.2);
  both = m.both;
}

images-alike : {ss ts : List Found} (L : ℕ → Bool) → Pairs Alike ss ts → images_at L ss ≡ images_at L ts
images-alike L pairs_none = refl
images-alike L (pairs_more {x = s} {y = t} {xs = ss} {ys = ts} e p) =
    ap (λ (o : Option Image). image_if (L zero) o (images_at (λ d. L (suc d)) ss)) e ∙ ap (λ (is : List Image). image_if (L zero) t.image is) (images-alike (λ d. L (suc d)) p)

-- behind a sitting, by the images that the stores show
rests-alike : {n : ℕ} {f : Sync} (past next counts : List Image) {ss ts : List Found} (run sync : ℕ → Bool) → Pairs Alike ss ts → Chain Direct n f (rests_with past next counts ss run sync) → Chain Direct n f (rests_with past next counts ts run sync)
rests-alike {n} {f} past next counts {ss} {ts} run sync p chain =
    subst (λ (is : List Image). Chain Direct n f (Rests (images_at everywhere ts ++ past) (images_at run ts ++ next) (is ++ counts))) (images-alike sync p)
    (subst (λ (is : List Image). Chain Direct n f (Rests (images_at everywhere ts ++ past) (is ++ next) (images_at sync ss ++ counts))) (images-alike run p)
    (subst (λ (is : List Image). Chain Direct n f (Rests (is ++ past) (images_at run ss ++ next) (images_at sync ss ++ counts))) (images-alike everywhere p) chain))

-- STORES THAT CAME BACK
left-leaves : {row : List Seat} {ts : List Found} → Pairs Left row ts → Pairs (Leaves Direct) row ts
left-leaves p = pairs-map (λ x s. one) p
  where
    one : {x : Seat} {s : Found} → Left x s → Leaves Direct x s
    one (left shows count kept) = shows

-- what a ground gave back is what the machine sees of the stores then
back-seen : {shape : ImageShape} {olds news : List StoreSeen} {ns : List ℕ} {bs : List Beside} {ts : List Found} → Pairs (Lies content_of faults_of shape olds) ns bs → Pairs (Stored content_of faults_of news) bs ts → Pairs (Brought content_of faults_of shape news) ns ts
back-seen pairs_none pairs_none = pairs_none
back-seen {shape = shape} {olds = olds} {news = news} (pairs_more {x = n} {y = b} l p) (pairs_more {y = t} s q) = pairs_more (one l s) (back-seen p q)
  where
    one : Lies content_of faults_of shape olds n b → Stored content_of faults_of news b t → Brought content_of faults_of shape news n t
    one (lies at is) (stored {t = u} to found told later) =
        brought (subst (λ (b : Beside). Nth b.disk news u) is to) (subst (λ (b : Beside). Finds b.shape b.disk (content_of u) (faults_of u) t) is found)

some-told : (content : Option Content) → is_some content ≡ true → IsSome content
some-told None e = absurd cc
some-told (Some c) e = e

-- and these stores tell what they hold, if they did
back-tells : {shape : ImageShape} {olds news : List StoreSeen} {ns : List ℕ} {bs : List Beside} {ts : List Found} → Every (λ b. b.told ≡ true) bs → Pairs (Lies content_of faults_of shape olds) ns bs → Pairs (Stored content_of faults_of news) bs ts
    → Every (TellsAt news) ns
back-tells every_none pairs_none pairs_none = every_none
back-tells {shape = shape} {olds = olds} {news = news} (every_more e h) (pairs_more {x = n} {y = b} l p) (pairs_more {y = t} s q) = every_more (one l s) (back-tells h p q)
  where
    one : Lies content_of faults_of shape olds n b → Stored content_of faults_of news b t → TellsAt news n
    one (lies at is) (stored {t = u} to found told later) v here =
        some-told (content_of v) (subst (λ (w : StoreSeen). is_some (content_of w) ≡ true) (nth-same (subst (λ (b : Beside). Nth b.disk news u) is to) here) (told ∙ e))

-- THE STORES OF AN OPENING
module _ (mount : Mount) (f : FileSeen) (tells : TellsAll f) (beside : List Beside) (seen : SeenOver content_of faults_of (shape_of_file mount f.file) f.stores mount.ground beside) where
  told-here : all_told beside ≡ true
  told-here = told-all beside (lies-told tells seen.lies)

  -- they come as what the opening found
  found-alike : {past next counts : List Image} {ss : List Found} {run sync : ℕ → Bool} → ComesAs mount f past next counts ss run sync → Pairs Alike ss seen.stores_seen
  found-alike to = alike (tells-each (disks_in mount.ground) tells) to.seen seen.brought

  opened-told : {owed : Bool} {generation : ℕ} {us : List Seat} → Opens (all_told beside) (pages_of mount f.file) seen.row (Good owed generation) us → Opens true (pages_of mount f.file) seen.row (Good owed generation) us
  opened-told {owed} {generation} {us} o = subst (λ t. Opens t (pages_of mount f.file) seen.row (Good owed generation) us) told-here o

  -- a sitting in which nothing was written
  look-goes-on : {s : Sync} {past next counts : List Image} {ss : List Found} {owed : Bool} {generation : ℕ} {us row : List Seat} {ts : List Found} {run sync run' sync' : ℕ → Bool} → Opens (all_told beside) (pages_of mount f.file) seen.row (Good owed generation) us
      → Pairs Unmoved us row → Pairs Left row ts → Chain Direct (pages_of mount f.file) s (Rests past next counts) → ComesAs mount f past next counts ss run sync → Joins run sync seen.row us run' sync'
      → Chain Direct (pages_of mount f.file) s (rests_with past next counts ts run' sync')
  look-goes-on opens stay back chain to joins =
      let same = found-alike to in
      chain_rests (look_stays refl (chain_looks chain (comes-alike same to.comes) (marked-alike same to.marked) seen.meets (opened-told opens) joins) stay) (left-leaves back)

-- A DUMP
stay-unmoved : {refused : Bool} {us row : List Seat} → Pairs (Stays refused) us row → Pairs Unmoved us row
stay-unmoved {refused} p = pairs-map (λ x y. one) p
  where
    one : {x y : Seat} → Stays refused x y → Unmoved x y
    one stays_out = unmoved_out refl
    one stays_left = unmoved_in refl
    one (stays_same e) = unmoved_in refl
    one (stays_failed low) = unmoved_in refl

looks-go-on : (mount : Mount) {unread : Bool} (f g : FileSeen) (look : Looked mount unread f g) (tells : TellsAll f) {s : Sync} {past next counts : List Image} {ss ts : List Found} {run sync run' sync' : ℕ → Bool} → Chain Direct (pages_of mount f.file) s (Rests past next counts)
    → ComesAs mount f past next counts ss run sync → Joins run sync look.over.seen.row look.opened.row run' sync' → AreSeen mount f.file g.stores ts → Chain Direct (pages_of mount f.file) s (rests_with past next counts ts run' sync')
looks-go-on mount f g look tells {past = past} {next = next} {counts = counts} {run' = run'} {sync' = sync'} chain to joins after =
    let seen = look.over.seen in
    let beside = look.opened.beside in
    let told = lies-told tells seen.lies in
    let then = look-goes-on mount f tells beside seen look.over.opens (stay-unmoved look.stays) look.back.left chain to joins in
    rests-alike past next counts run' sync' (alike (back-tells told seen.lies look.back.stored) (back-seen seen.lies look.back.stored) after) then

pub each-sync-is-dumped : EachSyncIsDumped
each-sync-is-dumped mount f g look pages are tells Vs past next counts chain comes up =
    let opens = opened-told mount f tells look.opened.beside look.over.seen look.over.opens in
    let given = chain-lasts chain comes look.over.seen.meets opens up.up up.counted in
    let level = opens-level opens look.over.seen.meets in
    let shown : (seen_of look.opened).pages ≡ Some given.0 =
    pages-shown (all_told look.opened.beside) (live_pages look.opened.row) given.0 (told-here mount f tells look.opened.beside look.over.seen) (pages-are given.1 level.1) in
    let same : given.0 ≡ pages = subst (λ (o : Option (List (List ℕ))). IfSome o (λ ps. ps ≡ pages)) shown are.told in
    subst (λ (F : List (List ℕ)). Within (Among Vs) F) same given.2

-- AN OPENING THAT WAS REFUSED
settled-each : (n : ℕ) (past : List Image) {ss : List Found} → Every (Comes Direct n past) ss → Every (Settled Direct) ss
settled-each n past every_none = every_none
settled-each n past (every_more c h) = every_more tt (settled-each n past h)

-- a disk that was not opened yet would have been found so
unopened : (s t : Found) (o : Option Image) (b : Bool) → s.image ≡ o → s.blank ≡ b → t.image ≡ o → (x : Seat) × Meets s x × Leaves Direct x t
unopened s t (Some i) b is blank now = (In false (opened s i), meets_good is, leaves shows_now now)
unopened s t None true is blank now = (Out Blank s, meets_blank is blank, leaves_none is now)
unopened s t None false is blank now = (Out Bad s, meets_bad is blank, leaves_none is now)

shown-out : {b : Why} {s t : Found} → Leaves Direct (Out b s) t → t.image ≡ s.image
shown-out (leaves (shows_out is) now) = now ∙ sym is
shown-out (leaves_none is now) = now ∙ sym is

-- where memory ran out in the openings of the disks, the stores are as the openings of all would have found them
lacked-met : {ss : List Found} {row : List Seat} {ts : List Found} → Pairs RestsAt ss row → Pairs (Leaves Direct) row ts → (xs : List Seat) × Pairs Meets ss xs × Pairs (Leaves Direct) xs ts
lacked-met pairs_none pairs_none = ([], pairs_none, pairs_none)
lacked-met (pairs_more {x = s} r p) (pairs_more {y = t} l q) =
    let rest = lacked-met p q in
    let first = one r l in
    (first.0 ∷ rest.0, pairs_more first.1 rest.1, pairs_more first.2 rest.2)
  where
    one : {x : Seat} → RestsAt s x → Leaves Direct x t → (y : Seat) × Meets s y × Leaves Direct y t
    one {x} (rests_met m) l = (x, m, l)
    one rests_shut l = unopened s t s.image s.blank refl refl (shown-out l)

-- stores of which none was opened
none-opened : (ss : List Found) → (row : List Seat) × Pairs RestsAt ss row × Pairs (Leaves Direct) row ss
none-opened [] = ([], pairs_none, pairs_none)
none-opened (s ∷ ss) = let rest = none-opened ss in (Out Down s ∷ rest.0, pairs_more rests_shut rest.1, pairs_more (out s.image refl) rest.2)
  where
    out : (o : Option Image) → s.image ≡ o → Leaves Direct (Out Down s) s
    out (Some i) is = leaves (shows_out is) is
    out None is = leaves_none is is

lacked-goes-on : {n : ℕ} {s : Sync} {past next counts : List Image} {ss : List Found} {row : List Seat} {ts : List Found} {run sync : ℕ → Bool} → Pairs RestsAt ss row → Pairs (Leaves Direct) row ts → Chain Direct n s (Rests past next counts)
    → Every (Comes Direct n past) ss → Marked next counts ss run sync → Chain Direct n s (rests_with past next counts ts run sync)
lacked-goes-on rests leave chain comes marked = let met = lacked-met rests leave in chain_rests (chain_refused chain comes marked met.1 (ended_same refl)) met.2

over-goes-on : (mount : Mount) (f : FileSeen) (tells : TellsAll f) (why : Refusal) (news : List StoreSeen) → RefusedOver content_of faults_of (shape_of_file mount f.file) f.stores mount.ground why news → {s : Sync} {past next counts : List Image} {ss ts : List Found} {run sync : ℕ → Bool}
    → Chain Direct (pages_of mount f.file) s (Rests past next counts) → ComesAs mount f past next counts ss run sync → AreSeen mount f.file news ts → Chain Direct (pages_of mount f.file) s (rests_with past next counts ts run sync)
over-goes-on mount f tells why news (refused {beside = beside} seen opens says reasoned blames lasting back) {past = past} {next = next} {counts = counts} {run = run} {sync = sync} chain to after =
    let same = found-alike mount f tells beside seen to in
    let comes = comes-alike same to.comes in
    let ends = (lasting (told-here mount f tells beside seen)).ends Direct (settled-each (pages_of mount f.file) past comes) in
    rests-alike past next counts run sync (alike (back-tells (lies-told tells seen.lies) seen.lies back.stored) (back-seen seen.lies back.stored) after)
    (chain_rests (chain_refused chain comes (marked-alike same to.marked) seen.meets ends) (left-leaves back.left))
over-goes-on mount f tells why news (lacked found lie rests back) {past = past} {next = next} {counts = counts} {run = run} {sync = sync} chain to after =
    let same = alike (tells-each (disks_in mount.ground) tells) to.seen found in
    rests-alike past next counts run sync (alike (back-tells (lies-told tells lie) lie back.stored) (back-seen lie back.stored) after)
    (lacked-goes-on rests (left-leaves back.left) chain (comes-alike same to.comes) (marked-alike same to.marked))
over-goes-on mount f tells why news lacked_first {past = past} {next = next} {counts = counts} {ss = ss} {run = run} {sync = sync} chain to after =
    let none = none-opened ss in
    rests-alike past next counts run sync (alike (tells-each (disks_in mount.ground) tells) to.seen after) (lacked-goes-on none.1 none.2 chain to.comes to.marked)

-- A FILE THAT WAS OPENED AND CLOSED AGAIN
told-pages : (b : Bool) (ps qs : List (List ℕ)) → pages_told b ps ≡ Some qs → b ≡ true
told-pages true ps qs e = refl
told-pages false ps qs e = absurd cc

every-told : (bs : List Beside) → all_told bs ≡ true → Every (λ b. b.told ≡ true) bs
every-told [] e = every_none
every-told (b ∷ bs) e = by b.told refl e (λ h. every-told bs h)
  where
    by : (t : Bool) → b.told ≡ t → t && all_told bs ≡ true → (all_told bs ≡ true → Every (λ b. b.told ≡ true) bs) → Every (λ b. b.told ≡ true) (b ∷ bs)
    by true is e rest = every_more is (rest e)
    by false is e rest = absurd cc

same-image : (i j : Image) → as_imaged i ≡ as_imaged j → i ≡ j
same-image i j e = ap as_image e

same-images : (o p : Option Image) → option_map {T = Image} as_imaged o ≡ option_map {T = Image} as_imaged p → o ≡ p
same-images (Some i) (Some j) e = ap (λ (v : Image). Some v) (same-image i j (some-is (as_imaged i) (as_imaged j) e))
same-images (Some i) None e = absurd cc
same-images None (Some j) e = absurd cc
same-images None None e = refl

told-image : (t : Bool) (o : Option Image) → t ≡ true → image_told t o ≡ option_map {T = Image} as_imaged o
told-image true o e = refl
told-image false o e = absurd cc

holds-same : (b c : Beside) (o p : Option Image) → b.told ≡ true → c.told ≡ true → image_told c.told p ≡ image_told b.told o → p ≡ o
holds-same b c o p told still e = same-images p o (sym (told-image c.told p still) ∙ e ∙ told-image b.told o told)

-- a disk that is seen as it was has not moved, and has its number
unmoved : (b c : Beside) (x y : Seat) → b.told ≡ true → c.told ≡ true → disk_seen c y ≡ disk_seen b x → Unmoved x y
unmoved b c (In a x) (In d y) told still e = unmoved_in (some-is y.now x.now (holds-same b c (Some x.now) (Some y.now) told still (ap (λ (v : DiskSeen). v.holds) e)))
unmoved b c (In a x) (Out d y) told still e = absurd (no-yes (ap (λ (v : DiskSeen). v.up) e))
  where
    no-yes : false ≡ true → ⊥
    no-yes q = cc
unmoved b c (Out a x) (In d y) told still e = absurd (yes-no (ap (λ (v : DiskSeen). v.up) e))
  where
    yes-no : true ≡ false → ⊥
    yes-no q = cc
unmoved b c (Out a x) (Out d y) told still e = unmoved_out (holds-same b c x.image y.image told still (ap (λ (v : DiskSeen). v.holds) e))

seen-number : (b : Beside) (x : Seat) → (disk_seen b x).disk ≡ disk_of x
seen-number b (In live c) = refl
seen-number b (Out why s) = refl

first-same : {A : Type 0} {x y : A} {xs ys : List A} → x ∷ xs ≡ y ∷ ys → x ≡ y
first-same e = cc

rest-same : {A : Type 0} {x y : A} {xs ys : List A} → x ∷ xs ≡ y ∷ ys → xs ≡ ys
rest-same e = cc

no-more : {A : Type 0} {x : A} {xs : List A} → x ∷ xs ≡ [] → ⊥
no-more e = cc

module _ {shape : ImageShape} {olds news : List StoreSeen} where
  all-unmoved : {ns : List ℕ} {bs cs : List Beside} {ss ts : List Found} {xs ys : List Seat} → Pairs (Lies content_of faults_of shape olds) ns bs → Pairs (Brought content_of faults_of shape olds) ns ss → Pairs Excused ss xs
      → Pairs (Stored content_of faults_of news) cs ts → Pairs Left ys ts → Every (λ b. b.told ≡ true) bs → Every (λ b. b.told ≡ true) cs → disks_seen cs ys ≡ disks_seen bs xs → Pairs Unmoved xs ys
  all-unmoved pairs_none pairs_none pairs_none pairs_none pairs_none every_none every_none e = pairs_none
  all-unmoved pairs_none pairs_none pairs_none (pairs_more s q) (pairs_more l r) every_none (every_more t h) e = absurd (no-more e)
  all-unmoved (pairs_more l p) (pairs_more f q) (pairs_more x r) pairs_none pairs_none (every_more t h) every_none e = absurd (no-more (sym e))
  all-unmoved (pairs_more {y = b} l p) (pairs_more f q) (pairs_more {y = x} ex r) (pairs_more {x = c} s u) (pairs_more {x = y} lf v) (every_more t h) (every_more m k) e =
      pairs_more (unmoved b c x y t m (first-same e)) (all-unmoved p q r u v h k (rest-same e))

  -- the stores of a ground that has the disks with which it was opened
  closed-seen : {ns : List ℕ} {bs cs : List Beside} {ss ts : List Found} {xs ys : List Seat} → Pairs (Lies content_of faults_of shape olds) ns bs → Pairs (Brought content_of faults_of shape olds) ns ss → Pairs SameNumber ss xs → Pairs Counted cs ys
      → Every (λ c. c.shape ≡ shape) cs → Pairs (Stored content_of faults_of news) cs ts → numbers_in (disks_seen cs ys) ≡ numbers_in (disks_seen bs xs) → Pairs (Brought content_of faults_of shape news) ns ts
  closed-seen pairs_none pairs_none pairs_none pairs_none every_none pairs_none e = pairs_none
  closed-seen pairs_none pairs_none pairs_none (pairs_more k p) (every_more h q) (pairs_more s r) e = absurd (no-more e)
  closed-seen (pairs_more l p) (pairs_more f o) (pairs_more k q) pairs_none every_none pairs_none e = absurd (no-more (sym e))
  closed-seen (pairs_more {x = n} {y = b} l p) (pairs_more {y = s} f o) (pairs_more {y = x} k q) (pairs_more {x = c} {y = y} m r) (every_more h u) (pairs_more {y = t} w v) e =
      pairs_more (one f k m w (sym (seen-number c y) ∙ first-same e ∙ seen-number b x)) (closed-seen p o q r u v (rest-same e))
    where
      one : Brought content_of faults_of shape olds n s → SameNumber s x → Counted c y → Stored content_of faults_of news c t → disk_of y ≡ disk_of x → Brought content_of faults_of shape news n t
      one (brought at finds) own (counted number since) (stored {t = store} to found told grown) is =
          let same : c.disk ≡ n = sym number ∙ is ∙ own ∙ finds.number in
          brought (subst (λ d. Nth d news store) same to)
          (subst (λ d. Finds shape d (content_of store) (faults_of store) t) same (subst (λ (v : ImageShape). Finds v c.disk (content_of store) (faults_of store) t) h found))

same-shape : (a b : ImageShape) → a.page_size ≡ b.page_size → a.pages ≡ b.pages → a ≡ b
same-shape a b e f = ap (λ m. shape m a.pages) e ∙ ap (λ n. shape b.page_size n) f
  where
    shape : ℕ → ℕ → ImageShape
    shape m n = record { page_size = m; pages = n }

every-shape : {shape : ImageShape} (other : ImageShape) {bs : List Beside} → other ≡ shape → Every (λ b. b.shape ≡ other) bs → Every (λ b. b.shape ≡ shape) bs
every-shape other e every_none = every_none
every-shape other e (every_more is h) = every_more (is ∙ e) (every-shape other e h)

-- what a ground gave back is what the machine sees of the stores, if it has the disks and the shape with which it was opened
closed-over : (mount : Mount) (f g : FileSeen) (opened closed : Ground) (over : OpenedOver content_of faults_of (shape_of_file mount f.file) f.stores mount.ground opened) (back : GivesBack content_of faults_of closed.beside closed.row g.stores) → IsGround closed
    → closed.shape ≡ shape_of_file mount f.file → numbers_in (seen_of closed).disks ≡ numbers_in (seen_of opened).disks → AreSeen mount f.file g.stores back.seen
closed-over mount f g opened closed over back sound shaped same =
    closed-seen over.seen.lies over.seen.brought (opens-number over.opens over.seen.meets) sound.counts (every-shape closed.shape shaped sound.shapes) back.stored same

pub runs-are-seen : RunsAreSeen
runs-are-seen mount closing log f g notices run = closed-over mount f g run.opened run.closed run.began run.ended run.sound (run.shaped ∙ run.began.shaped) run.disks.same

module _ (mount : Mount) (f g : FileSeen) (again : ClosesGround mount f g) where
  abbrev first-ground : Ground
  first-ground = again.opened

  abbrev last-ground : Ground
  last-ground = again.closed

  same-disks : disks_seen last-ground.beside last-ground.row ≡ disks_seen first-ground.beside first-ground.row
  same-disks = ap (λ (v : Seen). v.disks) again.same

  shaped : last-ground.shape ≡ shape_of_file mount f.file
  shaped = same-shape last-ground.shape first-ground.shape (ap (λ (v : Seen). v.page_size) again.same) (ap (λ (v : Seen). v.number) again.same) ∙ again.over.shaped

  closed-seen-so : AreSeen mount f.file g.stores again.back.seen
  closed-seen-so = closed-over mount f g first-ground last-ground again.over again.back again.sound shaped (ap (λ (ds : List DiskSeen). numbers_in ds) same-disks)

  stay : TellsAll f → Pairs Unmoved first-ground.row last-ground.row
  stay tells =
      all-unmoved again.over.seen.lies again.over.seen.brought again.over.fair.excused again.back.stored again.back.left (lies-told tells again.over.seen.lies)
      (every-told last-ground.beside (told-pages (all_told last-ground.beside) (live_pages last-ground.row) (live_pages first-ground.row) pages)) same-disks
    where
      told : all_told first-ground.beside ≡ true
      told = told-here mount f tells first-ground.beside again.over.seen

      pages : pages_told (all_told last-ground.beside) (live_pages last-ground.row) ≡ Some (live_pages first-ground.row)
      pages = ap (λ (v : Seen). v.pages) again.same ∙ ap (λ t. pages_told t (live_pages first-ground.row)) told

pub closed-are-seen : ClosedAreSeen
closed-are-seen mount f g again = closed-seen-so mount f g again

-- EACH OF THEM
pub sittings-go-on : SittingsGoOn
sittings-go-on mount f g tells s past next counts ss ts run sync run' sync' chain to (sits_looked look joins after) = looks-go-on mount f g look tells chain to joins after
sittings-go-on mount f g tells s past next counts ss ts run sync _ _ chain to (sits_refused {why = why} over after) = over-goes-on mount f tells why g.stores over chain to after
sittings-go-on mount f g tells s past next counts ss _ run sync run' sync' chain to (sits_closed again joins) =
    look-goes-on mount f tells again.opened.beside again.over.seen again.over.opens (stay mount f g again tells) again.back.left chain to joins
