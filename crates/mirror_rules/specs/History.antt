-- Chains of sittings: a sitting is an opening and what follows until the ground is closed or the program is stopped; a run is a
-- sitting in which a flush is called.
use Rattle.std.specs.Prelude.{◌≡◌, ◌⊎◌, ℕ, zero, suc, min, ◌+◌, ◌<◌, ◌≤◌, Bool, true, false, ◌||◌, List, [], ◌∷◌, ◌++◌, get_or, Option, Some, None}
use Rattle.mirror_rules.specs.Tree.{Image, Cell, Store, Why, Seat, In, Out, limit}
use Rattle.mirror_rules.specs.Claims.{Pairs, Every, Nth, HasPages}
use Rattle.mirror_rules.specs.Steps.{Write, Says, Done, Looked, Puts, Flushes, Halted, FlushStops}
use Rattle.mirror_rules.specs.Opening.{Meets, Good, Opens}
use Rattle.mirror_rules.specs.Fates.{Sized, OpeningEnd}
use Rattle.mirror_rules.specs.Levels.{Near, Even, Lower}
use Rattle.mirror_rules.specs.Guards.{Medium, Direct, Settled, Admissible, Now, Or, Among, Within, Stands, Shows, At, IsIn, Placed, Leaves, live_at}

-- the pages of a flush, or what was written later
abbrev pub Since_then : List (List ℕ) → List (ℕ × List ℕ) → Admissible
Since_then F [] = Now F
Since_then F (w ∷ ws) = Or (Since_then F ws) w.0 w.1

-- versions of pages in some histories, or what was written later
abbrev pub Versions : List (ℕ → ℕ → List ℕ) → List (ℕ × List ℕ) → Admissible
Versions Vs [] = Among Vs
Versions Vs (w ∷ ws) = Or (Versions Vs ws) w.0 w.1

-- the sync that a chain is looked at for: none so far; or one that is done, with the pages that it made lasting and what was
-- written since; or the same where a run is known as a whole, by the histories of its pages: V k p is version k of page p
pub data Sync : Type 0 where
  NoSync : Sync
  Synced : (pages : List (List ℕ)) (written : List (ℕ × List ℕ)) → Sync
  Lived : (histories : List (ℕ → ℕ → List ℕ)) (written : List (ℕ × List ℕ)) → Sync

-- which bytes a page may have then
abbrev pub Allowed : Sync → Admissible
Allowed NoSync = λ p x. Unit {0}
Allowed (Synced F ws) = Since_then F ws
Allowed (Lived Vs ws) = Versions Vs ws

abbrev pub wrote : ℕ → List ℕ → Sync → Sync
wrote p x NoSync = NoSync
wrote p x (Synced F ws) = Synced F ((p, x) ∷ ws)
wrote p x (Lived Vs ws) = Lived Vs ((p, x) ∷ ws)

-- the history of these pages alone
abbrev pub always : List (List ℕ) → ℕ → ℕ → List ℕ
always F k p = get_or F p []

-- behind a run of this history
abbrev pub lived : (ℕ → ℕ → List ℕ) → Sync → Sync
lived V NoSync = NoSync
lived V (Synced F ws) = Lived (V ∷ always F ∷ []) ws
lived V (Lived Vs ws) = Lived (V ∷ Vs) ws

-- A RUN AS A WHOLE, from the disks of its opening to those at its end. What was not opened shows what it did. No disk gets live; and one
-- that was opened has the image that it had, or one of no lower generation, each page of which is a version of it in the run
pub data Goes (V : ℕ → ℕ → List ℕ) : Seat → Seat → Type 0 where
  goes_out : {a b : Why} {s t : Store} → t.image ≡ s.image → Goes V (Out a s) (Out b t)
  goes_same : {a b : Bool} {c d : Cell} → (b ≡ true → a ≡ true) → d.now ≡ c.now → Goes V (In a c) (In b d)
  goes_later : {a b : Bool} {c d : Cell} → (b ≡ true → a ≡ true) → c.now.generation ≤ d.now.generation → Within (Among (V ∷ [])) d.now.pages → Goes V (In a c) (In b d)

-- what a disk shows stays, whatever else of it changes
pub data Unmoved : Seat → Seat → Type 0 where
  unmoved_in : {a b : Bool} {c d : Cell} → d.now ≡ c.now → Unmoved (In a c) (In b d)
  unmoved_out : {a b : Why} {s t : Store} → t.image ≡ s.image → Unmoved (Out a s) (Out b t)

-- the ground's generation does not fall, and the disks are near it
pub record Went (V : ℕ → ℕ → List ℕ) (g : ℕ) (xs : List Seat) (h : ℕ) (ys : List Seat) : Type 0 where
  pub goes : Pairs (Goes V) xs ys
  pub rises : g ≤ h
  pub near : Every (Near Direct h) ys

-- and a flush in it answered Ok, with a raise owed at the opening, from which on the history is W: that is paid; the live disks have pages of it,
-- and any other opened disk has such pages too, or is below them, but where they are at the limit
pub record Kept (W : ℕ → ℕ → List ℕ) (g h : ℕ) (ys : List Seat) : Type 0 where
  pub paid : min (g + 2) limit ≤ h
  pub since : (c : Image) → Placed (Shows Direct) (live_at ys) ys c → Within (Among (W ∷ [])) c.pages
  pub behind : (c : Image) → Placed (Shows Direct) (live_at ys) ys c → (d : ℕ) (a : Bool) (e : Cell) → Nth d ys (In a e) → Within (Among (W ∷ [])) e.now.pages ⊎ (e.now.generation < c.generation) ⊎ (limit ≤ c.generation)

-- where a chain stands. `past` are the images that a store showed at the end of a sitting; `next` those that count for the next
-- run, and `counts` those that count for the sync. In a sitting disks are named by their places in its row
pub data Moment : Type 0 where
  -- between two sittings
  Rests : (past next counts : List Image) → Moment
  -- in a run: the disks that count for the sync
  Runs : (past counts : List Image) (sync : ℕ → Bool) (owed : Bool) (generation : ℕ) → List Seat → Moment
  -- in a sitting in which no flush is called: the disks that count for the next run, and for the sync
  Looks : (past next counts : List Image) (run sync : ℕ → Bool) (owed : Bool) → List Seat → Moment
  -- a sitting has ended, or was stopped
  Over : (past next counts : List Image) (run sync : ℕ → Bool) → List Seat → Moment

-- a store of a sitting shows nothing, or an image that a store showed at the end of an earlier one. So a disk may have been
-- replaced by a blank one, moved, exchanged or put back from a copy of any age, damaged and mended; it may be away, or be run
-- alone
pub record Comes (v : Medium) (n : ℕ) (past : List Image) (s : Store) : Type 0 where
  pub shown : (i : Image) → s.image ≡ Some i → IsIn past i
  pub sized : Sized n s
  pub settled : Settled v s

-- a place that counts has an image that does
abbrev pub Count : List Image → List Store → (ℕ → Bool) → Type 0
Count is ss L = (d : ℕ) → L d ≡ true → (i : Image) × At Stands d ss i × IsIn is i

-- and one that counts for the run counts for the sync
pub record Marked (next counts : List Image) (ss : List Store) (run sync : ℕ → Bool) : Type 0 where
  pub for_run : Count next ss run
  pub for_sync : Count counts ss sync
  pub both : (d : ℕ) → run d ≡ true → sync d ≡ true

-- a disk at a place of L is up
pub data Up (L : ℕ → Bool) (xs : List Seat) : Type 0 where
  up : {d : ℕ} {b : Bool} {c : Cell} → L d ≡ true → Nth d xs (In b c) → Up L xs

-- none is
abbrev pub Away : (ℕ → Bool) → List Seat → Type 0
Away L xs = (d : ℕ) → L d ≡ true → (b : Bool) (c : Cell) → Nth d xs (In b c) → ⊥

abbrev pub either : (ℕ → Bool) → (ℕ → Bool) → ℕ → Bool
either L M d = L d || M d

-- an opening that answers Ok: if one of the disks that count was up, all that are live then count too
pub data Joins (run sync : ℕ → Bool) (xs us : List Seat) : (ℕ → Bool) → (ℕ → Bool) → Type 0 where
  joins_run : Up run xs → Joins run sync xs us (either run (live_at us)) (either sync (live_at us))
  joins_sync : Up sync xs → Joins run sync xs us run (either sync (live_at us))
  joins_none : Joins run sync xs us run sync

-- the images of the stores at some places
abbrev pub image_if : Bool → Option Image → List Image → List Image
image_if true (Some i) is = i ∷ is
image_if true None is = is
image_if false o is = is

abbrev pub images_at : (ℕ → Bool) → List Store → List Image
images_at L [] = []
images_at L (s ∷ ss) = image_if (L zero) s.image (images_at (λ d. L (suc d)) ss)

abbrev pub everywhere : ℕ → Bool
everywhere d = true

pub data Chain (v : Medium) (n : ℕ) : Sync → Moment → Type 0 where
  -- from images of which those that count have at least a generation, and none has more than the next one: so fresh images, or
  -- level ones, all count; and so do the disks that are live at a sync, if each other image is lower
  chain_starts : {past next : List Image} (m : ℕ) → Every (λ i. m ≤ i.generation) next → Every (λ i. i.generation ≤ m + 1) past → Chain v n NoSync (Rests past next next)
  -- a run: a disk that counts for it is up, and a raise is owed, as it is but by a ground of one disk whose generation is 1
  chain_runs : {f : Sync} {past next counts : List Image} {run sync : ℕ → Bool} {g : ℕ} {ss : List Store} {xs us : List Seat} → Chain v n f (Rests past next counts) → Every (Comes v n past) ss → Marked next counts ss run sync
      → Pairs Meets ss xs → Up run xs → Opens true n xs (Good true g) us → g < limit → Chain v n f (Runs past counts (either sync (live_at us)) true g us)
  -- a sitting with no flush, whoever is up
  chain_looks : {f : Sync} {past next counts : List Image} {run sync run' sync' : ℕ → Bool} {owed : Bool} {g : ℕ} {ss : List Store} {xs us : List Seat} → Chain v n f (Rests past next counts) → Every (Comes v n past) ss → Marked next counts ss run sync
      → Pairs Meets ss xs → Opens true n xs (Good owed g) us → Joins run sync xs us run' sync' → Chain v n f (Looks past next counts run' sync' owed us)
  -- an opening that was refused, or stopped at any moment
  chain_refused : {f : Sync} {past next counts : List Image} {run sync : ℕ → Bool} {ss : List Store} {xs us : List Seat} → Chain v n f (Rests past next counts) → Every (Comes v n past) ss → Marked next counts ss run sync
      → Pairs Meets ss xs → OpeningEnd v ss xs us → Chain v n f (Over past next counts run sync us)
  run_reads : {f : Sync} {past counts : List Image} {sync : ℕ → Bool} {o : Bool} {g : ℕ} {s : Says} {xs ys : List Seat} → Chain v n f (Runs past counts sync o g xs) → Pairs (Looked s) xs ys → Chain v n f (Runs past counts sync o g ys)
  run_writes : {f : Sync} {past counts : List Image} {sync : ℕ → Bool} {o q : Bool} {g p : ℕ} {x : List ℕ} {s : Says} {xs ys : List Seat} → Chain v n f (Runs past counts sync o g xs) → Puts p x o xs s q ys
      → Chain v n (wrote p x f) (Runs past counts sync q g ys)
  run_flushes : {f : Sync} {past counts : List Image} {sync : ℕ → Bool} {o q : Bool} {g h : ℕ} {s : Says} {xs ys : List Seat} → Chain v n f (Runs past counts sync o g xs) → Flushes o g xs s q h ys → h < limit → Chain v n f (Runs past counts sync q h ys)
  -- a flush that answered Ok: from now on the chain may be looked at for this one, of the pages F; the live disks count for it
  run_syncs : {f : Sync} {past counts : List Image} {sync : ℕ → Bool} {F : List (List ℕ)} {o q w : Bool} {g h : ℕ} {xs ys : List Seat} → Chain v n f (Runs past counts sync o g xs) → Flushes o g xs (Done w) q h ys → h < limit → Every (HasPages F) xs
      → Chain v n (Synced F []) (Runs past [] (live_at ys) q h ys)
  -- at the end of a run, or where it is stopped, the live disks count for the next one, and no other
  run_ends : {f : Sync} {past counts : List Image} {sync : ℕ → Bool} {o : Bool} {g : ℕ} {xs : List Seat} → Chain v n f (Runs past counts sync o g xs) → Chain v n f (Over past [] counts (live_at xs) sync xs)
  run_write_stops : {f : Sync} {past counts : List Image} {sync : ℕ → Bool} {o : Bool} {g p : ℕ} {x : List ℕ} {xs ys : List Seat} → Chain v n f (Runs past counts sync o g xs) → Pairs (Halted (Write p x)) xs ys
      → Chain v n (wrote p x f) (Over past [] counts (live_at ys) sync ys)
  run_flush_stops : {f : Sync} {past counts : List Image} {sync : ℕ → Bool} {o : Bool} {g h : ℕ} {xs ys : List Seat} → Chain v n f (Runs past counts sync o g xs) → FlushStops o g xs h ys → h < limit
      → Chain v n f (Over past [] counts (live_at ys) sync ys)
  -- a run as a whole, to its end; and one in which a flush answered Ok, for which the chain is looked at from now on
  run_goes : {f : Sync} {past counts : List Image} {sync : ℕ → Bool} {V : ℕ → ℕ → List ℕ} {g h : ℕ} {xs ys : List Seat} → v ≡ Direct → Chain v n f (Runs past counts sync true g xs) → Went V g xs h ys → h < limit
      → Chain v n (lived V f) (Over past [] counts (live_at ys) sync ys)
  run_keeps : {f : Sync} {past counts : List Image} {sync : ℕ → Bool} {V W : ℕ → ℕ → List ℕ} {g h : ℕ} {xs ys : List Seat} → v ≡ Direct → Chain v n f (Runs past counts sync true g xs) → Went V g xs h ys → Kept W g h ys → h + 1 < limit
      → Chain v n (Lived (W ∷ []) []) (Over past [] [] (live_at ys) (live_at ys) ys)
  look_reads : {f : Sync} {past next counts : List Image} {run sync : ℕ → Bool} {o : Bool} {s : Says} {xs ys : List Seat} → Chain v n f (Looks past next counts run sync o xs) → Pairs (Looked s) xs ys → Chain v n f (Looks past next counts run sync o ys)
  look_writes : {f : Sync} {past next counts : List Image} {run sync : ℕ → Bool} {o q : Bool} {p : ℕ} {x : List ℕ} {s : Says} {xs ys : List Seat} → Chain v n f (Looks past next counts run sync o xs) → Puts p x o xs s q ys
      → Chain v n (wrote p x f) (Looks past next counts run sync q ys)
  look_ends : {f : Sync} {past next counts : List Image} {run sync : ℕ → Bool} {o : Bool} {xs : List Seat} → Chain v n f (Looks past next counts run sync o xs) → Chain v n f (Over past next counts run sync xs)
  -- a sitting as a whole in which nothing was written, to its end
  look_stays : {f : Sync} {past next counts : List Image} {run sync : ℕ → Bool} {o : Bool} {xs ys : List Seat} → v ≡ Direct → Chain v n f (Looks past next counts run sync o xs) → Pairs Unmoved xs ys → Chain v n f (Over past next counts run sync ys)
  look_write_stops : {f : Sync} {past next counts : List Image} {run sync : ℕ → Bool} {o : Bool} {p : ℕ} {x : List ℕ} {xs ys : List Seat} → Chain v n f (Looks past next counts run sync o xs) → Pairs (Halted (Write p x)) xs ys
      → Chain v n (wrote p x f) (Over past next counts run sync ys)
  -- the stores show what they were left: that joins the past, and counts as its disk did
  chain_rests : {f : Sync} {past next counts : List Image} {run sync : ℕ → Bool} {xs : List Seat} {ts : List Store} → Chain v n f (Over past next counts run sync xs) → Pairs (Leaves v) xs ts
      → Chain v n f (Rests (images_at everywhere ts ++ past) (images_at run ts ++ next) (images_at sync ts ++ counts))

-- one sync alone, whatever became of the runs that are none of its: where a history since it stands
pub data Stage : Type 0 where
  Closed : (past counts : List Image) → Stage
  -- a disk that counts was up at the opening
  Session : (past counts : List Image) (sync : ℕ → Bool) (owed : Bool) (generation : ℕ) → List Seat → Stage
  -- it was looked at: no flush is called
  Viewing : (past counts : List Image) (sync : ℕ → Bool) (owed : Bool) → List Seat → Stage
  Stopped : (past counts : List Image) (sync : ℕ → Bool) → List Seat → Stage

-- since a flush that answered Ok, of the pages F, above each image that there was: what was written since, and where the history
-- stands. Any sitting may be a run at whose opening a disk that counts was up
pub data Since (v : Medium) (n : ℕ) (F : List (List ℕ)) : List (ℕ × List ℕ) → Stage → Type 0 where
  since_found : {past : List Image} {o q w : Bool} {g h : ℕ} {xs ys : List Seat} → Flushes o g xs (Done w) q h ys → g ≤ limit → Every (Near v g) xs → Even v o g xs → Every (HasPages F) xs → h < limit → Every (Lower h) ys
      → ((i : Image) → IsIn past i → i.generation < h) → Since v n F [] (Session past [] (live_at ys) q h ys)
  since_reads : {ws : List (ℕ × List ℕ)} {past counts : List Image} {sync : ℕ → Bool} {o : Bool} {g : ℕ} {s : Says} {xs ys : List Seat} → Since v n F ws (Session past counts sync o g xs) → Pairs (Looked s) xs ys → Since v n F ws (Session past counts sync o g ys)
  since_writes : {ws : List (ℕ × List ℕ)} {past counts : List Image} {sync : ℕ → Bool} {o q : Bool} {g p : ℕ} {x : List ℕ} {s : Says} {xs ys : List Seat} → Since v n F ws (Session past counts sync o g xs) → Puts p x o xs s q ys
      → Since v n F ((p, x) ∷ ws) (Session past counts sync q g ys)
  since_flushes : {ws : List (ℕ × List ℕ)} {past counts : List Image} {sync : ℕ → Bool} {o q : Bool} {g h : ℕ} {s : Says} {xs ys : List Seat} → Since v n F ws (Session past counts sync o g xs) → Flushes o g xs s q h ys → Since v n F ws (Session past counts sync q h ys)
  since_ends : {ws : List (ℕ × List ℕ)} {past counts : List Image} {sync : ℕ → Bool} {o : Bool} {g : ℕ} {xs : List Seat} → Since v n F ws (Session past counts sync o g xs) → Since v n F ws (Stopped past counts sync xs)
  since_write_stops : {ws : List (ℕ × List ℕ)} {past counts : List Image} {sync : ℕ → Bool} {o : Bool} {g p : ℕ} {x : List ℕ} {xs ys : List Seat} → Since v n F ws (Session past counts sync o g xs) → Pairs (Halted (Write p x)) xs ys
      → Since v n F ((p, x) ∷ ws) (Stopped past counts sync ys)
  since_flush_stops : {ws : List (ℕ × List ℕ)} {past counts : List Image} {sync : ℕ → Bool} {o : Bool} {g h : ℕ} {xs ys : List Seat} → Since v n F ws (Session past counts sync o g xs) → FlushStops o g xs h ys → Since v n F ws (Stopped past counts sync ys)
  since_opens : {ws : List (ℕ × List ℕ)} {past counts : List Image} {sync : ℕ → Bool} {owed : Bool} {g : ℕ} {ss : List Store} {xs us : List Seat} → Since v n F ws (Closed past counts) → Every (Comes v n past) ss → Count counts ss sync → Pairs Meets ss xs
      → Up sync xs → Opens true n xs (Good owed g) us → g ≤ limit → Since v n F ws (Session past counts (either sync (live_at us)) owed g us)
  since_refused : {ws : List (ℕ × List ℕ)} {past counts : List Image} {sync : ℕ → Bool} {ss : List Store} {xs us : List Seat} → Since v n F ws (Closed past counts) → Every (Comes v n past) ss → Count counts ss sync → Pairs Meets ss xs
      → OpeningEnd v ss xs us → Since v n F ws (Stopped past counts sync us)
  -- also where none is up
  since_looks : {ws : List (ℕ × List ℕ)} {past counts : List Image} {sync : ℕ → Bool} {owed : Bool} {g : ℕ} {ss : List Store} {xs us : List Seat} → Since v n F ws (Closed past counts) → Every (Comes v n past) ss → Count counts ss sync → Pairs Meets ss xs
      → Opens true n xs (Good owed g) us → Since v n F ws (Viewing past counts sync owed us)
  since_look_reads : {ws : List (ℕ × List ℕ)} {past counts : List Image} {sync : ℕ → Bool} {o : Bool} {s : Says} {xs ys : List Seat} → Since v n F ws (Viewing past counts sync o xs) → Pairs (Looked s) xs ys → Since v n F ws (Viewing past counts sync o ys)
  since_look_writes : {ws : List (ℕ × List ℕ)} {past counts : List Image} {sync : ℕ → Bool} {o q : Bool} {p : ℕ} {x : List ℕ} {s : Says} {xs ys : List Seat} → Since v n F ws (Viewing past counts sync o xs) → Puts p x o xs s q ys
      → Since v n F ((p, x) ∷ ws) (Viewing past counts sync q ys)
  since_look_ends : {ws : List (ℕ × List ℕ)} {past counts : List Image} {sync : ℕ → Bool} {o : Bool} {xs : List Seat} → Since v n F ws (Viewing past counts sync o xs) → Since v n F ws (Stopped past counts sync xs)
  since_look_stops : {ws : List (ℕ × List ℕ)} {past counts : List Image} {sync : ℕ → Bool} {o : Bool} {p : ℕ} {x : List ℕ} {xs ys : List Seat} → Since v n F ws (Viewing past counts sync o xs) → Pairs (Halted (Write p x)) xs ys
      → Since v n F ((p, x) ∷ ws) (Stopped past counts sync ys)
  since_rests : {ws : List (ℕ × List ℕ)} {past counts : List Image} {sync : ℕ → Bool} {xs : List Seat} {ts : List Store} → Since v n F ws (Stopped past counts sync xs) → Pairs (Leaves v) xs ts
      → Since v n F ws (Closed (images_at everywhere ts ++ past) (images_at sync ts ++ counts))
