-- The events of a file's log suit the plain file that it began as.
use Rattle.std.proofs.Common.{◌≡◌, ◌⊎◌, inl, inr, ℕ, zero, suc, ◌+◌, ◌*◌, ◌<◌, ◌≤◌, Bor, List, [], ◌∷◌, ◌++◌, length, map, take, Option, Some, None, refl, sym, ap, subst, ◌∙◌, arith}
use Rattle.std.specs.Prelude.{slice_get, slice_index_or}
use Rattle.std.specs.List.{AllByRecursion}
use Rattle.std.specs.Option.{option_copied}
use Rattle.std.specs.Global.{Vec}
use Rattle.tower_log.specs.Log.{trail_of}
use Rattle.tower_log.specs.Trail.{TrailSeen}
use Rattle.run_files.specs.Begun.{begun_as, file_then}
use Rattle.std.proofs.lemmas.Bool.Decides.{nat_tests}
use Rattle.stack_accept.specs.Mount.{Mount}
use Rattle.stack_accept.specs.Sound.{IsInLimits}
use Rattle.stack_accept.specs.declared.entries.FileEntry.{FileEntry}
use Rattle.tower_log.specs.declared.logged.Logged.{Logged}
use Rattle.spr_report.specs.Tracing.{AreReported, IsReported}
use Rattle.script_meaning.specs.Log.{log_of}
use Rattle.script_meaning.specs.Stack.{pages_of}
use Rattle.hist_plain.specs.declared.TheConstants.{MAX_EVENTS, MAX_NODES}
use Rattle.hist_plain.specs.declared.event.Event.{Event}
use Rattle.hist_plain.specs.declared.event.Event.TheVariants as events
use Rattle.hist_plain.specs.declared.event.Op.{Op}
use Rattle.hist_plain.specs.declared.event.Op.TheVariants as ops
use Rattle.hist_plain.specs.File.{Counted, File, Shape}
use Rattle.hist_plain.specs.History.{AllSuit, replay}
use Rattle.hist_plain.specs.Plain.{IsTree, Suits, applied, asked_by, asked_len, fresh}
use Rattle.hist_plain.proofs.Replay.{length-applied, replay-append}
use Rattle.tower_core.specs.Legal.{FitsFile, plain_shape}
use Rattle.tower_core.specs.Trail.{IsAllowed, IsRun, State, start, state_after}
use Rattle.tower_core.specs.TreeShape.{TreeShape}
use Rattle.tower_core.specs.TreeShape.{IsTree as IsTreeShape}
use Rattle.file_stores.proofs.Lists.{at-more, no-item, some-is}
use Rattle.run_files.specs.Lasting.{CanPlay}

-- one event
suits-one : (tree : TreeShape) (size pages : ℕ) (s : State) (file : File) (event : Event) → length file.bytes ≡ pages * size → IsAllowed tree pages s event → FitsFile size pages event → Suits (plain_shape tree size) file event
suits-one tree size pages s file (events.Access caller number node life op) long allowed fits = (allowed.upper.inside, (pages, long, fits))
suits-one tree size pages s file (events.PageIn node page write) long allowed fits = allowed.upper.inside
suits-one tree size pages s file (events.ZeroFill node page write) long allowed fits = allowed.upper.inside
suits-one tree size pages s file (events.PageOut node page) long allowed fits = allowed.upper.inside
suits-one tree size pages s file (events.WriteOut node page) long allowed fits = allowed.upper.inside
suits-one tree size pages s file (events.SyncOut node page) long allowed fits = allowed.upper.inside
suits-one tree size pages s file (events.FlushBack node page) long allowed fits = allowed.upper.inside
suits-one tree size pages s file (events.DenyWrites node page) long allowed fits = allowed.upper.inside
suits-one tree size pages s file (events.WriteBack node page) long allowed fits = allowed.upper.inside
suits-one tree size pages s file (events.DeleteRange node page) long allowed fits = allowed.upper.inside
suits-one tree size pages s file (events.DestroyCache caller number node) long allowed fits = allowed.upper.inside
suits-one tree size pages s file (events.DonePager caller number node) long allowed fits = allowed.upper.inside
suits-one tree size pages s file (events.Synced caller number node from keep) long allowed fits = allowed.upper.inside

-- each behind those before it
pub suits-run : (tree : TreeShape) (size pages : ℕ) (s : State) (file : File) (es : List Event) → length file.bytes ≡ pages * size → IsRun tree pages s es → AllByRecursion (FitsFile size pages) es → AllSuit (plain_shape tree size) file es
suits-run tree size pages s file [] long run fits = tt
suits-run tree size pages s file (e ∷ es) long run fits =
    let here = suits-one tree size pages s file e long run.0 fits.0 in
    (here, suits-run tree size pages (state_after tree s e) (applied (plain_shape tree size) file e) es (length-applied (plain_shape tree size) file e here ∙ long) run.1 fits.1)

-- a read asks for no more than a page
asked-op : (size pages : ℕ) (op : Op) → FitsFile size pages (events.Access 0 0 0 0 op) → asked_by op ≤ size
asked-op size pages (ops.Read page off len) fits = grind (arith, nat_tests, fits)
asked-op size pages (ops.Write page off bytes) fits = omega arith
asked-op size pages (ops.Clear page) fits = omega arith
asked-op size pages ops.Open fits = omega arith

asked-one : (size pages : ℕ) (event : Event) → FitsFile size pages event → asked_len event ≤ size
asked-one size pages (events.Access caller number node life op) fits = asked-op size pages op fits
asked-one size pages (events.PageIn node page write) fits = omega arith
asked-one size pages (events.ZeroFill node page write) fits = omega arith
asked-one size pages (events.PageOut node page) fits = omega arith
asked-one size pages (events.WriteOut node page) fits = omega arith
asked-one size pages (events.SyncOut node page) fits = omega arith
asked-one size pages (events.FlushBack node page) fits = omega arith
asked-one size pages (events.DenyWrites node page) fits = omega arith
asked-one size pages (events.WriteBack node page) fits = omega arith
asked-one size pages (events.DeleteRange node page) fits = omega arith
asked-one size pages (events.DestroyCache caller number node) fits = omega arith
asked-one size pages (events.DonePager caller number node) fits = omega arith
asked-one size pages (events.Synced caller number node from keep) fits = omega arith

pub asked-all : (size pages : ℕ) (es : List Event) → AllByRecursion (FitsFile size pages) es → AllByRecursion (λ event. asked_len event ≤ size) es
asked-all size pages [] fits = tt
asked-all size pages (e ∷ es) fits = (asked-one size pages e fits.0, asked-all size pages es fits.1)

-- the event at a place suits the file behind those before it
pub suits-at : (shape : Shape) (file : File) (es : List Event) (place : ℕ) (e : Event) → AllSuit shape file es → slice_get es place ≡ Some e → Suits shape (replay shape file (take place es)) e
suits-at shape file [] place e all is = absurd (no-item place e is)
suits-at shape file (x ∷ es) zero e all is = subst (Suits shape file) (some-is x e is) all.0
suits-at shape file (x ∷ es) (suc place) e all is = suits-at shape (applied shape file x) es place e all.1 is

pub asked-at : (room : ℕ) (es : List Event) (place : ℕ) (e : Event) → AllByRecursion (λ event. asked_len event ≤ room) es → slice_get es place ≡ Some e → asked_len e ≤ room
asked-at room [] place e all is = absurd (no-item place e is)
asked-at room (x ∷ es) zero e all is = subst (λ (y : Event). asked_len y ≤ room) (some-is x e is) all.0
asked-at room (x ∷ es) (suc place) e all is = asked-at room es place e all.1 is

-- one event more
pub replay-next : (shape : Shape) (file : File) (es : List Event) (place : ℕ) (e : Event) → slice_get es place ≡ Some e → applied shape (replay shape file (take place es)) e ≡ replay shape file (take (suc place) es)
replay-next shape file [] place e is = absurd (no-item place e is)
replay-next shape file (x ∷ es) zero e is = ap (applied shape file) (sym (some-is x e is))
replay-next shape file (x ∷ es) (suc place) e is = replay-next shape (applied shape file x) es place e is

-- all events of a log
pub can-play : (tree : TreeShape) (size pages : ℕ) (bytes : List ℕ) (es : List Event) → length bytes ≡ pages * size → IsRun tree pages start es → AllByRecursion (FitsFile size pages) es → length es ≤ MAX_EVENTS
    → CanPlay (record { shape = plain_shape tree size; file = fresh tree.parents bytes; len = 0 }) es size
can-play tree size pages bytes es long run fits few = record {
  fresh = refl;
  few = few;
  suits = suits-run tree size pages start (fresh tree.parents bytes) es long run fits;
  asked = asked-all size pages es fits;
}

-- the parents of a tree of few nodes
pub parents-are : (tree : TreeShape) → IsTreeShape tree → length tree.parents ≤ MAX_NODES → IsTree tree.parents
parents-are tree is few = record {
  some = let g = is.grounded in omega (arith, g);
  few = few;
  ground = is.ground;
  below = λ node some inside. is.ordered node (record { above = some; inside = inside });
}

-- there is an event at each place
pub event-there : (es : List Event) (place : ℕ) → place < length es → (found : Option (Bor Event)) → option_copied found ≡ slice_get es place → found ≡ None → ⊥
event-there es place low found is none = absurd (there es place low (sym is ∙ ap option_copied none))
  where
    there : (es : List Event) (place : ℕ) → place < length es → slice_get es place ≡ None → ⊥
    there [] place low e = absurd (omega (arith, low))
    there (x ∷ es) zero low e = cc
    there (x ∷ es) (suc place) low e = there es place (omega (arith, low)) e

-- the log of each file is reported
pub reported-many : (mount : Mount) (files : List FileEntry) (ls : List (List Logged)) → AreReported mount files ls → length ls ≡ length files
reported-many mount [] [] are = refl
reported-many mount [] (l ∷ ls) are = absurd are
reported-many mount (f ∷ fs) [] are = absurd are
reported-many mount (f ∷ fs) (l ∷ ls) are = ap suc (reported-many mount fs ls are.1)

pub reported-at : (mount : Mount) (files : List FileEntry) (ls : List (List Logged)) (k : ℕ) (f : FileEntry) → AreReported mount files ls → slice_get files k ≡ Some f → IsReported mount f (log_of ls k)
reported-at mount [] [] k f are is = absurd (no-item k f is)
reported-at mount [] (l ∷ ls) k f are is = absurd are
reported-at mount (x ∷ fs) [] k f are is = absurd are
reported-at mount (x ∷ fs) (l ∷ ls) zero f are is = subst (λ (y : FileEntry). IsReported mount y l) (some-is x f is) are.0
reported-at mount (x ∷ fs) (l ∷ ls) (suc k) f are is = reported-at mount fs ls k f are.1 is

-- a file of a stack has its pages
pub limits-at : (files : List FileEntry) (k : ℕ) (f : FileEntry) → AllByRecursion (λ file. IsInLimits file.pages) files → slice_get files k ≡ Some f → IsInLimits f.pages
limits-at [] k f all is = absurd (no-item k f is)
limits-at (x ∷ fs) zero f all is = subst (λ (y : FileEntry). IsInLimits y.pages) (some-is x f is) all.0
limits-at (x ∷ fs) (suc k) f all is = limits-at fs k f all.1 is

pub pages-entry : (mount : Mount) (k : ℕ) (f : FileEntry) → slice_get mount.files k ≡ Some f → pages_of mount k ≡ f.pages
pages-entry mount k f is = rw is refl

-- the bytes of a file, and its log
pub bytes-at : (xs : List (Vec ℕ)) (k : ℕ) (v : Vec ℕ) → k < length xs → v ≡ slice_index_or xs k v → slice_get (map (λ b. b.items) xs) k ≡ Some v.items
bytes-at [] k v low is = absurd (omega (arith, low))
bytes-at (x ∷ xs) zero v low is = ap (λ (b : Vec ℕ). Some b.items) (sym is)
bytes-at (x ∷ xs) (suc k) v low is = bytes-at xs k v (omega (arith, low)) is

pub log-at : (ts : List TrailSeen) (k : ℕ) (t : TrailSeen) → k < length ts → t ≡ slice_index_or ts k t → log_of (map (λ t. t.log) ts) k ≡ t.log
log-at [] k t low is = absurd (omega (arith, low))
log-at (x ∷ ts) zero t low is = ap (λ (y : TrailSeen). y.log) (sym is)
log-at (x ∷ ts) (suc k) t low is = log-at ts k t (omega (arith, low)) is

-- one more file at the end
abbrev pub Ends : Mount → List (List ℕ) → List (List Logged) → List Counted → Type 0
Ends mount begun ls lasts = (k : ℕ) (bytes : List ℕ) (last : Counted) → slice_get begun k ≡ Some bytes → slice_get lasts k ≡ Some last → last.file ≡ file_then (begun_as mount k (record { bytes = bytes })) (trail_of (log_of ls k))

pub ends-more : (mount : Mount) (begun : List (List ℕ)) (ls : List (List Logged)) (lasts : List Counted) (b : List ℕ) (new : Counted) → Ends mount begun ls lasts → slice_get begun (length lasts) ≡ Some b
    → new.file ≡ file_then (begun_as mount (length lasts) (record { bytes = b })) (trail_of (log_of ls (length lasts))) → Ends mount begun ls (lasts ++ new ∷ [])
ends-more mount begun ls lasts b new ends at is k bytes last found there = elim (at-more lasts new last k there) [
  | inl old ↦ ends k bytes last found old
  | inr here ↦ subst (λ (c : Counted). c.file ≡ file_then (begun_as mount k (record { bytes = bytes })) (trail_of (log_of ls k))) here.1
      (subst (λ n. new.file ≡ file_then (begun_as mount n (record { bytes = bytes })) (trail_of (log_of ls n))) (sym here.0)
      (subst (λ (bs : List ℕ). new.file ≡ file_then (begun_as mount (length lasts) (record { bytes = bs })) (trail_of (log_of ls (length lasts)))) (some-is b bytes (sym at ∙ (ap (λ n. slice_get begun n) (sym here.0) ∙ found))) is))
]
