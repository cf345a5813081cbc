-- The files over the stores that are out, one after another.
use Rattle.std.proofs.Common.{◌≡◌, ℕ, zero, suc, Bool, true, false, ◌+◌, ◌<◌, ◌≤◌, List, [], ◌∷◌, ◌++◌, length, map, Option, Some, None, refl, sym, ap, subst, ◌∙◌, arith, append_assoc, length-append}
use Rattle.std.specs.Prelude.{get_or, slice_get, slice_index, slice_index_or, is_some}
use Rattle.std.proofs.lemmas.List.{length-map, map-append}
use Rattle.stack_accept.specs.declared.entries.Kind.{Kind}
use Rattle.stack_accept.specs.declared.entries.Kind.TheVariants as kinds
use Rattle.stack_accept.specs.declared.entries.NodeEntry.{NodeEntry}
use Rattle.stack_accept.specs.Mount.{Mount, via}
use Rattle.stack_accept.specs.Sound.{IsLayerKind, IsMount}
use Rattle.tower_core.specs.TreeShape.{TreeShape, frames_of, nodes}
use Rattle.page_messages.specs.declared.paged.PagedFile.{PagedFile}
use Rattle.page_messages.specs.Paged.{IsPagedFile}
use Rattle.disk_format.specs.Shape.{IsShape}
use Rattle.disk_format.proofs.ShapeLaws.{page-sized}
use Rattle.file_stores.specs.Keys.{image_shape}
use Rattle.tower_log.specs.declared.logged.Logged.{Logged}
use Rattle.tower_log.specs.Trail.{TrailSeen}
use Rattle.stack_engine.specs.Engine.{log_in, machines_in}
use Rattle.stack_engine.specs.Start as engines
use Rattle.stack_engine.specs.Tower.{TowerSeen}
use Rattle.spr_volume.specs.Passes.{logs}
use Rattle.file_stores.specs.declared.stop.Stop.{Stop}
use Rattle.file_stores.specs.Files.{ArePairs, FileSeen, Lasts}
use Rattle.file_stores.proofs.Lists.{some-is, no-item}
use Rattle.file_stores.specs.Under.{IsSound as IsSoundUnder, Under, seen_under}
use Rattle.file_stores.specs.Opening.{IsOpened}
use Rattle.mirror_layer.specs.declared.came.Notice.{Notice}
use Rattle.file_stores.specs.Notices.{AreAtClose}
use Rattle.run_files.specs.Held.{machines_by_node, paged, BeganOn, Opens, OpensEach, AreMade, made_none, made_more, OpensSome, IsUnheld, IsShut, AreShut, AreEnded, ended_none, ended_more}

-- a tower over what lies under a file
pub opens-of : (mount : Mount) (f : FileSeen) (made : List (Option Notice)) (u : Under) (t : TowerSeen) → length made ≡ length f.stores → IsOpened mount f made u → IsSoundUnder u → engines.Opens mount.tree (paged mount f.file) (seen_under u) t.engine → t.turns ≡ []
    → machines_in t.engine ≡ machines_by_node mount → BeganOn mount f.file u t → (opens : Opens mount f t) × (made ≡ opens.made)
opens-of mount f made u t each over sound opens free machines began = (record { under = u; made = made; each = each; over = over; under_sound = sound; opens = opens; free = free; machines = machines; began = began }, refl)

pub opens-more : (mount : Mount) (ss : List FileSeen) (ts : List TowerSeen) (s : FileSeen) (t : TowerSeen) → OpensEach mount ss ts → Opens mount s t → OpensEach mount (ss ++ s ∷ []) (ts ++ t ∷ [])
opens-more mount [] [] s t h last = (last, tt)
opens-more mount [] (y ∷ ts) s t h last = absurd h
opens-more mount (x ∷ ss) [] s t h last = absurd h
opens-more mount (x ∷ ss) (y ∷ ts) s t h last = (h.0, opens-more mount ss ts s t h.1 last)

pub opens-length : (mount : Mount) (ss : List FileSeen) (ts : List TowerSeen) → OpensEach mount ss ts → length ts ≡ length ss
opens-length mount [] [] h = refl
opens-length mount [] (y ∷ ts) h = absurd h
opens-length mount (x ∷ ss) [] h = absurd h
opens-length mount (x ∷ ss) (y ∷ ts) h = ap suc (opens-length mount ss ts h.1)

-- the store over which a tower was opened
pub opens-at : (mount : Mount) (ss : List FileSeen) (ts : List TowerSeen) (k : ℕ) (s : FileSeen) (t : TowerSeen) → OpensEach mount ss ts → slice_get ss k ≡ Some s → slice_get ts k ≡ Some t → Opens mount s t
opens-at mount [] ts k s t h is at = absurd (no-item k s is)
opens-at mount (x ∷ ss) [] k s t h is at = absurd h
opens-at mount (x ∷ ss) (y ∷ ts) zero s t h is at = subst (λ (z : FileSeen). Opens mount z t) (some-is x s is) (subst (λ (z : TowerSeen). Opens mount x z) (some-is y t at) h.0)
opens-at mount (x ∷ ss) (y ∷ ts) (suc k) s t h is at = opens-at mount ss ts k s t h.1 is at

pub is-none : {A : Type 0} (o : Option A) (b : Bool) → b ≡ is_some o → b ≡ false → o ≡ None
is-none None b e f = refl
is-none (Some x) b e f = absurd cc

pub is-some : {A : Type 0} (o : Option A) (b : Bool) → b ≡ is_some o → b ≡ true → o ≡ None → ⊥
is-some None b e t n = cc
is-some (Some x) b e t n = cc

-- which files were opened so far: all, or one was not
abbrev pub Opening : Mount → List FileSeen → List TowerSeen → List FileSeen → Option Stop → Type 0
Opening mount stores towers rest None = OpensEach mount stores towers × (rest ≡ [])
Opening mount stores towers rest (Some stop) = OpensSome mount stores towers rest stop

-- how many stores were opened, and how many are left over
pub opening-count : (mount : Mount) (stores : List FileSeen) (towers : List TowerSeen) (rest : List FileSeen) (stopped : Option Stop) → Opening mount stores towers rest stopped
    → length towers + length rest ≡ length stores
opening-count mount stores towers rest None h =
    let many = opens-length mount stores towers h.0 in
    let none = ap length h.1 in
    omega (arith, many, none)
opening-count mount stores towers rest (Some stop) h =
    let many = opens-length mount h.first towers h.opened in
    let all = ap length h.all in
    let sum = length-append h.first (h.old ∷ h.behind) in
    let left = ap length h.left in
    omega (arith, many, all, sum, left)

-- one more was opened
pub opening-next : (mount : Mount) (stores : List FileSeen) (towers : List TowerSeen) (rest : List FileSeen) (stopped : Option Stop) (s : FileSeen) (t : TowerSeen) → stopped ≡ None → Opening mount stores towers rest stopped
    → Opens mount s t → Opening mount (stores ++ s ∷ []) (towers ++ t ∷ []) rest stopped
opening-next mount stores towers rest None s t none h opens = (opens-more mount stores towers s t h.0 opens, h.1)
opening-next mount stores towers rest (Some stop) s t none h opens = absurd cc

-- one was not opened
pub opening-stops : (mount : Mount) (stores : List FileSeen) (towers : List TowerSeen) (rest : List FileSeen) (stopped : Option Stop) (old new : FileSeen) (stop : Stop) → stopped ≡ None
    → Opening mount stores towers rest stopped → new.file ≡ old.file → ArePairs Lasts old.stores new.stores → IsUnheld mount old new stop → OpensSome mount (stores ++ old ∷ []) towers (rest ++ new ∷ []) stop
opening-stops mount stores towers rest None old new stop none h file pairs cause = record {
  first = stores;
  old = old;
  new = new;
  behind = [];
  all = refl;
  opened = h.0;
  left = ap (λ (r : List FileSeen). r ++ new ∷ []) h.1;
  file = file;
  pairs = pairs;
  cause = cause;
}
opening-stops mount stores towers rest (Some was) old new stop none h file pairs cause = absurd cc

-- one more is left
pub opening-left : (mount : Mount) (stores : List FileSeen) (towers : List TowerSeen) (rest : List FileSeen) (stopped : Option Stop) (s : FileSeen) → (stopped ≡ None → ⊥) → Opening mount stores towers rest stopped
    → Opening mount (stores ++ s ∷ []) towers (rest ++ s ∷ []) stopped
opening-left mount stores towers rest None s some h = absurd (some refl)
opening-left mount stores towers rest (Some stop) s some h = record {
  first = h.first;
  old = h.old;
  new = h.new;
  behind = h.behind ++ s ∷ [];
  all = ap (λ (o : List FileSeen). o ++ s ∷ []) h.all ∙ append_assoc h.first (h.old ∷ h.behind) (s ∷ []);
  opened = h.opened;
  left = ap (λ (r : List FileSeen). r ++ s ∷ []) h.left;
  file = h.file;
  pairs = h.pairs;
  cause = h.cause;
}

pub shut-more : (n : ℕ) (ts : List TowerSeen) (fs : List FileSeen) (t : TowerSeen) (f : FileSeen) → AreShut n ts fs → IsShut (n + length ts) t f → AreShut n (ts ++ t ∷ []) (fs ++ f ∷ [])
shut-more n [] [] t f h last = (subst (λ k. IsShut k t f) (omega arith) last, tt)
shut-more n [] (y ∷ fs) t f h last = absurd h
shut-more n (x ∷ ts) [] t f h last = absurd h
shut-more n (x ∷ ts) (y ∷ fs) t f h last = (h.0, shut-more (suc n) ts fs t f h.1 (subst (λ k. IsShut k t f) (omega arith) last))

pub shut-length : (n : ℕ) (ts : List TowerSeen) (fs : List FileSeen) → AreShut n ts fs → length fs ≡ length ts
shut-length n [] [] h = refl
shut-length n [] (y ∷ fs) h = absurd h
shut-length n (x ∷ ts) [] h = absurd h
shut-length n (x ∷ ts) (y ∷ fs) h = ap suc (shut-length (suc n) ts fs h.1)

-- the tower that was closed
pub shut-at : (n : ℕ) (ts : List TowerSeen) (fs : List FileSeen) (k : ℕ) (f : FileSeen) → AreShut n ts fs → slice_get fs k ≡ Some f → (t : TowerSeen) × (slice_get ts k ≡ Some t) × IsShut (n + k) t f
shut-at n ts [] k f h is = absurd (no-item k f is)
shut-at n [] (y ∷ fs) k f h is = absurd h
shut-at n (x ∷ ts) (y ∷ fs) zero f h is = (x, refl, subst (λ m. IsShut m x f) (omega arith) (subst (λ (z : FileSeen). IsShut n x z) (some-is y f is) h.0))
shut-at n (x ∷ ts) (y ∷ fs) (suc k) f h is =
    let rest = shut-at (suc n) ts fs k f h.1 is in
    (rest.0, rest.1, subst (λ m. IsShut m rest.0 f) (omega arith) rest.2)

pub length-logs : (ts : List TowerSeen) → length (logs ts) ≡ length ts
length-logs [] = refl
length-logs (t ∷ ts) = ap suc (length-logs ts)

pub logs-more : (ts : List TowerSeen) (t : TowerSeen) → logs (ts ++ t ∷ []) ≡ logs ts ++ log_in t.engine ∷ []
logs-more ts t = map-append (λ (x : TowerSeen). log_in x.engine) ts (t ∷ [])

-- as many as logs are taken of them
pub length-trails : (trails : List TrailSeen) (ls : List (List Logged)) → map (λ t. t.log) trails ≡ ls → length trails ≡ length ls
length-trails trails ls is = sym (length-map trails (λ (t : TrailSeen). t.log)) ∙ ap length is

layer-frames : (kind : Kind) (frames : ℕ) → IsLayerKind kind frames → frames ≤ 1024
layer-frames kinds.Coherency frames is = omega (arith, is)
layer-frames kinds.Dfs frames is = omega (arith, is)
layer-frames kinds.Vmm frames is = let few = is.1 in omega (arith, few)
layer-frames kinds.Disk frames is = absurd is
layer-frames kinds.Mirror frames is = absurd is

-- a node of the stack has few frames: the ground has none, and a layer has some only if it is a memory manager
node-frames : (mount : Mount) (node : ℕ) (d : NodeEntry) → IsMount mount → node < length mount.nodes → (slice_index_or mount.nodes node d).frames ≤ 1024
node-frames mount zero d sound lt = let none = (sound.ground_node d).bare in omega (arith, none)
node-frames mount (suc node) d sound lt =
    let n = slice_index_or mount.nodes (suc node) d in
    layer-frames n.kind n.frames (sound.layer_node (suc node) d (omega arith) lt).kind

frames-few : (nodes : List NodeEntry) (node : ℕ) → ((k : ℕ) (d : NodeEntry) → k < length nodes → (slice_index_or nodes k d).frames ≤ 1024) → slice_index (map (λ n. n.frames) nodes) node ≤ 1024
frames-few [] node few = omega arith
frames-few (n ∷ nodes) zero few = few 0 n (omega arith)
frames-few (n ∷ nodes) (suc node) few = frames-few nodes node (λ k d lt. few (suc k) d (omega (arith, lt)))

-- no node of a mounted stack has more frames than a memory manager may have
pub few-frames : (mount : Mount) (node : ℕ) → IsMount mount → frames_of mount.tree node ≤ 1024
few-frames mount node sound =
    subst (λ (t : TreeShape). frames_of t node ≤ 1024) (sym sound.served) (frames-few mount.nodes node (λ k d lt. node-frames mount k d sound lt))

-- each node has a machine
pub machines-many : (mount : Mount) (tree : TreeShape) (machines : List ℕ) → IsMount mount → tree ≡ mount.tree → machines ≡ machines_by_node mount → length machines ≡ nodes tree
machines-many mount tree machines sound is are =
    ap length are
    ∙ length-map mount.nodes (λ (node : NodeEntry). node.machine)
    ∙ sym (length-map mount.nodes (λ (node : NodeEntry). via mount.nodes node.below node.machine))
    ∙ ap nodes (sym sound.served ∙ sym is)

-- a file of the stack, as its messages name it
pub paged-of : (mount : Mount) (file : ℕ) (paged_file : PagedFile) → IsMount mount → file < length mount.files → IsShape (image_shape mount (record { file = file; disk = 0 })) → paged_file ≡ paged mount file → IsPagedFile paged_file
paged-of mount file paged_file sound inside fits is =
    let few = sound.few_files in
    let sized = page-sized mount.page_size fits.size in
    subst IsPagedFile (sym is)
    (record {
      number = omega (arith, inside, few);
      some = (let low = sized.low in omega (arith, low));
      small = sized.high;
      pages = (let some = fits.some in omega (arith, some));
      few = fits.few;
    })

pub map-same : {A : Type 0} (xs : List A) → map (λ x. x) xs ≡ xs
map-same [] = refl
map-same (x ∷ xs) = ap (λ l. x ∷ l) (map-same xs)

-- what the openings of files made of their disks
pub made-more : {mount : Mount} {fs : List FileSeen} {ts : List TowerSeen} {ms : List (List (Option Notice))} {f : FileSeen} {t : TowerSeen} {m : List (Option Notice)} → AreMade mount fs ts ms → (opens : Opens mount f t) → m ≡ opens.made
    → AreMade mount (fs ++ f ∷ []) (ts ++ t ∷ []) (ms ++ m ∷ [])
made-more {mount = mount} {f = f} {t = t} made_none opens e = subst (λ n. AreMade mount (f ∷ []) (t ∷ []) (n ∷ [])) (sym e) (made_more opens made_none)
made-more (made_more first h) opens e = made_more first (made-more h opens e)

pub made-length : {mount : Mount} {fs : List FileSeen} {ts : List TowerSeen} {ms : List (List (Option Notice))} → AreMade mount fs ts ms → length ms ≡ length ts
made-length made_none = refl
made-length (made_more o h) = ap suc (made-length h)

-- of one file
pub made-at : {mount : Mount} {fs : List FileSeen} {ts : List TowerSeen} {ms : List (List (Option Notice))} (k : ℕ) (f : FileSeen) (t : TowerSeen) → AreMade mount fs ts ms → slice_get fs k ≡ Some f → slice_get ts k ≡ Some t
    → (opens : Opens mount f t) × (slice_get ms k ≡ Some opens.made)
made-at k f t made_none is at = absurd (no-item k f is)
made-at {mount = mount} zero f t (made_more {f = g} {t = u} {ms = ms} o h) is at = by (some-is g f is) (some-is u t at)
  where
    by : g ≡ f → u ≡ t → (opens : Opens mount f t) × (Some o.made ≡ Some opens.made)
    by e d = subst (λ x. (opens : Opens mount x t) × (Some o.made ≡ Some opens.made)) e (subst (λ y. (opens : Opens mount g y) × (Some o.made ≡ Some opens.made)) d (o, refl))
made-at (suc k) f t (made_more o h) is at = made-at k f t h is at

-- a file more was closed
pub ended-more : {n : ℕ} {ts : List TowerSeen} {fs : List FileSeen} {ms ns : List (List (Option Notice))} {t : TowerSeen} {f : FileSeen} {m e : List (Option Notice)} → AreEnded n ts fs ms ns → (shut : IsShut (n + length ts) t f) → AreAtClose shut.under m e
    → AreEnded n (ts ++ t ∷ []) (fs ++ f ∷ []) (ms ++ m ∷ []) (ns ++ e ∷ [])
ended-more {n = n} {t = t} {f = f} {m = m} {e = e} ended_none shut is =
    let own : n + 0 ≡ n = omega arith in
    let at : (s : IsShut n t f) × AreAtClose s.under m e = subst (λ k. (s : IsShut k t f) × AreAtClose s.under m e) own (shut, is) in
    ended_more at.0 at.1 ended_none
ended-more {n = n} {t = t} {f = f} {m = m} {e = e} (ended_more {ts = ts} s c h) shut is =
    let own : n + suc (length ts) ≡ suc n + length ts = omega arith in
    let at : (s : IsShut (suc n + length ts) t f) × AreAtClose s.under m e = subst (λ k. (s : IsShut k t f) × AreAtClose s.under m e) own (shut, is) in
    ended_more s c (ended-more h at.0 at.1)

pub ended-shut : {n : ℕ} {ts : List TowerSeen} {fs : List FileSeen} {ms ns : List (List (Option Notice))} → AreEnded n ts fs ms ns → AreShut n ts fs
ended-shut ended_none = tt
ended-shut (ended_more s c h) = (s, ended-shut h)

pub ended-length : {n : ℕ} {ts : List TowerSeen} {fs : List FileSeen} {ms ns : List (List (Option Notice))} → AreEnded n ts fs ms ns → length ns ≡ length ts
ended-length ended_none = refl
ended-length (ended_more s c h) = ap suc (ended-length h)

-- the tower that was closed, and what is told of its file's disks
pub ended-at : {n : ℕ} {ts : List TowerSeen} {fs : List FileSeen} {ms ns : List (List (Option Notice))} (k : ℕ) (t : TowerSeen) (f : FileSeen) (m : List (Option Notice)) → AreEnded n ts fs ms ns → slice_get ts k ≡ Some t → slice_get fs k ≡ Some f → slice_get ms k ≡ Some m
    → (shut : IsShut (n + k) t f) × AreAtClose shut.under m (get_or ns k [])
ended-at k t f m ended_none at is has = absurd (no-item k f is)
ended-at {n = n} zero t f m (ended_more {t = u} {f = g} {m = l} {n = e} s c h) at is has =
    let own : n ≡ n + 0 = omega arith in
    subst (λ k. (shut : IsShut k t f) × AreAtClose shut.under m e) own
    (subst (λ x. (shut : IsShut n x f) × AreAtClose shut.under m e) (some-is u t at)
    (subst (λ x. (shut : IsShut n u x) × AreAtClose shut.under m e) (some-is g f is)
    (s, subst (λ (x : List (Option Notice)). AreAtClose s.under x e) (some-is l m has) c)))
ended-at {n = n} (suc k) t f m (ended_more {ns = ns} s c h) at is has =
    let own : suc n + k ≡ n + suc k = omega arith in
    subst (λ j. (shut : IsShut j t f) × AreAtClose shut.under m (get_or ns k [])) own (ended-at k t f m h at is has)

pub ended-made : {n : ℕ} {ts : List TowerSeen} {fs : List FileSeen} {ms ns : List (List (Option Notice))} → AreEnded n ts fs ms ns → length ms ≡ length ts
ended-made ended_none = refl
ended-made (ended_more s c h) = ap suc (ended-made h)
