-- Which calls may be made at a stack's files.
use Rattle.std.proofs.Common.{◌≡◌, ℕ, zero, suc, ◌<◌, List, [], ◌∷◌, length, Option, Some, IsTrue, refl, sym, ap, subst, ◌∙◌, arith}
use Rattle.std.specs.Prelude.{slice_get}
use Rattle.std.specs.Option.{option_map}
use Rattle.std.proofs.lemmas.Option.{slice_get-map}
use Rattle.hist_plain.specs.declared.event.Op.{Op}
use Rattle.hist_plain.specs.Event.{fits_page}
use Rattle.tower_core.specs.TreeShape.{IsUpper, TreeShape}
use Rattle.stack_accept.specs.Mount.{Mount}
use Rattle.stack_accept.specs.declared.entries.FileEntry.{FileEntry}
use Rattle.script_meaning.specs.Stack.{pages_of}
use Rattle.stack_engine.specs.Engine.{file_in, tree_in}
use Rattle.stack_engine.specs.Tower.{TowerSeen}
use Rattle.spr_client.specs.Calls.{Frame, frame_of, frames, AreFrames, AreOfStack}

no_frame : (k : ℕ) (f : Frame) → slice_get {X = Frame} [] k ≡ Some f → ⊥
no_frame k f e = cc

same_frame : (x f : Frame) → Some x ≡ Some f → x ≡ f
same_frame x f e = cc

-- what the frame of a file is
record FrameAt (mount : Mount) (files : List FileEntry) (k : ℕ) (f : Frame) : Type 0 where
  entry : FileEntry
  there : slice_get files k ≡ Some entry
  tree : f.tree ≡ mount.tree
  size : f.file.page_size ≡ mount.page_size
  pages : f.file.pages ≡ entry.pages

frame_at : (mount : Mount) (files : List FileEntry) (fs : List Frame) (k : ℕ) (f : Frame) → AreFrames mount files fs → slice_get fs k ≡ Some f → FrameAt mount files k f
frame_at mount [] [] k f h there = absurd (no_frame k f there)
frame_at mount [] (x ∷ xs) k f h there = absurd h
frame_at mount (e ∷ es) [] k f h there = absurd h
frame_at mount (e ∷ es) (x ∷ xs) zero f h there =
    let is : x ≡ f = same_frame x f there in
    record {
      entry = e;
      there = refl;
      tree = subst (λ (y : Frame). y.tree ≡ mount.tree) is h.0;
      size = subst (λ (y : Frame). y.file.page_size ≡ mount.page_size) is h.1;
      pages = subst (λ (y : Frame). y.file.pages ≡ e.pages) is h.2;
    }
frame_at mount (e ∷ es) (x ∷ xs) (suc k) f h there =
    let r = frame_at mount es xs k f h.3 there in
    record { entry = r.entry; there = r.there; tree = r.tree; size = r.size; pages = r.pages }

length_frames : (mount : Mount) (files : List FileEntry) (fs : List Frame) → AreFrames mount files fs → length fs ≡ length files
length_frames mount [] [] h = refl
length_frames mount [] (x ∷ xs) h = absurd h
length_frames mount (e ∷ es) [] h = absurd h
length_frames mount (e ∷ es) (x ∷ xs) h = ap suc (length_frames mount es xs h.3)

frames_of_towers : (ts : List TowerSeen) → length (frames ts) ≡ length ts
frames_of_towers [] = refl
frames_of_towers (t ∷ ts) = ap suc (frames_of_towers ts)

-- each file of the stack has a tower
pub file_has_tower : (mount : Mount) (ts : List TowerSeen) (file : ℕ) → AreOfStack mount ts → file < length mount.files → file < length ts
file_has_tower mount ts file are lt =
    let e = frames_of_towers ts in
    let f = length_frames mount mount.files (frames ts) are in
    omega arith

tower_at : (mount : Mount) (ts : List TowerSeen) (k : ℕ) (t : TowerSeen) → AreOfStack mount ts → slice_get ts k ≡ Some t → FrameAt mount mount.files k (frame_of t)
tower_at mount ts k t are there = frame_at mount mount.files (frames ts) k (frame_of t) are (slice_get-map frame_of ts k ∙ ap (λ (o : Option TowerSeen). option_map frame_of o) there)

-- a layer of the stack above the ground is one of a file's tower
pub upper_of : (mount : Mount) (ts : List TowerSeen) (file node : ℕ) → AreOfStack mount ts → 0 < node → node < length mount.tree.parents
    → (t : TowerSeen) → slice_get ts file ≡ Some t → IsUpper (tree_in t.engine) node
upper_of mount ts file node are above lt t there =
    let r = tower_at mount ts file t are there in
    record { above = above; inside = subst (λ (s : TreeShape). node < length s.parents) (sym r.tree) lt }

pages_at : (mount : Mount) (k : ℕ) (f : Frame) → FrameAt mount mount.files k f → f.file.pages ≡ pages_of mount k
pages_at mount k f r = r.pages ∙ rw r.there refl

-- an access that fits the stack's file may be made at its tower
pub may_access : (mount : Mount) (ts : List TowerSeen) (file node : ℕ) (op : Op) → AreOfStack mount ts → 0 < node → node < length mount.tree.parents → IsTrue (fits_page mount.page_size (pages_of mount file) op)
    → (t : TowerSeen) → slice_get ts file ≡ Some t → IsUpper (tree_in t.engine) node × IsTrue (fits_page (file_in t.engine).page_size (file_in t.engine).pages op)
may_access mount ts file node op are above lt fits t there =
    let r = tower_at mount ts file t are there in (
      upper_of mount ts file node are above lt t there,
      subst (λ n. IsTrue (fits_page n (file_in t.engine).pages op)) (sym r.size)
          (subst (λ n. IsTrue (fits_page mount.page_size n op)) (sym (pages_at mount file (frame_of t) r)) fits),
    )
