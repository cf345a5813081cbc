-- Lists of lines that are calls, and a stack of one file.
use Rattle.std.proofs.Common.{◌≡◌, ℕ, ◌+◌, ◌<◌, List, [], ◌∷◌, ◌++◌, Result, Ok, Err, length, map, take, get_or, sym, ap, subst, ◌∙◌}
use Rattle.std.specs.List.{AllByRecursion}
use Rattle.std.specs.Result.{IfOk}
use Rattle.std.proofs.lemmas.List.{take_more}
use Rattle.stack_accept.specs.Mount.{Mount}
use Rattle.stack_accept.specs.declared.entries.FileEntry.{FileEntry}
use Rattle.tower_core.specs.TreeShape.{TreeShape}
use Rattle.page_messages.specs.declared.paged.PagedFile.{PagedFile}
use Rattle.stack_engine.specs.Engine.{file_in, tree_in}
use Rattle.stack_engine.specs.Tower.{TowerSeen}
use Rattle.spr_client.specs.Calls.{Frame, AreFrames, AreOfStack, frame_of}

all-append : {A : Type 0} (P : A → Type 0) (xs : List A) (x : A) → AllByRecursion P xs → P x → AllByRecursion P (xs ++ x ∷ [])
all-append P [] x all here = (here, tt)
all-append P (y ∷ ys) x all here = (all.0, all-append P ys x all.1 here)

-- what holds of the items so far, and of the next one
pub all-next : {A : Type 0} (P : A → Type 0) (xs : List A) (i : ℕ) (x : A) → x ≡ get_or xs i x → i < length xs → AllByRecursion P (take i xs) → P x → AllByRecursion P (take (i + 1) xs)
all-next {A = A} P xs i x is lt all here =
    subst (λ (ys : List A). AllByRecursion P ys) (sym (take_more xs i x lt ∙ ap (λ (y : A). take i xs ++ y ∷ []) (sym is))) (all-append P (take i xs) x all here)

-- a stack of one file has one frame
pub one_frame : (mount : Mount) (frame : Frame) (files : List FileEntry) → frame.tree ≡ mount.tree → frame.file.page_size ≡ mount.page_size → map (λ (f : FileEntry). f.pages) files ≡ frame.file.pages ∷ [] → AreFrames mount files (frame ∷ [])
one_frame mount frame [] tree size pages = absurd cc
one_frame mount frame (f ∷ []) tree size pages = let e : frame.file.pages ≡ f.pages = cc in (tree, size, e, tt)
one_frame mount frame (f ∷ g ∷ files) tree size pages = absurd cc

-- a tower of the stack's tree, over the pages of its only file, is of the stack
pub tower_of_one : {E : Type 0} (mount : Mount) (pages : ℕ) (tree : TreeShape) (made : Result TowerSeen E) → mount.page_size ≡ 64 → map (λ (f : FileEntry). f.pages) mount.files ≡ pages ∷ [] → tree ≡ mount.tree → IfOk made (λ t. tree_in t.engine ≡ tree) → IfOk made (λ t. file_in t.engine ≡ record { number = 0; page_size = 64; pages = pages }) → IfOk made (λ t. AreOfStack mount (t ∷ []))
tower_of_one mount pages tree (Ok t) size one same shape file =
    one_frame mount (frame_of t) mount.files (shape ∙ same) (ap (λ (f : PagedFile). f.page_size) file ∙ sym size) (one ∙ ap (λ (n : ℕ). n ∷ []) (sym (ap (λ (f : PagedFile). f.pages) file)))
tower_of_one mount pages tree (Err e) size one same shape file = tt
