-- What is known of a file whose image was opened.
use Rattle.std.proofs.Common.{◌≡◌, ℕ, zero, suc, List, [], ◌∷◌, length, Option, refl, sym, ap, ◌∙◌}
use Rattle.stack_accept.specs.Mount.{Mount}
use Rattle.script_meaning.specs.Stack.{pages_of}
use Rattle.script_meaning.specs.declared.store.StoreKey.{StoreKey}
use Rattle.disk_format.specs.declared.shape.ImageShape.{ImageShape}
use Rattle.file_stores.specs.Keys.{stores_of_file}
use Rattle.file_stores.specs.Held.{StoreSeen, keys_of}
use Rattle.file_stores.specs.Files.{FileSeen, IsFile}
use Rattle.file_stores.specs.Under.{Under, One, Many, seen_under}
use Rattle.mirror_layer.specs.declared.came.Notice.{Notice}
use Rattle.file_stores.specs.Opening.{IsOpened}

-- the file of the first key, if there is one
abbrev first-file : ℕ → List StoreKey → ℕ
first-file file [] = file
first-file file (key ∷ keys) = key.file

first-of : (file disks : ℕ) → first-file file (stores_of_file disks file) ≡ file
first-of file zero = refl
first-of file (suc n) = refl

-- a file's one store is of the file
one-file : (mount : Mount) (f : FileSeen) (s : StoreSeen) → IsFile mount f → f.stores ≡ s ∷ [] → s.key.file ≡ f.file
one-file mount f s is one = ap (λ (l : List StoreSeen). first-file f.file (keys_of l)) (sym one) ∙ (ap (first-file f.file) is.keys ∙ first-of f.file (length mount.disks))

-- its pages are of the stack's size
pub opened-size : (mount : Mount) (f : FileSeen) (notices : List (Option Notice)) (u : Under) → IsOpened mount f notices u → (seen_under u).page_size ≡ mount.page_size
opened-size mount f notices (One d) opened = ap (λ (s : ImageShape). s.page_size) opened.2.shape
opened-size mount f notices (Many g) opened = ap (λ (s : ImageShape). s.page_size) opened.1.over.shaped

-- there are as many as the file has
pub opened-number : (mount : Mount) (f : FileSeen) (notices : List (Option Notice)) (u : Under) → IsFile mount f → IsOpened mount f notices u → (seen_under u).number ≡ pages_of mount f.file
opened-number mount f notices (One d) is opened = ap (λ (s : ImageShape). s.pages) opened.2.shape ∙ ap (pages_of mount) (one-file mount f opened.0 is opened.1)
opened-number mount f notices (Many g) is opened = ap (λ (s : ImageShape). s.pages) opened.1.over.shaped
