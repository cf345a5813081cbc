-- A file's image over disks in mirrors: how it is opened and closed.
use Rattle.std.proofs.Common.{◌≡◌, ℕ, ◌<◌, ◌≤◌, List, length, map, refl, sym, ap, subst, ◌∙◌, Option, arith}
use Rattle.std.specs.List.Sorted.{IsPermutation}
use Rattle.std.proofs.lemmas.List.{length-map}
use Rattle.spr_io.specs.Content.{Content}
use Rattle.stack_accept.specs.Mount.{Mount}
use Rattle.stack_accept.specs.Plan.{disks_in, numbers_below}
use Rattle.mirror_layer.specs.Ground.{Ground}
use Rattle.mirror_layer.specs.Stores.{GivesBack}
use Rattle.mirror_layer.specs.Bringing.{RefusedOver}
use Rattle.mirror_layer.specs.Came.{OpenedWith}
use Rattle.mirror_layer.specs.declared.came.Notice.{Notice}
use Rattle.mirror_layer.specs.declared.refuse.Refusal.{Refusal}
use Rattle.file_stores.specs.Held.{keys_of}
use Rattle.file_stores.specs.Files.{Bare, FileSeen, IsFile}
use Rattle.file_stores.proofs.FileLaws.{file-number}
use Rattle.file_stores.specs.Under.{Many}
use Rattle.file_stores.specs.Opening.{shape_of_file, refused_by, IsOpened, IsLeft, IsUnopened, unopened_many}
use Rattle.file_stores.proofs.CarryLaws.{opened-alike, back-alike, refused-alike}
use Rattle.file_stores.proofs.KeyedLaws.{bare, stores_from, length-stores, keyed-alike, keys-same}
use Rattle.file_stores.proofs.StoreLaws.{refused-number}

module _ {T : Type 0} (size number : T → ℕ) (content : T → Option Content) (faults : T → ℕ) (mount : Mount) (file : ℕ) where
  -- a file of these stores
  abbrev pub file_over : List T → FileSeen
  file_over ts = record { file = file; stores = stores_from size number content faults file 0 ts }

  -- one store for each disk
  pub number-many : (ts : List T) → IsFile mount (file_over ts) → length ts ≡ length mount.disks
  number-many ts is = sym (length-stores size number content faults file 0 ts) ∙ file-number mount (file_over ts) is

  pub plan-many : (ts : List T) → IsFile mount (file_over ts) → IsPermutation (disks_in mount.ground) (numbers_below (length ts))
  plan-many ts is = subst (λ n. IsPermutation (disks_in mount.ground) (numbers_below n)) (sym (number-many ts is)) is.sound.disks

  -- more than one, if it is not one
  pub some-many : (ts : List T) → IsFile mount (file_over ts) → (length ts ≡ 1 → ⊥) → 1 < length (file_over ts).stores
  some-many ts is other =
      let all = number-many ts is in
      let some = is.sound.some_disk in
      let long = length-stores size number content faults file 0 ts in
      more (length ts) (length (file_over ts).stores) (omega (arith, all, some)) other long
    where
      more : (n m : ℕ) → 1 ≤ n → (n ≡ 1 → ⊥) → m ≡ n → 1 < m
      more n m some other e = omega (arith, some, other, e)

  pub opened-many : (ts : List T) (notices : List (Option Notice)) (g : Ground) → 1 < length (file_over ts).stores → OpenedWith content faults (shape_of_file mount file) ts mount.ground notices g → IsOpened mount (file_over ts) notices (Many g)
  opened-many ts notices g some opened = (some, record { over = opened-alike (keyed-alike size number content faults file ts) opened.over; came_so = opened.came_so })

  pub refused-many : (ts after : List T) (why : Refusal) → 1 < length (file_over ts).stores → RefusedOver content faults (shape_of_file mount file) ts mount.ground why after → IsUnopened mount (file_over ts) (file_over after) (refused_by file why)
  refused-many ts after why some over =
      unopened_many {why = why} some (refused-alike (keyed-alike size number content faults file ts) (keyed-alike size number content faults file after) (λ e. ap (λ l. stores_from size number content faults file 0 l) e) over) refl

  -- the same stores go back
  pub keys-many : (ts after : List T) (why : Refusal) → IsFile mount (file_over ts) → RefusedOver content faults (shape_of_file mount file) ts mount.ground why after → keys_of (file_over after).stores ≡ keys_of (file_over ts).stores
  keys-many ts after why is over =
      let seen : T → Bare = λ t. bare size number content faults t in
      keys-same file (map seen after) (map seen ts) (length-map after seen ∙ (refused-number (plan-many ts is) over ∙ sym (length-map ts seen)))

-- they were closed
pub left-many : {T : Type 0} (size number : T → ℕ) (content : T → Option Content) (faults : T → ℕ) (file : ℕ) (ts : List T) (g : Ground) → GivesBack content faults g.beside g.row ts
    → IsLeft (Many g) (record { file = file; stores = stores_from size number content faults file 0 ts })
left-many size number content faults file ts g back = back-alike (keyed-alike size number content faults file ts) back
