-- The stores of a file with their keys, and what is said of them without.
use Rattle.std.proofs.Common.{◌≡◌, ℕ, zero, suc, ◌<◌, List, [], ◌∷◌, length, map, refl, sym, subst, ◌∙◌, Option}
use Rattle.std.proofs.lemmas.List.{length-map}
use Rattle.spr_io.specs.Content.{Content}
use Rattle.spr_io.specs.Content.{KeepsShape}
use Rattle.disk_format.specs.Shape.{blocks_of}
use Rattle.stack_accept.specs.Sound.{IsMount}
use Rattle.file_stores.proofs.Lists.{some-is, no-item}
use Rattle.stack_accept.specs.Mount.{Mount}
use Rattle.disk_layer.specs.Disk.{Suits}
use Rattle.mirror_rules.specs.Claims.{Every, every_none, every_more, Nth, nth_here, nth_later}
use Rattle.file_stores.specs.Keys.{EachAt, stores_of_file}
use Rattle.file_stores.specs.Held.{StoreSeen, IsFit, keys_of}
use Rattle.file_stores.specs.Files.{Bare, keyed, IsFile}
use Rattle.file_stores.proofs.FileLaws.{length-keyed, keyed-keys}
use Rattle.file_stores.specs.Opening.{content_of, faults_of, shape_of_file}
use Rattle.file_stores.proofs.CarryLaws.{Alike}

-- as many stores of one file have the same keys
pub keys-same : (file : ℕ) (bs cs : List Bare) → length bs ≡ length cs → keys_of (keyed file 0 bs) ≡ keys_of (keyed file 0 cs)
keys-same file bs cs same = keyed-keys file (length bs) bs refl ∙ sym (keyed-keys file (length bs) cs (sym same))

-- they are those of the file on its first disks
pub keys-own : (file : ℕ) (bs : List Bare) → keys_of (keyed file 0 bs) ≡ stores_of_file (length (keyed file 0 bs)) file
keys-own file bs = keyed-keys file (length (keyed file 0 bs)) bs (sym (length-keyed file 0 bs))

module _ {T : Type 0} (size number : T → ℕ) (content : T → Option Content) (faults : T → ℕ) where
  -- a store without its key
  abbrev pub bare : T → Bare
  bare t = record { size = size t; number = number t; state = record { content = content t; faults = faults t } }

  -- a file's stores, from a disk on
  abbrev pub stores_from : ℕ → ℕ → List T → List StoreSeen
  stores_from file disk ts = keyed file disk (map (λ t. bare t) ts)

  pub length-stores : (file disk : ℕ) (ts : List T) → length (stores_from file disk ts) ≡ length ts
  length-stores file disk ts = length-keyed file disk (map (λ t. bare t) ts) ∙ length-map ts (λ t. bare t)

  at-keyed : (file disk : ℕ) {k : ℕ} {ts : List T} {t : T} → Nth k ts t → (u : StoreSeen) × Nth k (stores_from file disk ts) u × (content_of u ≡ content t) × (faults_of u ≡ faults t)
  at-keyed file disk nth_here = (_, nth_here, refl, refl)
  at-keyed file disk (nth_later h) = let rest = at-keyed file (suc disk) h in (rest.0, nth_later rest.1, rest.2, rest.3)

  -- they hold and count the same
  pub keyed-alike : (file : ℕ) (ts : List T) → Alike content faults content_of faults_of ts (stores_from file 0 ts)
  keyed-alike file ts = record { many = length-stores file 0 ts; each = λ k t h. at-keyed file 0 h }

  fits-from : (mount : Mount) (file disk : ℕ) (ts : List T) → EachAt (λ at store. IsFit mount store) (stores_from file disk ts) → Every (λ t. Suits (shape_of_file mount file) (size t) (number t)) ts
  fits-from mount file disk [] fits = every_none
  fits-from mount file disk (t ∷ ts) fits =
      let first = fits zero _ refl in
      every_more (record { size = first.same_size; number = first.same_number }) (fits-from mount file (suc disk) ts (λ at store is. fits (suc at) store is))

  -- they suit the file's image
  pub suits-keyed : (mount : Mount) (file : ℕ) (ts : List T) → IsFile mount (record { file = file; stores = stores_from file 0 ts }) → Every (λ t. Suits (shape_of_file mount file) (size t) (number t)) ts
  suits-keyed mount file ts is = fits-from mount file 0 ts is.fits

  each-fit : (mount : Mount) (file disk : ℕ) (ts : List T) → Every (λ t. KeepsShape mount.page_size (blocks_of (shape_of_file mount file)) (size t) (number t) (content t)) ts → EachAt (λ at store. IsFit mount store) (stores_from file disk ts)
  each-fit mount file disk [] fits at store is = absurd (no-item at store is)
  each-fit mount file disk (t ∷ ts) (every_more fit fits) zero store is = subst (λ (s : StoreSeen). IsFit mount s) (some-is _ store is) fit
  each-fit mount file disk (t ∷ ts) (every_more fit fits) (suc at) store is = each-fit mount file (suc disk) ts fits at store is

  -- stores of the file's shape, one for each disk, are a file's
  pub file-keyed : (mount : Mount) (file : ℕ) (ts : List T) → IsMount mount → file < length mount.files → length ts ≡ length mount.disks → Every (λ t. KeepsShape mount.page_size (blocks_of (shape_of_file mount file)) (size t) (number t) (content t)) ts
      → IsFile mount (record { file = file; stores = stores_from file 0 ts })
  file-keyed mount file ts sound low many fits = record {
    sound = sound;
    file = low;
    keys = keyed-keys file (length mount.disks) (map (λ t. bare t) ts) (length-map ts (λ t. bare t) ∙ many);
    fits = each-fit mount file 0 ts fits;
  }
