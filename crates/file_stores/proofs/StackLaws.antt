-- The stores of a stack.
use Rattle.std.proofs.Common.{◌≡◌, ◌⊎◌, ⊎_elim, inl, inr, ℕ, zero, suc, ◌+◌, ◌-◌, ◌*◌, ◌<◌, ◌≤◌, List, [], ◌∷◌, ◌++◌, length, map, Some, sym, ap, subst, ◌∙◌, arith, length-append}
use Rattle.std.specs.Prelude.{slice_get}
use Rattle.std.specs.List.{flat_map, range_with_len}
use Rattle.std.proofs.lemmas.List.FromFn.{length-map-range_with_len, map-range_with_len_more}
use Rattle.std.proofs.lemmas.List.{flat_map_more, map-id}
use Rattle.stack_accept.specs.Mount.{Mount}
use Rattle.stack_accept.specs.Sound.{IsMount}
use Rattle.script_meaning.specs.declared.store.StoreKey.{StoreKey}
use Rattle.file_stores.specs.Keys.{stores_of_file, stores_of, AreStores}
use Rattle.file_stores.proofs.Lists.{no-item, some-is}

-- the stores of a file on the disks from one on
abbrev row : ℕ → ℕ → ℕ → List StoreKey
row file from disks = map (λ (disk : ℕ). let key : StoreKey = record { file = file; disk = disk } in key) (range_with_len from disks)

-- what stands in the stores of a file, and behind them
in-row : (file from disks : ℕ) (rest : List StoreKey) (at : ℕ) (key : StoreKey) → slice_get (row file from disks ++ rest) at ≡ Some key
    → ((key.file ≡ file) × (key.disk ≡ from + at) × (at < disks)) ⊎ ((disks ≤ at) × (slice_get rest (at - disks) ≡ Some key))
in-row file from zero rest at key e = let same : at ≡ at - 0 = omega arith in inr (omega arith, subst (λ n. slice_get rest n ≡ Some key) same e)
in-row file from (suc n) rest zero key e =
    let first : StoreKey = record { file = file; disk = from } in
    let is : first ≡ key = some-is first key e in
    inl (ap (λ (k : StoreKey). k.file) (sym is), ap (λ (k : StoreKey). k.disk) (sym is) ∙ omega arith, omega arith)
in-row file from (suc n) rest (suc at) key e =
    let less : at - n ≡ suc at - suc n = omega arith in
    ⊎_elim
    (λ l. let low = l.1 in let in_ = l.2 in inl (l.0, omega (arith, low), omega (arith, in_)))
    (λ r. let low = r.0 in inr (omega (arith, low), subst (λ m. slice_get rest m ≡ Some key) less r.1))
    (in-row file (from + 1) n rest at key e)

-- a store that stands among those of some files, and its place
pub record InRows (disks from files at : ℕ) (key : StoreKey) : Type 0 where
  pub least : from ≤ key.file
  pub most : key.file < from + files
  pub disk : key.disk < disks
  pub place : at + from * disks ≡ key.file * disks + key.disk

in-rows : (disks from files at : ℕ) (key : StoreKey) → slice_get (flat_map (stores_of_file disks) (range_with_len from files)) at ≡ Some key → InRows disks from files at key
in-rows disks from zero at key e = absurd (no-item at key e)
in-rows disks from (suc n) at key e =
    ⊎_elim
    (λ l.
    let file = l.0 in
    let disk = l.1 in
    let low = l.2 in
    let times : key.file * disks ≡ from * disks = ap (λ f. f * disks) file in
    record { least = omega (arith, file); most = omega (arith, file); disk = omega (arith, disk, low); place = omega (arith, times, disk) })
    (λ r.
    let past = r.0 in
    let more = in-rows disks (from + 1) n (at - disks) key r.1 in
    let least = more.least in
    let most = more.most in
    let place = more.place in
    let times : (from + 1) * disks ≡ from * disks + disks = grow from disks in
    record { least = omega (arith, least); most = omega (arith, most); disk = more.disk; place = omega (arith, past, place, times) })
    (in-row from 0 disks (flat_map (stores_of_file disks) (range_with_len (from + 1) n)) at key e)
  where
    grow : (k p : ℕ) → (k + 1) * p ≡ k * p + p
    grow k p = grind arith

-- where a store of the stack stands
pub stores-at : (mount : Mount) (at : ℕ) (key : StoreKey) → slice_get (stores_of mount) at ≡ Some key → InRows (length mount.disks) 0 (length mount.files) at key
stores-at mount at key e = in-rows (length mount.disks) 0 (length mount.files) at key e

-- the stores of a stack are stores of it, each once
pub stores-are : (mount : Mount) → IsMount mount → AreStores mount (stores_of mount)
stores-are mount sound = record {
  sound = sound;
  each = λ at key e.
      let is = stores-at mount at key e in
      let most = is.most in
      record { file = omega (arith, most); disk = is.disk };
  once = λ a b key ia ib.
      let pa = (stores-at mount a key ia).place in
      let pb = (stores-at mount b key ib).place in
      omega (arith, pa, pb);
}

-- how many there are
length-rows : (disks from files : ℕ) → length (flat_map (stores_of_file disks) (range_with_len from files)) ≡ files * disks
length-rows disks from zero = omega arith
length-rows disks from (suc n) =
    let first : length (stores_of_file disks from) ≡ disks = length-map-range_with_len (λ (disk : ℕ). let key : StoreKey = record { file = from; disk = disk } in key) 0 disks in
    let rest = length-rows disks (from + 1) n in
    let more = length-append (stores_of_file disks from) (flat_map (stores_of_file disks) (range_with_len (from + 1) n)) in
    let times : suc n * disks ≡ disks + n * disks = grow n disks in
    omega (arith, first, rest, more, times)
  where
    grow : (k p : ℕ) → suc k * p ≡ p + k * p
    grow k p = grind arith

pub length-stores : (mount : Mount) → length (stores_of mount) ≡ length mount.files * length mount.disks
length-stores mount = length-rows (length mount.disks) 0 (length mount.files)

-- the stores of one more file
pub rows-more : (disks files : ℕ) → flat_map (stores_of_file disks) (range_with_len 0 (files + 1)) ≡ flat_map (stores_of_file disks) (range_with_len 0 files) ++ stores_of_file disks files
rows-more disks files =
    ap (flat_map (stores_of_file disks)) (numbers-more files) ∙ sym (flat_map_more (stores_of_file disks) [] (range_with_len 0 files) files)
  where
    numbers-more : (n : ℕ) → range_with_len 0 (n + 1) ≡ range_with_len 0 n ++ n ∷ []
    numbers-more n = sym (map-id (range_with_len 0 (n + 1))) ∙ (map-range_with_len_more (λ x. x) 0 n n (omega arith) ∙ ap (λ l. l ++ n ∷ []) (map-id (range_with_len 0 n)))
