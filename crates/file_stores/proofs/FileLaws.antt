-- The stores of files, one after another.
use Rattle.std.proofs.Common.{◌≡◌, ◌⊎◌, ⊎_elim, inl, inr, ℕ, zero, suc, ◌+◌, ◌-◌, ◌^◌, ◌<◌, ◌≤◌, List, [], ◌∷◌, ◌++◌, length, map, take, drop, get_or, Some, refl, sym, ap, subst, ◌∙◌, arith, append_assoc, length-append}
use Rattle.std.specs.Prelude.{slice_get}
use Rattle.std.specs.List.{flat_map, range_with_len}
use Rattle.std.proofs.lemmas.Option.{slice_get_within}
use Rattle.std.proofs.lemmas.List.{append-nil, append_cancel_left, map-append, length-map, length-take, take_at, take_more, take-append-drop, nil_from_length}
use Rattle.std.proofs.lemmas.List.FromFn.{length-map-range_with_len}
use Rattle.stack_accept.specs.Mount.{Mount}
use Rattle.stack_accept.specs.declared.TheConstants.{MAX_DISKS}
use Rattle.script_meaning.specs.declared.store.StoreKey.{StoreKey}
use Rattle.stack_accept.specs.Sound.{IsMount}
use Rattle.file_stores.specs.Keys.{AreStores, EachAt, IsStore, stores_of_file, stores_of}
use Rattle.file_stores.specs.Held.{StoreSeen, keys_of, IsFit, Became}
use Rattle.file_stores.specs.Files.{AreFilePairs, ArePairs, Bare, keyed, FileSeen, IsFile, Lasts, StandsAt, stores_in}
use Rattle.file_stores.proofs.Lists.{some-is, no-item, there, from-map, to-map, at-longer}

-- a store with its key
abbrev pub with_key : ℕ → ℕ → Bare → StoreSeen
with_key file disk b = record { key = record { file = file; disk = disk }; size = b.size; number = b.number; state = b.state }

abbrev pub key_of : ℕ → ℕ → StoreKey
key_of file disk = record { file = file; disk = disk }

-- what stands in a list, or behind it
pub at-joined : {A : Type 0} (xs ys : List A) (at : ℕ) (x : A) → slice_get (xs ++ ys) at ≡ Some x → (slice_get xs at ≡ Some x) ⊎ ((length xs ≤ at) × (slice_get ys (at - length xs) ≡ Some x))
at-joined [] ys at x e = let same : at ≡ at - 0 = omega arith in inr (omega arith, subst (λ n. slice_get ys n ≡ Some x) same e)
at-joined (y ∷ xs) ys zero x e = inl e
at-joined (y ∷ xs) ys (suc at) x e =
    let less : at - length xs ≡ suc at - suc (length xs) = omega arith in
    ⊎_elim (λ l. inl l) (λ r. let low = r.0 in inr (omega (arith, low), subst (λ n. slice_get ys n ≡ Some x) less r.1)) (at-joined xs ys at x e)

-- what stands behind a list
pub at-behind : {A : Type 0} (xs ys : List A) (at : ℕ) (x : A) → slice_get ys at ≡ Some x → slice_get (xs ++ ys) (length xs + at) ≡ Some x
at-behind [] ys at x e = let same : at ≡ 0 + at = omega arith in subst (λ n. slice_get ys n ≡ Some x) same e
at-behind (y ∷ xs) ys at x e = let same : suc (length xs + at) ≡ suc (length xs) + at = omega arith in subst (λ n. slice_get (y ∷ (xs ++ ys)) n ≡ Some x) same (at-behind xs ys at x e)

pub at-first : {A : Type 0} (xs ys : List A) (x : A) → slice_get (xs ++ x ∷ ys) (length xs) ≡ Some x
at-first [] ys x = refl
at-first (y ∷ xs) ys x = at-first xs ys x

at-early : {A : Type 0} (n : ℕ) (xs : List A) (at : ℕ) (x : A) → at < n → slice_get xs at ≡ Some x → slice_get (take n xs) at ≡ Some x
at-early zero xs at x lt e = absurd (omega (arith, lt))
at-early (suc n) [] at x lt e = absurd (no-item at x e)
at-early (suc n) (y ∷ xs) zero x lt e = e
at-early (suc n) (y ∷ xs) (suc at) x lt e = at-early n xs at x (omega (arith, lt)) e

in-range : (from n at d : ℕ) → slice_get (range_with_len from n) at ≡ Some d → (d ≡ from + at) × (at < n)
in-range from zero at d e = absurd (no-item at d e)
in-range from (suc n) zero d e = let is = some-is from d e in (omega (arith, is), omega arith)
in-range from (suc n) (suc at) d e = let more = in-range (from + 1) n at d e in let is = more.0 in let low = more.1 in (omega (arith, is), omega (arith, low))

-- the store at a place of a file
pub in-disks : (disks file at : ℕ) (key : StoreKey) → slice_get (stores_of_file disks file) at ≡ Some key → (key ≡ key_of file at) × (at < disks)
in-disks disks file at key e =
    let found = from-map (λ (d : ℕ). key_of file d) (range_with_len 0 disks) at key e in
    let where_ = in-range 0 disks at found.0 found.1 in
    let is = where_.0 in
    let same : found.0 ≡ at = omega (arith, is) in
    (sym found.2 ∙ ap (λ d. key_of file d) same, where_.1)

-- the stores of a file are stores of the stack
pub file-stores : (mount : Mount) (file : ℕ) → IsMount mount → file < length mount.files → AreStores mount (stores_of_file (length mount.disks) file)
file-stores mount file sound within = record {
  sound = sound;
  each = λ at key is.
      let found = in-disks (length mount.disks) file at key is in
      let low = found.1 in
      subst (λ (k : StoreKey). IsStore mount k) (sym found.0) (record { file = within; disk = low });
  once = λ a b key ia ib.
      ap (λ (k : StoreKey). k.disk) (sym (in-disks (length mount.disks) file a key ia).0) ∙ ap (λ (k : StoreKey). k.disk) (in-disks (length mount.disks) file b key ib).0;
}

pub length-disks : (disks file : ℕ) → length (stores_of_file disks file) ≡ disks
length-disks disks file = length-map-range_with_len (λ (d : ℕ). key_of file d) 0 disks

pub length-keyed : (file from : ℕ) (bs : List Bare) → length (keyed file from bs) ≡ length bs
length-keyed file from [] = refl
length-keyed file from (b ∷ bs) = ap suc (length-keyed file (suc from) bs)

-- one more store of a file
pub keyed-more : (file from : ℕ) (bs : List Bare) (b : Bare) → keyed file from (bs ++ b ∷ []) ≡ keyed file from bs ++ with_key file (from + length bs) b ∷ []
keyed-more file from [] b = let same : from ≡ from + 0 = omega arith in ap (λ d. with_key file d b ∷ []) same
keyed-more file from (x ∷ bs) b =
    let same : suc from + length bs ≡ from + suc (length bs) = omega arith in
    ap (λ (l : List StoreSeen). with_key file from x ∷ l) (keyed-more file (suc from) bs b ∙ ap (λ d. keyed file (suc from) bs ++ with_key file d b ∷ []) same)

keys-from : (file from : ℕ) (bs : List Bare) → keys_of (keyed file from bs) ≡ map (λ d. key_of file d) (range_with_len from (length bs))
keys-from file from [] = refl
keys-from file from (b ∷ bs) = let same : suc from ≡ from + 1 = omega arith in ap (λ (l : List StoreKey). key_of file from ∷ l) (keys-from file (suc from) bs ∙ ap (λ n. map (λ d. key_of file d) (range_with_len n (length bs))) same)

-- which stores these are
pub keyed-keys : (file disks : ℕ) (bs : List Bare) → length bs ≡ disks → keys_of (keyed file 0 bs) ≡ stores_of_file disks file
keyed-keys file disks bs many = keys-from file 0 bs ∙ ap (λ n. stores_of_file n file) many

-- the store that comes next is the file's on the next disk
next-key : (file disks : ℕ) (all rest : List StoreSeen) (bs : List Bare) (s : StoreSeen) → take disks (keys_of all) ≡ stores_of_file disks file → all ≡ keyed file 0 bs ++ s ∷ rest → length bs < disks → s.key ≡ key_of file (length bs)
next-key file disks all rest bs s keys is low =
    let here : slice_get all (length bs) ≡ Some s =
    ap (λ (l : List StoreSeen). slice_get l (length bs)) is ∙ subst (λ n. slice_get (keyed file 0 bs ++ s ∷ rest) n ≡ Some s) (length-keyed file 0 bs) (at-first (keyed file 0 bs) rest s) in
    let key : slice_get (take disks (keys_of all)) (length bs) ≡ Some s.key = at-early disks (keys_of all) (length bs) s.key low (to-map (λ (x : StoreSeen). x.key) all (length bs) s here) in
    (in-disks disks file (length bs) s.key (subst (λ (l : List StoreKey). slice_get l (length bs) ≡ Some s.key) keys key)).0

-- one more store of a file was taken into its room
pub fill-more : (file disks : ℕ) (all rest : List StoreSeen) (bs : List Bare) (b : Bare) (s : StoreSeen) → take disks (keys_of all) ≡ stores_of_file disks file → all ≡ keyed file 0 bs ++ s ∷ rest → length bs < disks
    → s ≡ with_key s.key.file s.key.disk b → all ≡ keyed file 0 (bs ++ b ∷ []) ++ rest
fill-more file disks all rest bs b s keys is low bare =
    let key = next-key file disks all rest bs s keys is low in
    let from_none : length bs ≡ 0 + length bs = omega arith in
    let next : s ≡ with_key file (0 + length bs) b = bare ∙ (ap (λ (k : StoreKey). with_key k.file k.disk b) key ∙ ap (λ n. with_key file n b) from_none) in
    is
    ∙ (ap (λ (x : StoreSeen). keyed file 0 bs ++ x ∷ rest) next
    ∙ (sym (append_assoc (keyed file 0 bs) (with_key file (0 + length bs) b ∷ []) rest) ∙ ap (λ (l : List StoreSeen). l ++ rest) (sym (keyed-more file 0 bs b))))

-- there is a store for each disk
pub fill-next : (file disks : ℕ) (all rest : List StoreSeen) (bs : List Bare) → take disks (keys_of all) ≡ stores_of_file disks file → all ≡ keyed file 0 bs ++ rest → length bs < disks → 0 < length rest
fill-next file disks all rest bs keys is low =
    let many = ap length keys ∙ length-disks disks file in
    let less = length-take disks (keys_of all) in
    let same = length-map all (λ (x : StoreSeen). x.key) in
    let whole = ap length is ∙ length-append (keyed file 0 bs) rest in
    let mine = length-keyed file 0 bs in
    omega (arith, many, less, same, whole, mine, low)

-- the stores of some files, from one on
pub rows-first : (disks k n : ℕ) → k < n
    → flat_map (stores_of_file disks) (range_with_len k (n - k)) ≡ stores_of_file disks k ++ flat_map (stores_of_file disks) (range_with_len (k + 1) (n - (k + 1)))
rows-first disks k n low = let more : n - k ≡ suc (n - (k + 1)) = omega (arith, low) in ap (λ m. flat_map (stores_of_file disks) (range_with_len k m)) more

-- the stores of the next file come next
pub rows-next : (disks k n : ℕ) (rest : List StoreSeen) → k < n → keys_of rest ≡ flat_map (stores_of_file disks) (range_with_len k (n - k)) → take disks (keys_of rest) ≡ stores_of_file disks k
rows-next disks k n rest low keys =
    ap (take disks) (keys ∙ rows-first disks k n low) ∙ take_at (stores_of_file disks k) (flat_map (stores_of_file disks) (range_with_len (k + 1) (n - (k + 1)))) disks (length-disks disks k)

-- what stands behind the stores of a file
rows-rest : (all stores rest : List StoreSeen) (first last : List StoreKey) → all ≡ stores ++ rest → keys_of all ≡ first ++ last → keys_of stores ≡ first → keys_of rest ≡ last
rows-rest all stores rest first last is keys mine =
    append_cancel_left first (keys_of rest) last
    (ap (λ (l : List StoreKey). l ++ keys_of rest) (sym mine) ∙ (sym (map-append (λ (s : StoreSeen). s.key) stores rest) ∙ (ap keys_of (sym is) ∙ keys)))

-- the stores of the files behind the next are to come
pub rows-left : (disks k n : ℕ) (all stores rest : List StoreSeen) → k < n → all ≡ stores ++ rest → keys_of all ≡ flat_map (stores_of_file disks) (range_with_len k (n - k)) → keys_of stores ≡ stores_of_file disks k
    → keys_of rest ≡ flat_map (stores_of_file disks) (range_with_len (k + 1) (n - (k + 1)))
rows-left disks k n all stores rest low is keys mine =
    rows-rest all stores rest (stores_of_file disks k) (flat_map (stores_of_file disks) (range_with_len (k + 1) (n - (k + 1)))) is (keys ∙ rows-first disks k n low) mine

-- no store is left
rows-none : (disks n : ℕ) (rest : List StoreSeen) → keys_of rest ≡ flat_map (stores_of_file disks) (range_with_len n (n - n)) → rest ≡ []
rows-none disks n rest keys =
    let none : n - n ≡ 0 = omega arith in
    let empty = ap length (keys ∙ ap (λ m. flat_map (stores_of_file disks) (range_with_len n m)) none) in
    let same = length-map rest (λ (s : StoreSeen). s.key) in
    nil_from_length rest (omega (arith, empty, same))

-- all stores are parted
pub parted : (disks n : ℕ) (files : List FileSeen) (stores rest : List StoreSeen) → length files ≡ n → keys_of rest ≡ flat_map (stores_of_file disks) (range_with_len (length files) (n - length files)) → stores ≡ stores_in files ++ rest → stores_in files ≡ stores
parted disks n files stores rest many keys is =
    let none = rows-none disks n rest (keys ∙ ap (λ m. flat_map (stores_of_file disks) (range_with_len m (n - m))) many) in
    sym (is ∙ (ap (λ (l : List StoreSeen). stores_in files ++ l) none ∙ append-nil (stores_in files)))

-- the stores of one file are all that were taken
pub one-file : (disks file : ℕ) (stores mine rest : List StoreSeen) → stores ≡ mine ++ rest → keys_of stores ≡ stores_of_file disks file → keys_of mine ≡ stores_of_file disks file → mine ≡ stores
one-file disks file stores mine rest is keys same =
    let none : keys_of rest ≡ [] = rows-rest stores mine rest (stores_of_file disks file) [] is (keys ∙ sym (append-nil (stores_of_file disks file))) same in
    let empty = ap length none in
    let many = length-map rest (λ (s : StoreSeen). s.key) in
    sym (is ∙ (ap (λ (l : List StoreSeen). mine ++ l) (nil_from_length rest (omega (arith, empty, many))) ∙ append-nil mine))

-- all stores of some files, and of one more
pub stores-more : (files : List FileSeen) (f : FileSeen) → stores_in (files ++ f ∷ []) ≡ stores_in files ++ f.stores
stores-more [] f = append-nil f.stores
stores-more (g ∷ files) f = ap (λ (l : List StoreSeen). g.stores ++ l) (stores-more files f) ∙ sym (append_assoc g.stores (stores_in files) f.stores)

stores-joined : (files more : List FileSeen) → stores_in (files ++ more) ≡ stores_in files ++ stores_in more
stores-joined [] more = refl
stores-joined (g ∷ files) more = ap (λ (l : List StoreSeen). g.stores ++ l) (stores-joined files more) ∙ sym (append_assoc g.stores (stores_in files) (stores_in more))

-- the first of some files and the next have no more stores than all
pub part-of : (all files : List FileSeen) (f : FileSeen) → length files < length all → f ≡ get_or all (length files) f → files ≡ take (length files) all → length (stores_in files) + length f.stores ≤ length (stores_in all)
part-of all files f low is so_far =
    let k = length files in
    let next : take (k + 1) all ≡ files ++ f ∷ [] = take_more all k f low ∙ (ap (λ (x : FileSeen). take k all ++ x ∷ []) (sym is) ∙ ap (λ (l : List FileSeen). l ++ f ∷ []) (sym so_far)) in
    let first : stores_in (take (k + 1) all) ≡ stores_in files ++ f.stores = ap stores_in next ∙ stores-more files f in
    let whole = ap length (ap stores_in (sym (take-append-drop (k + 1) all)) ∙ stores-joined (take (k + 1) all) (drop (k + 1) all)) in
    let parts = length-append (stores_in (take (k + 1) all)) (stores_in (drop (k + 1) all)) in
    let long = ap length first in
    let both = length-append (stores_in files) f.stores in
    omega (arith, whole, parts, long, both)

-- a place among the stores of some files
pub record Placed (files : List FileSeen) (s : StoreSeen) : Type 0 where
  pub place : ℕ
  pub disk : ℕ
  pub file : FileSeen
  pub there : slice_get files place ≡ Some file
  pub here : slice_get file.stores disk ≡ Some s

pub placed : (files : List FileSeen) (at : ℕ) (s : StoreSeen) → slice_get (stores_in files) at ≡ Some s → Placed files s
placed [] at s e = absurd (no-item at s e)
placed (f ∷ files) at s e =
    ⊎_elim
    (λ l. record { place = 0; disk = at; file = f; there = refl; here = l })
    (λ r. let more = placed files (at - length f.stores) s r.1 in record { place = suc more.place; disk = more.disk; file = more.file; there = more.there; here = more.here })
    (at-joined f.stores (stores_in files) at s e)

-- a store of a file stands among the stores of all
pub among : (files : List FileSeen) (k disk : ℕ) (f : FileSeen) (s : StoreSeen) → slice_get files k ≡ Some f → slice_get f.stores disk ≡ Some s → (at : ℕ) × (slice_get (stores_in files) at ≡ Some s)
among [] k disk f s there here = absurd (no-item k f there)
among (g ∷ files) zero disk f s there here =
    let is : slice_get g.stores disk ≡ Some s = subst (λ (x : FileSeen). slice_get x.stores disk ≡ Some s) (sym (some-is g f there)) here in
    (disk, at-longer g.stores (stores_in files) disk s is)
among (g ∷ files) (suc k) disk f s there here = let more = among files k disk f s there here in (length g.stores + more.0, at-behind g.stores (stores_in files) more.0 s more.1)

-- where a store stands by its key
pub record InFile (mount : Mount) (files : List FileSeen) (s : StoreSeen) : Type 0 where
  pub file : FileSeen
  pub is : IsFile mount file
  pub there : slice_get files s.key.file ≡ Some file
  pub here : slice_get file.stores s.key.disk ≡ Some s

-- a store of some files of a stack is a file's, on a disk
pub in-file : (mount : Mount) (files : List FileSeen) → EachAt (λ at f. (f.file ≡ at) × IsFile mount f) files → (at : ℕ) (s : StoreSeen) → slice_get (stores_in files) at ≡ Some s → InFile mount files s
in-file mount files each at s e =
    let p = placed files at s e in
    let f = each p.place p.file p.there in
    let key : slice_get (stores_of_file (length mount.disks) p.file.file) p.disk ≡ Some s.key = subst (λ (l : List StoreKey). slice_get l p.disk ≡ Some s.key) f.1.keys (to-map (λ (x : StoreSeen). x.key) p.file.stores p.disk s p.here) in
    let is = (in-disks (length mount.disks) p.file.file p.disk s.key key).0 in
    record {
      file = p.file;
      is = f.1;
      there = ap (λ n. slice_get files n) (ap (λ (k : StoreKey). k.file) is ∙ f.0) ∙ p.there;
      here = ap (λ n. slice_get p.file.stores n) (ap (λ (k : StoreKey). k.disk) is) ∙ p.here;
    }

keys-files : (disks from : ℕ) (files : List FileSeen) → EachAt (λ at f. keys_of f.stores ≡ stores_of_file disks (from + at)) files → keys_of (stores_in files) ≡ flat_map (stores_of_file disks) (range_with_len from (length files))
keys-files disks from [] each = refl
keys-files disks from (f ∷ files) each =
    let same : from + 0 ≡ from = omega arith in
    let first : keys_of f.stores ≡ stores_of_file disks from = each 0 f refl ∙ ap (stores_of_file disks) same in
    let rest : keys_of (stores_in files) ≡ flat_map (stores_of_file disks) (range_with_len (from + 1) (length files)) =
    keys-files disks (from + 1) files (λ at g is. let next : from + suc at ≡ from + 1 + at = omega arith in each (suc at) g is ∙ ap (stores_of_file disks) next) in
    map-append (λ (s : StoreSeen). s.key) f.stores (stores_in files) ∙ (ap (λ (l : List StoreKey). l ++ keys_of (stores_in files)) first ∙ ap (λ (l : List StoreKey). stores_of_file disks from ++ l) rest)

-- which stores those of all files of a stack are
pub keys-in : (mount : Mount) (files : List FileSeen) → EachAt (λ at f. (f.file ≡ at) × IsFile mount f) files → length files ≡ length mount.files → keys_of (stores_in files) ≡ stores_of mount
keys-in mount files each many =
    keys-files (length mount.disks) 0 files (λ at f is. let one = each at f is in let place = one.0 in let same : f.file ≡ 0 + at = omega (arith, place) in one.1.keys ∙ ap (stores_of_file (length mount.disks)) same)
    ∙ ap (λ n. flat_map (stores_of_file (length mount.disks)) (range_with_len 0 n)) many

-- the stores that were taken, parted by their files
pub files-are : (mount : Mount) (files : List FileSeen) (stores : List StoreSeen) → EachAt (λ at store. IsFit mount store) stores → stores_in files ≡ stores → (at : ℕ) (f : FileSeen) → slice_get files at ≡ Some f
    → EachAt (λ disk store. IsFit mount store) f.stores
files-are mount files stores fit all at f there disk s here =
    let found = among files at disk f s there here in
    fit found.0 s (subst (λ (l : List StoreSeen). slice_get l found.0 ≡ Some s) all found.1)

pairs-joined : (P : StoreSeen → StoreSeen → Type 0) (olds news old_rest new_rest : List StoreSeen) → ArePairs P olds news → ArePairs P old_rest new_rest → ArePairs P (olds ++ old_rest) (news ++ new_rest)
pairs-joined P olds news old_rest new_rest first last =
    let same = first.number in
    let more = last.number in
    let old_long = length-append olds old_rest in
    let new_long = length-append news new_rest in
    record {
      number = omega (arith, same, more, old_long, new_long);
      each = λ at old new io in_.
          ⊎_elim
          (λ early. ⊎_elim (λ l. first.each at old new early l) (λ r. absurd (let low = slice_get_within olds at old early in let past = r.0 in omega (arith, low, past, same))) (at-joined news new_rest at new in_))
          (λ late. ⊎_elim (λ l. absurd (let low = slice_get_within news at new l in let past = late.0 in omega (arith, low, past, same)))
          (λ r. last.each (at - length olds) old new late.1 (subst (λ n. slice_get new_rest (at - n) ≡ Some new) same r.1))
          (at-joined news new_rest at new in_)) (at-joined olds old_rest at old io);
    }

-- what holds of the stores of each file in pairs, holds of all
pub pairs-in : (P : StoreSeen → StoreSeen → Type 0) (olds news : List FileSeen) → length news ≡ length olds → AreFilePairs P olds news → ArePairs P (stores_in olds) (stores_in news)
pairs-in P [] [] many each = record { number = refl; each = λ at old new io in_. absurd (no-item at old io) }
pairs-in P [] (g ∷ news) many each = absurd (omega (arith, many))
pairs-in P (f ∷ olds) [] many each = absurd (omega (arith, many))
pairs-in P (f ∷ olds) (g ∷ news) many each =
    pairs-joined P f.stores g.stores (stores_in olds) (stores_in news) (each 0 f g refl refl) (pairs-in P olds news (omega (arith, many)) (λ k old new io in_. each (suc k) old new io in_))

-- they have the same keys
pub pairs-keys : (P : StoreSeen → StoreSeen → Type 0) (olds news : List StoreSeen) → ArePairs P olds news → keys_of news ≡ keys_of olds
pairs-keys P [] [] pairs = refl
pairs-keys P [] (n ∷ news) pairs = absurd (let many = pairs.number in omega (arith, many))
pairs-keys P (o ∷ olds) [] pairs = absurd (let many = pairs.number in omega (arith, many))
pairs-keys P (o ∷ olds) (n ∷ news) pairs =
    let many = pairs.number in
    let first : n.key ≡ o.key = (pairs.each 0 o n refl refl).0 in
    let rest : keys_of news ≡ keys_of olds = pairs-keys P olds news (record { number = omega (arith, many); each = λ at old new io in_. pairs.each (suc at) old new io in_ }) in
    ap (λ (k : StoreKey). k ∷ keys_of news) first ∙ ap (λ (l : List StoreKey). o.key ∷ l) rest

-- what became of stores of which each lasted
pub became-pairs : (olds news : List StoreSeen) → ArePairs Lasts olds news → Became olds news (StandsAt olds news)
became-pairs olds news pairs = record {
  keys = pairs-keys Lasts olds news pairs;
  each = λ at old new io in_.
      let lasts = (pairs.each at old new io in_).1 in
      record {
        becomes = (to-map (λ (s : StoreSeen). s.state) olds at old io, to-map (λ (s : StoreSeen). s.state) news at new in_);
        later = lasts.0;
        told = lasts.1;
      };
}

-- what became of the stores of files while they were out
pub became-files : (olds news : List FileSeen) → length news ≡ length olds → AreFilePairs Lasts olds news → Became (stores_in olds) (stores_in news) (StandsAt (stores_in olds) (stores_in news))
became-files olds news many each = became-pairs (stores_in olds) (stores_in news) (pairs-in Lasts olds news many each)

-- a file has a store on each disk
pub file-number : (mount : Mount) (f : FileSeen) → IsFile mount f → length f.stores ≡ length mount.disks
file-number mount f is = sym (length-map f.stores (λ (s : StoreSeen). s.key)) ∙ (ap length is.keys ∙ length-disks (length mount.disks) f.file)

-- the disks are few
pub short-file : (mount : Mount) (f : FileSeen) → IsFile mount f → length f.stores < 2 ^ 32
short-file mount f is =
    let few : length mount.disks ≤ MAX_DISKS = is.sound.few_disks in
    let many = file-number mount f is in
    omega (arith, few, many)

-- the stores of a file are as few after a run
pub short-after : (P : StoreSeen → StoreSeen → Type 0) (mount : Mount) (olds news : List FileSeen) → EachAt (λ at f. (f.file ≡ at) × IsFile mount f) olds → length news ≡ length olds → AreFilePairs P olds news
    → EachAt (λ at f. length f.stores < 2 ^ 32) news
short-after P mount olds news each many pairs at g here =
    let low = slice_get_within news at g here in
    let old = there olds at (omega (arith, low, many)) in
    let short = short-file mount old.0 (each at old.0 old.1).1 in
    let same = (pairs at old.0 g old.1 here).number in
    omega (arith, short, same)
