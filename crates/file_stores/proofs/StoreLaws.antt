-- What becomes of a file's stores: their counts never fall, and what tells what it holds goes on telling.
use Rattle.std.proofs.Common.{◌≡◌, ℕ, zero, suc, ◌≤◌, List, [], ◌∷◌, length, refl, sym, ap, subst, ◌∙◌, Option, Some, None, arith}
use Rattle.std.specs.Prelude.{is_some, slice_get, IfSome, IsSome}
use Rattle.spr_io.specs.Content.{Content}
use Rattle.stack_accept.specs.Mount.{Mount}
use Rattle.std.specs.List.Sorted.{IsPermutation}
use Rattle.stack_accept.specs.Plan.{Plan, disks_in, numbers_below}
use Rattle.disk_format.specs.declared.shape.ImageShape.{ImageShape}
use Rattle.mirror_rules.specs.Tree.{Seat}
use Rattle.mirror_rules.specs.Tree as machine
use Rattle.mirror_rules.specs.Claims.{Pairs, pairs_none, pairs_more, Has, has_here, has_later}
use Rattle.mirror_layer.specs.View.{Beside}
use Rattle.mirror_layer.specs.Ground.{Ground}
use Rattle.mirror_layer.specs.Stores.{Stored, stored, GivesBack}
use Rattle.mirror_layer.specs.Bringing.{Lies, lies, RefusedOver, refused, lacked, lacked_first}
use Rattle.mirror_layer.specs.declared.refuse.Refusal.{Refusal}
use Rattle.mirror_layer.proofs.NumberSteps.{numbers-each}
use Rattle.mirror_layer.proofs.BringSteps.{lies-ordered}
use Rattle.file_stores.specs.declared.stop.Stop.{Stop}
use Rattle.mirror_layer.specs.declared.refuse.Refusal.TheVariants as whys
use Rattle.file_stores.specs.declared.stop.Stop.TheVariants as stops
use Rattle.file_stores.specs.State.{StoreState}
use Rattle.script_meaning.specs.declared.store.StoreKey.{StoreKey}
use Rattle.file_stores.specs.Keys.{stores_of_file}
use Rattle.file_stores.specs.Held.{StoreSeen, keys_of}
use Rattle.file_stores.proofs.FileLaws.{file-number}
use Rattle.file_stores.proofs.Lists.{some-is, no-item}
use Rattle.file_stores.specs.Files.{ArePairs, FileSeen, IsFile, Lasts}
use Rattle.file_stores.specs.WholeDisk.{Alone}
use Rattle.file_stores.specs.Under.{One, Many}
use Rattle.mirror_layer.specs.declared.came.Notice.{Notice}
use Rattle.file_stores.specs.Opening.{content_of, faults_of, shape_of_file, IsOpened, IsLeft, IsUnopened, unopened_one, unopened_many, IsUnopenedOne}
use Rattle.file_stores.proofs.GroundLists.{get-nth, same-item, get-within}

-- as many stores go back as came
pub refused-number : {T : Type 0} {content : T → Option Content} {faults : T → ℕ} {shape : ImageShape} {stores after : List T} {plan : Plan} {why : Refusal} → IsPermutation (disks_in plan) (numbers_below (length stores))
    → RefusedOver content faults shape stores plan why after → length after ≡ length stores
refused-number plan (refused seen opens says reasoned blames lasting back) = back.many ∙ (lies-ordered seen.lies plan).many
refused-number plan (lacked b lying rests back) = back.many ∙ (lies-ordered lying plan).many
refused-number plan lacked_first = refl

-- each store lasts, at its place
pub record AllLast (olds news : List StoreSeen) : Type 0 where
  pub many : length news ≡ length olds
  pub each : (k : ℕ) (old new : StoreSeen) → slice_get olds k ≡ Some old → slice_get news k ≡ Some new → Lasts old new

key-at : (stores : List StoreSeen) (k : ℕ) (s : StoreSeen) → slice_get stores k ≡ Some s → slice_get (keys_of stores) k ≡ Some s.key
key-at [] k s is = absurd (no-item k s is)
key-at (x ∷ xs) zero s is = ap (λ (o : StoreSeen). Some o.key) (some-is x s is)
key-at (x ∷ xs) (suc k) s is = key-at xs k s is

-- and it is the same store
pub in-pairs : (olds news : List StoreSeen) → keys_of news ≡ keys_of olds → AllLast olds news → ArePairs Lasts olds news
in-pairs olds news keys last = record {
  number = last.many;
  each = λ k old new was is. (some-is new.key old.key (sym (key-at news k new is) ∙ (ap (λ (l : List StoreKey). slice_get l k) keys ∙ key-at olds k old was)), last.each k old new was is);
}

told-still : (a b : Option Content) → is_some b ≡ is_some a → IfSome a (λ _. IsSome b)
told-still None b e = tt
told-still (Some c) b e = e

told-self : (a : Option Content) → IfSome a (λ _. IsSome a)
told-self a = told-still a a refl

lasts-self : (stores : List StoreSeen) → AllLast stores stores
lasts-self stores = record {
  many = refl;
  each = λ k old new was is.
      let same : old ≡ new = same-item new (get-nth stores k old was) refl is in
      subst (λ (s : StoreSeen). Lasts old s) same ((omega arith, told-self old.state.content));
}

lasts-at : {shape : ImageShape} {olds news : List StoreSeen} {k : ℕ} {ns : List ℕ} {bs : List Beside} {ss : List machine.Store} (old new : StoreSeen)
    → Pairs (Lies content_of faults_of shape olds) ns bs → Pairs (Stored content_of faults_of news) bs ss → Has (λ n. n ≡ k) ns → slice_get olds k ≡ Some old → slice_get news k ≡ Some new → Lasts old new
lasts-at old new pairs_none pairs_none has was is = elim has [ ]
lasts-at old new (pairs_more {y = b} (lies {t = t} p e) h) (pairs_more (stored {t = u} q f told later) i) (has_here z) was is =
    let first : t ≡ old = same-item old p z was in
    let last : u ≡ new = same-item new q (ap (λ (v : Beside). v.disk) e ∙ z) is in
    let opened : b.opened ≡ old.state.faults = ap (λ (v : Beside). v.opened) e ∙ ap (λ (s : StoreSeen). s.state.faults) first in
    let count : u.state.faults ≡ new.state.faults = ap (λ (s : StoreSeen). s.state.faults) last in
    let tells : is_some new.state.content ≡ is_some old.state.content = ap (λ (s : StoreSeen). is_some s.state.content) (sym last) ∙ (told ∙ (ap (λ (v : Beside). v.told) e ∙ ap (λ (s : StoreSeen). is_some s.state.content) first)) in
    (omega (arith, opened, count, later), told-still old.state.content new.state.content tells)
lasts-at old new (pairs_more a h) (pairs_more b i) (has_later z) was is = lasts-at old new h i z was is

-- disks in mirrors were opened over a file's stores, and gave them back
back-lasts : {beside : List Beside} {row : List Seat} {after : List StoreSeen} (mount : Mount) (f : FileSeen) → IsFile mount f → Pairs (Lies content_of faults_of (shape_of_file mount f.file) f.stores) (disks_in mount.ground) beside → GivesBack content_of faults_of beside row after
    → AllLast f.stores after
back-lasts mount f is lying back =
    let number = file-number mount f is in
    let plan = subst (λ n. IsPermutation (disks_in mount.ground) (numbers_below n)) (sym number) is.sound.disks in
    record {
      many = back.many ∙ (lies-ordered lying plan).many;
      each = λ k old new was now. lasts-at old new lying back.stored (numbers-each (disks_in mount.ground) (length f.stores) plan k (get-within f.stores k old was)) was now;
    }

-- disks in mirrors were refused
refused-lasts : {why : Refusal} {after : List StoreSeen} (mount : Mount) (f : FileSeen) → IsFile mount f → RefusedOver content_of faults_of (shape_of_file mount f.file) f.stores mount.ground why after → AllLast f.stores after
refused-lasts mount f is (refused seen opens says reasoned blames lasting back) = back-lasts mount f is seen.lies back
refused-lasts mount f is (lacked b lying rests back) = back-lasts mount f is lying back
refused-lasts mount f is lacked_first = lasts-self f.stores

unopened-one-lasts : (mount : Mount) (old new : StoreSeen) (stop : Stop) → new.state.content ≡ old.state.content → IsUnopenedOne mount old new stop → Lasts old new
unopened-one-lasts mount old new stop content is = (later stop is, told-still old.state.content new.state.content (ap (λ (c : Option Content). is_some c) content))
  where
    later : (stop : Stop) → IsUnopenedOne mount old new stop → old.state.faults ≤ new.state.faults
    later (stops.Store key count) is = let above = is.1.above in let within = is.1.within in omega (arith, above, within)
    later (stops.Image key place why) is = let same = ap (λ (s : StoreState). s.faults) is.2 in omega (arith, same)
    later stops.Memory is = let same = ap (λ (s : StoreState). s.faults) is in omega (arith, same)
    later (stops.Bay key) is = absurd is

pub lasts-one : (old new : StoreSeen) (olds news : List StoreSeen) → olds ≡ old ∷ [] → news ≡ new ∷ [] → Lasts old new → AllLast olds news
lasts-one old new olds news was is lasts = rw (was, is) (record { many = refl; each = λ k x y at there. alone k x y at there })
  where
    alone : (k : ℕ) (x y : StoreSeen) → slice_get (old ∷ []) k ≡ Some x → slice_get (new ∷ []) k ≡ Some y → Lasts x y
    alone zero x y at there = subst (λ (s : StoreSeen). Lasts s y) (some-is old x at) (subst (λ (s : StoreSeen). Lasts old s) (some-is new y there) lasts)
    alone (suc k) x y at there = absurd (no-item k x at)

-- A FILE'S IMAGE WAS NOT OPENED: no store's count fell, and each tells what it holds if it did
pub unopened-lasts : (mount : Mount) (f g : FileSeen) (stop : Stop) → IsFile mount f → keys_of g.stores ≡ keys_of f.stores → IsUnopened mount f g stop → ArePairs Lasts f.stores g.stores
unopened-lasts mount f g stop is keys (unopened_one {old = old} {new = new} was left key content cause) = in-pairs f.stores g.stores keys (lasts-one old new f.stores g.stores was left (unopened-one-lasts mount old new stop content cause))
unopened-lasts mount f g stop is keys (unopened_many some over stopped) = in-pairs f.stores g.stores keys (refused-lasts mount f is over)

-- the keys of a closed file's stores are those with which it was opened
pub same-keys : (mount : Mount) (f g : FileSeen) → IsFile mount f → keys_of g.stores ≡ stores_of_file (length g.stores) f.file → length g.stores ≡ length f.stores → keys_of g.stores ≡ keys_of f.stores
same-keys mount f g is keys many = keys ∙ (ap (λ n. stores_of_file n f.file) (many ∙ file-number mount f is) ∙ sym is.keys)

-- A FILE WAS OPENED OVER DISKS IN MIRRORS, AND CLOSED
pub closed-lasts : (mount : Mount) (f g : FileSeen) (notices : List (Option Notice)) (first last : Ground) → IsFile mount f → IsOpened mount f notices (Many first) → keys_of g.stores ≡ stores_of_file (length g.stores) f.file → IsLeft (Many last) g → last.beside ≡ first.beside
    → ArePairs Lasts f.stores g.stores
closed-lasts mount f g notices first last is opened keys back same =
    let all = back-lasts mount f is opened.1.over.seen.lies (subst (λ bs. GivesBack content_of faults_of bs last.row g.stores) same back) in
    in-pairs f.stores g.stores (same-keys mount f g is keys all.many) all

-- A FILE WAS OPENED OVER A DISK, AND CLOSED: where the disk's count did not fall, and it tells what it holds if it did
pub alone-lasts : (mount : Mount) (f g : FileSeen) (notices : List (Option Notice)) (first last : Alone) → IsFile mount f → IsOpened mount f notices (One first) → keys_of g.stores ≡ stores_of_file (length g.stores) f.file → IsLeft (One last) g → first.disk.faults ≤ last.disk.faults
    → is_some last.disk.content ≡ is_some first.disk.content → ArePairs Lasts f.stores g.stores
alone-lasts mount f g notices first last is opened keys left later tells =
    let old = opened.0 in
    let new = left.0 in
    let calm = opened.2.calm in
    let count : new.state.faults ≡ last.disk.faults = ap (λ (s : StoreState). s.faults) left.2 in
    let told : is_some new.state.content ≡ is_some old.state.content = ap (λ (s : StoreState). is_some s.content) left.2 ∙ (tells ∙ ap (λ (c : Option Content). is_some c) opened.2.content) in
    let all = lasts-one old new f.stores g.stores opened.1 left.1 (omega (arith, calm, later, count), told-still old.state.content new.state.content told) in
    in-pairs f.stores g.stores (same-keys mount f g is keys all.many) all

-- a file is not opened where memory lacks for it
pub unopened-memory : (mount : Mount) (f : FileSeen) → IsFile mount f → IsUnopened mount f f stops.Memory
unopened-memory mount f is = by f.stores refl
  where
    by : (ss : List StoreSeen) → f.stores ≡ ss → IsUnopened mount f f stops.Memory
    by [] e = let none = ap (λ (l : List StoreSeen). length l) e in let all = file-number mount f is in let some = is.sound.some_disk in absurd (omega (arith, none, all, some))
    by (s ∷ []) e = unopened_one {old = s} {new = s} e e refl refl refl
    by (s ∷ t ∷ ss) e = let many = ap (λ (l : List StoreSeen). length l) e in unopened_many {why = whys.Memory} (omega (arith, many)) lacked_first refl
