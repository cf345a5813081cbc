-- Looks at stores: one, and one after another.
use Rattle.std.proofs.Common.{◌≡◌, ℕ, ◌+◌, ◌≤◌, Bool, true, false, cond, List, [], ◌∷◌, ◌++◌, length, filter, None, refl, sym, ap, subst, ◌∙◌, arith, if◌then◌else◌, length-append}
use Rattle.std.proofs.lemmas.List.Elements.{filter-append}
use Rattle.stack_accept.specs.Mount.{Mount}
use Rattle.script_meaning.specs.declared.store.StoreKey.{StoreKey}
use Rattle.script_meaning.specs.Stack.{disk_name, file_name}
use Rattle.spr_io.specs.Berth.{Berth, Berths, BaySeen, lost}
use Rattle.file_stores.specs.Keys.{EachAt, IsStore, AreStores, image_shape, berth_of, SameOthers}
use Rattle.file_stores.specs.State.{StoreState, RoseBy}
use Rattle.file_stores.specs.Held.{StoreSeen}
use Rattle.file_stores.proofs.Lists.{at-longer, at-last, each-none, each-more, to-map, map-more}
use Rattle.file_stores.proofs.KeyLaws.{apart}
use Rattle.file_stores.proofs.HeldLaws.{berth-stays, other-of, same-more, rose-then}
use Rattle.image_looks.specs.declared.found.Look.{Look}
use Rattle.image_looks.specs.Found.{IsLook, is_refused, Looked, stores_at, AreLooks}

-- a store that is lost, behind a look
pub lost-at : (mount : Mount) (key : StoreKey) (held : StoreSeen) (before after : Berths) (disk file : List ℕ) (m n : ℕ) → key ≡ held.key → m ≡ held.state.faults → disk ≡ disk_name mount key.disk → file ≡ file_name mount key.file → m ≤ n
    → after disk file ≡ lost n (before disk file)
    → (x : StoreState) × held.state.faults ≤ x.faults × (after (disk_name mount held.key.disk) (file_name mount held.key.file) ≡ lost x.faults (before (disk_name mount held.key.disk) (file_name mount held.key.file)))
lost-at mount key held before after disk file m n is count d f later refused =
    let dd : disk ≡ disk_name mount held.key.disk = d ∙ ap (λ (k : StoreKey). disk_name mount k.disk) is in
    let ff : file ≡ file_name mount held.key.file = f ∙ ap (λ (k : StoreKey). file_name mount k.file) is in (
      record { content = None; faults = n },
      subst (λ i. i ≤ n) count later,
      subst (λ (x : List ℕ). after x (file_name mount held.key.file) ≡ lost n (before x (file_name mount held.key.file))) dd (subst (λ (y : List ℕ). after disk y ≡ lost n (before disk y)) ff refused),
    )

-- no store was looked at
pub looks-none : (mount : Mount) (bay : BaySeen) → AreLooks mount bay bay []
looks-none mount bay = record {
  each = each-none (λ (at : ℕ) (l : Look). IsLook (image_shape mount l.store) (berth_of mount l.store bay.berths) (berth_of mount l.store bay.berths) l.found);
  paid = omega arith;
  others = λ d f other. refl;
}

one-refused : (b : Bool) (l : Look) → length (cond b (l ∷ []) []) ≡ (if b then 1 else 0)
one-refused true l = refl
one-refused false l = refl

refused-more : (looks : List Look) (l : Look) → length (filter (λ x. is_refused x.found) (looks ++ l ∷ [])) ≡ length (filter (λ x. is_refused x.found) looks) + (if is_refused l.found then 1 else 0)
refused-more looks l =
    let p : Look → Bool = λ x. is_refused x.found in
    ap length (filter-append p looks (l ∷ [])) ∙ (length-append (filter p looks) (filter p (l ∷ [])) ∙ ap (λ n. length (filter p looks) + n) (one-refused (is_refused l.found) l))

-- one more store was looked at
pub looks-more : (mount : Mount) (before mid after : BaySeen) (looks : List Look) (l : Look) → AreStores mount (stores_at looks ++ l.store ∷ []) → AreLooks mount before mid looks → Looked mount mid after l
    → AreLooks mount before after (looks ++ l ∷ [])
looks-more mount before mid after looks l next are looked =
    let sound = next.sound in
    let keys : List StoreKey = stores_at looks in
    let far = apart mount keys l.store next in
    let store : IsStore mount l.store = next.each (length keys) l.store (at-last keys l.store) in
    let known : EachAt (λ at other. IsStore mount other) keys = λ at other is. next.each at other (at-longer keys (l.store ∷ []) at other is) in
    let same : berth_of mount l.store mid.berths ≡ berth_of mount l.store before.berths = are.others (disk_name mount l.store.disk) (file_name mount l.store.file) (other-of mount keys l.store sound known store far) in
    record {
      each = each-more (λ (at : ℕ) (x : Look). IsLook (image_shape mount x.store) (berth_of mount x.store before.berths) (berth_of mount x.store after.berths) x.found) looks l
          (λ at x is.
          let key = to-map (λ (y : Look). y.store) looks at x is in
          subst (λ (b : Berth). IsLook (image_shape mount x.store) (berth_of mount x.store before.berths) b x.found)
          (sym (berth-stays mount x.store l.store mid.berths after.berths sound (known at x.store key) store (far at x.store key) looked.others)) (are.each at x is))
          (subst (λ (b : Berth). IsLook (image_shape mount l.store) b (berth_of mount l.store after.berths) l.found) same looked.is);
      paid = subst (λ n. RoseBy n before.faults after.faults) (sym (refused-more looks l))
          (rose-then (length (filter (λ x. is_refused x.found) looks)) (if is_refused l.found then 1 else 0) before.faults mid.faults after.faults are.paid looked.paid);
      others = subst (λ (ks : List StoreKey). SameOthers mount ks before.berths after.berths) (sym (map-more (λ (x : Look). x.store) looks l)) (same-more mount keys l.store before.berths mid.berths after.berths are.others looked.others);
    }
