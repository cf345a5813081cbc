-- Stores of a stack, which differ in their names.
use Rattle.std.proofs.Common.{◌≡◌, ℕ, zero, suc, Bool, true, false, ◌||◌, ◌&&◌, cond, List, [], ◌∷◌, ◌++◌, length, map, take, ◌+◌, if◌then◌else◌, Some, refl, sym, ap, subst, ◌∙◌, arith}
use Rattle.std.specs.Prelude.{filter, ◌==◌}
use Rattle.std.proofs.lemmas.Option.{slice_get-get_or, slice_get_within}
use Rattle.std.proofs.lemmas.List.{append-nil, length-map}
use Rattle.std.proofs.lemmas.List.Folds.{list_any-append}
use Rattle.std.proofs.lemmas.List.Elements.{filter-append}
use Rattle.std.proofs.lemmas.Bool.{eqb-true, eq-eqb}
use Rattle.stack_accept.specs.Mount.{Mount}
use Rattle.stack_accept.specs.Sound.{IsMount}
use Rattle.stack_accept.specs.declared.entries.FileEntry.{FileEntry}
use Rattle.script_meaning.specs.declared.store.StoreKey.{StoreKey}
use Rattle.script_meaning.specs.Stack.{disk_name, file_name}
use Rattle.file_stores.specs.Keys.{EachAt, IsStore, AreStores, is_key, is_lost}
use Rattle.file_stores.proofs.Lists.{at-longer, at-last, at-taken, length-more}

or-true : (b : Bool) → (b || true) ≡ true
or-true true = refl
or-true false = refl

or-false : (b : Bool) → (b || false) ≡ b
or-false true = refl
or-false false = refl

-- a key is itself, and no other
pub key-self : (key : StoreKey) → is_key key key ≡ true
key-self key = rw (eq-eqb key.file key.file refl, eq-eqb key.disk key.disk refl) refl

and-left : (a b : Bool) → (a && b) ≡ true → a ≡ true
and-left true b e = refl
and-left false b e = cc

and-right : (a b : Bool) → (a && b) ≡ true → b ≡ true
and-right true b e = e
and-right false b e = cc

same-key : (a b : StoreKey) → a.file ≡ b.file → a.disk ≡ b.disk → a ≡ b
same-key a b f d = λ i. record { file = f i; disk = d i }

pub key-is : (a b : StoreKey) → is_key a b ≡ true → a ≡ b
key-is a b e = same-key a b (eqb-true a.file b.file (and-left (a.file == b.file) (a.disk == b.disk) e)) (eqb-true a.disk b.disk (and-right (a.file == b.file) (a.disk == b.disk) e))

no-true : (b : Bool) → (b ≡ true → ⊥) → b ≡ false
no-true true never = absurd (never refl)
no-true false never = refl

pub key-other : (a b : StoreKey) → (a ≡ b → ⊥) → is_key a b ≡ false
key-other a b differ = no-true (is_key a b) (λ e. differ (key-is a b e))

-- stores of the stack with equal names are one
pub key-named : (mount : Mount) (a b : StoreKey) → IsMount mount → IsStore mount a → IsStore mount b → disk_name mount a.disk ≡ disk_name mount b.disk → file_name mount a.file ≡ file_name mount b.file → a ≡ b
key-named mount a b sound sa sb disks files =
    let da = slice_get-get_or mount.disks a.disk [] sa.disk in
    let db = slice_get-get_or mount.disks b.disk [] sb.disk in
    let names : List (List ℕ) = map (λ (f : FileEntry). f.name) mount.files in
    let many : length names ≡ length mount.files = length-map mount.files (λ (f : FileEntry). f.name) in
    let low = sa.file in
    let high = sb.file in
    let fa = slice_get-get_or names a.file [] (omega (arith, many, low)) in
    let fb = slice_get-get_or names b.file [] (omega (arith, many, high)) in
    same-key a b (sound.file_names a.file b.file (file_name mount a.file) fa (fb ∙ ap Some (sym files))) (sound.disk_names a.disk b.disk (disk_name mount a.disk) da (db ∙ ap Some (sym disks)))

-- no store of the list is this one
abbrev pub IsApart : List StoreKey → StoreKey → Type 0
IsApart keys key = EachAt (λ at other. other ≡ key → ⊥) keys

-- the last of some stores is none of those before it
pub apart : (mount : Mount) (keys : List StoreKey) (key : StoreKey) → AreStores mount (keys ++ key ∷ []) → IsApart keys key
apart mount keys key stores at other is same =
    let e = stores.once at (length keys) key (at-longer keys (key ∷ []) at key (is ∙ ap Some same)) (at-last keys key) in
    let lt = slice_get_within keys at other is in
    omega (arith, e, lt)

pub stores-take : (mount : Mount) (n : ℕ) (keys : List StoreKey) → AreStores mount keys → AreStores mount (take n keys)
stores-take mount n keys stores = record {
  sound = stores.sound;
  each = λ at key is. stores.each at key (at-taken n keys at key is);
  once = λ a b key ia ib. stores.once a b key (at-taken n keys a key ia) (at-taken n keys b key ib);
}

-- a store that is apart is not among some of the others
pub not-lost : (keys : List StoreKey) (p : StoreKey → Bool) (key : StoreKey) → IsApart keys key → is_lost (filter p keys) key ≡ false
not-lost [] p key far = refl
not-lost (k ∷ keys) p key far =
    let rest : is_lost (filter p keys) key ≡ false = not-lost keys p key (λ at other is. far (suc at) other is) in
    elim (p k) as (λ b. is_lost (cond b (k ∷ filter p keys) (filter p keys)) key ≡ false) [ true ↦ rw (key-other key k (λ e. far zero k refl (sym e))) rest | false ↦ rest ]

-- tests that agree on each store of a list pick the same ones
pub filter-agree : (p q : StoreKey → Bool) (keys : List StoreKey) → EachAt (λ at key. p key ≡ q key) keys → filter p keys ≡ filter q keys
filter-agree p q [] agree = refl
filter-agree p q (k ∷ keys) agree =
    let first : p k ≡ q k = agree zero k refl in
    let rest : filter p keys ≡ filter q keys = filter-agree p q keys (λ at key is. agree (suc at) key is) in
    rw (first, rest) refl

-- which stores are lost after one more was given back, or was lost
pub record LostMore (keys lost lost_after : List StoreKey) (key : StoreKey) (gone : Bool) : Type 0 where
  pub older : (other : StoreKey) → (other ≡ key → ⊥) → is_lost lost_after other ≡ is_lost lost other
  pub self : is_lost lost_after key ≡ gone
  pub some : lost_after ≡ filter (is_lost lost_after) (keys ++ key ∷ [])
  pub long : length lost_after ≡ length lost + (if gone then 1 else 0)

pub lost-more : (keys lost : List StoreKey) (key : StoreKey) (gone : Bool) → IsApart keys key → lost ≡ filter (is_lost lost) keys → LostMore keys lost (if gone then lost ++ key ∷ [] else lost) key gone
lost-more keys lost key false far some =
    let self : is_lost lost key ≡ false = subst (λ (l : List StoreKey). is_lost l key ≡ false) (sym some) (not-lost keys (is_lost lost) key far) in
    record {
      older = λ other differs. refl;
      self = self;
      some = sym (filter-append (is_lost lost) keys (key ∷ []) ∙ (ap (λ (b : Bool). filter (is_lost lost) keys ++ cond b (key ∷ []) []) self ∙ (append-nil (filter (is_lost lost) keys) ∙ sym some)));
      long = omega arith;
    }
lost-more keys lost key true far some =
    let after : List StoreKey = lost ++ key ∷ [] in
    let self : is_lost after key ≡ true = list_any-append (is_key key) lost (key ∷ []) ∙ rw (key-self key) (or-true (is_lost lost key)) in
    let older : (other : StoreKey) → (other ≡ key → ⊥) → is_lost after other ≡ is_lost lost other = λ other differs. list_any-append (is_key other) lost (key ∷ []) ∙ rw (key-other other key differs) (or-false (is_lost lost other)) in
    record {
      older = older;
      self = self;
      some = sym (filter-append (is_lost after) keys (key ∷ [])
          ∙ (ap (λ (b : Bool). filter (is_lost after) keys ++ cond b (key ∷ []) []) self
          ∙ ap (λ (l : List StoreKey). l ++ key ∷ []) (filter-agree (is_lost after) (is_lost lost) keys (λ at other is. older other (far at other is)) ∙ sym some)));
      long = length-more lost key;
    }
