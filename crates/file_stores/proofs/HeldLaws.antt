-- Stores that are out, one after another.
use Rattle.std.proofs.Common.{◌≡◌, ℕ, ◌+◌, ◌<◌, ◌≤◌, Bool, true, false, List, [], ◌∷◌, ◌++◌, length, take, get_or, refl, sym, ap, subst, ◌∙◌, arith, if◌then◌else◌}
use Rattle.std.specs.Prelude.{filter, slice_get, Some}
use Rattle.std.proofs.lemmas.List.{take_more}
use Rattle.stack_accept.specs.Mount.{Mount}
use Rattle.stack_accept.specs.Sound.{IsMount}
use Rattle.script_meaning.specs.declared.store.StoreKey.{StoreKey}
use Rattle.script_meaning.specs.Stack.{disk_name, file_name}
use Rattle.spr_io.specs.Berth.{Berth, Berths, BaySeen, Opens, taken, SameElsewhere, SameBerths}
use Rattle.disk_format.specs.Shape.{blocks_of}
use Rattle.file_stores.specs.Keys.{EachAt, IsStore, AreStores, image_shape, berth_of, is_lost, IsOther, SameOthers}
use Rattle.file_stores.specs.State.{StoreState, BackFrom, RoseBy}
use Rattle.file_stores.specs.declared.stop.Stop.{Stop}
use Rattle.file_stores.specs.declared.stop.Stop.TheVariants as stops
use Rattle.file_stores.specs.Held.{StoreSeen, keys_of, Took, IsOut, AreOut, IsUntaken, Gave, AreGiven}
use Rattle.std.proofs.lemmas.Option.{slice_get_within}
use Rattle.file_stores.proofs.Lists.{at-longer, at-last, each-none, each-more, to-map, map-more, map-take, length-more}
use Rattle.file_stores.proofs.KeyLaws.{key-named, IsApart, apart, LostMore, lost-more}

-- the berth of a store does not change with that of another
pub berth-stays : (mount : Mount) (a b : StoreKey) (before after : Berths) → IsMount mount → IsStore mount a → IsStore mount b → (a ≡ b → ⊥) → SameElsewhere (disk_name mount b.disk) (file_name mount b.file) before after
    → berth_of mount a after ≡ berth_of mount a before
berth-stays mount a b before after sound sa sb differ same = same (disk_name mount a.disk) (file_name mount a.file) (λ d f. differ (key-named mount a b sound sa sb d f))

-- a store that is apart has other names
pub other-of : (mount : Mount) (keys : List StoreKey) (key : StoreKey) → IsMount mount → EachAt (λ at other. IsStore mount other) keys → IsStore mount key → IsApart keys key
    → IsOther mount keys (disk_name mount key.disk) (file_name mount key.file)
other-of mount keys key sound stores store far at other is d f = far at other is (key-named mount other key sound (stores at other is) store (sym d) (sym f))

-- no berth but those of some stores, and of one more, changed
pub same-more : (mount : Mount) (keys : List StoreKey) (key : StoreKey) (before mid after : Berths) → SameOthers mount keys before mid → SameElsewhere (disk_name mount key.disk) (file_name mount key.file) mid after
    → SameOthers mount (keys ++ key ∷ []) before after
same-more mount keys key before mid after first last d f other =
    last d f (λ dk fk. other (length keys) key (at-last keys key) dk fk) ∙ first d f (λ at k is. other at k (at-longer keys (key ∷ []) at k is))

pub same-then : (mount : Mount) (keys : List StoreKey) (before mid after : Berths) → SameOthers mount keys before mid → SameOthers mount keys mid after → SameOthers mount keys before after
same-then mount keys before mid after first last d f other = last d f other ∙ first d f other

-- no store is out yet
pub out-none : (mount : Mount) (bay : BaySeen) → AreOut mount bay bay []
out-none mount bay = record {
  each = each-none (λ (at : ℕ) (s : StoreSeen). IsOut mount bay bay s);
  others = λ d f other. refl;
}

-- one more store was taken
pub out-more : (mount : Mount) (before mid after : BaySeen) (stores : List StoreSeen) (s : StoreSeen) → AreStores mount (keys_of stores ++ s.key ∷ []) → AreOut mount before mid stores → Took mount mid after s
    → AreOut mount before after (stores ++ s ∷ [])
out-more mount before mid after stores s next out took =
    let sound = next.sound in
    let keys : List StoreKey = keys_of stores in
    let far = apart mount keys s.key next in
    let store : IsStore mount s.key = next.each (length keys) s.key (at-last keys s.key) in
    let known : EachAt (λ at other. IsStore mount other) keys = λ at other is. next.each at other (at-longer keys (s.key ∷ []) at other is) in
    let same : berth_of mount s.key mid.berths ≡ berth_of mount s.key before.berths = out.others (disk_name mount s.key.disk) (file_name mount s.key.file) (other-of mount keys s.key sound known store far) in
    record {
      each = each-more (λ (at : ℕ) (x : StoreSeen). IsOut mount before after x) stores s
          (λ at x is.
          let old = out.each at x is in
          let key = to-map (λ (y : StoreSeen). y.key) stores at x is in
          record {
            lay = old.lay;
            berth = berth-stays mount x.key s.key mid.berths after.berths sound (known at x.key key) store (far at x.key key) took.others ∙ old.berth;
            fits = old.fits;
          })
          (record {
            lay = record {
              was_in = ap (λ (b : Berth). b.out) (sym same) ∙ took.lay.was_in;
              opens = subst (λ (b : Berth). Opens mount.page_size (blocks_of (image_shape mount s.key)) b.holds s.state.content) same took.lay.opens;
              count = took.lay.count ∙ ap (λ (b : Berth). b.faults) same;
            };
            berth = took.berth ∙ ap taken same;
            fits = took.fits;
          });
      others = subst (λ (ks : List StoreKey). SameOthers mount ks before.berths after.berths) (sym (map-more (λ (x : StoreSeen). x.key) stores s)) (same-more mount keys s.key before.berths mid.berths after.berths out.others took.others);
    }

-- the bay refused the next store
pub out-same : (mount : Mount) (before mid after : BaySeen) (stores : List StoreSeen) → AreOut mount before mid stores → SameBerths mid.berths after.berths → AreOut mount before after stores
out-same mount before mid after stores out same = record {
  each = λ at s is.
      let old = out.each at s is in
      record { lay = old.lay; berth = same (disk_name mount s.key.disk) (file_name mount s.key.file) ∙ old.berth; fits = old.fits };
  others = λ d f other. same d f ∙ out.others d f other;
}

-- no store was given back yet
pub given-none : (mount : Mount) (bay : BaySeen) → AreGiven mount bay bay [] []
given-none mount bay = record {
  each = each-none (λ (at : ℕ) (s : StoreSeen). BackFrom (berth_of mount s.key bay.berths) (berth_of mount s.key bay.berths) (is_lost [] s.key) s.state);
  some = refl;
  paid = omega arith;
  others = λ d f other. refl;
}

pub rose-then : (a b x y z : ℕ) → RoseBy a x y → RoseBy b y z → RoseBy (a + b) x z
rose-then a b x y z first next = omega (arith, first, next)

-- a store that came back, or was lost, told otherwise
back-again : (out out2 after after2 : Berth) (gone gone2 : Bool) (state : StoreState) → out ≡ out2 → after ≡ after2 → gone ≡ gone2 → BackFrom out after gone state → BackFrom out2 after2 gone2 state
back-again out out2 after after2 gone gone2 state o a g back =
    subst (λ (b : Berth). BackFrom b after2 gone2 state) o (subst (λ (b : Berth). BackFrom out b gone2 state) a (subst (λ (b : Bool). BackFrom out after b state) g back))

-- one more store was given back, or was lost
pub given-more : (mount : Mount) (before mid after : BaySeen) (stores : List StoreSeen) (lost lost_after : List StoreKey) (s : StoreSeen) → AreStores mount (keys_of stores ++ s.key ∷ []) → AreGiven mount before mid stores lost
    → Gave mount mid after lost lost_after s → AreGiven mount before after (stores ++ s ∷ []) lost_after
given-more mount before mid after stores lost lost_after s next given gave =
    let sound = next.sound in
    let keys : List StoreKey = keys_of stores in
    let far = apart mount keys s.key next in
    let store : IsStore mount s.key = next.each (length keys) s.key (at-last keys s.key) in
    let known : EachAt (λ at other. IsStore mount other) keys = λ at other is. next.each at other (at-longer keys (s.key ∷ []) at other is) in
    let same : berth_of mount s.key mid.berths ≡ berth_of mount s.key before.berths = given.others (disk_name mount s.key.disk) (file_name mount s.key.file) (other-of mount keys s.key sound known store far) in
    let more : LostMore keys lost lost_after s.key gave.gone = subst (λ (l : List StoreKey). LostMore keys lost l s.key gave.gone) (sym gave.list) (lost-more keys lost s.key gave.gone far given.some) in
    let all : keys_of (stores ++ s ∷ []) ≡ keys ++ s.key ∷ [] = map-more (λ (x : StoreSeen). x.key) stores s in
    record {
      each = each-more (λ (at : ℕ) (x : StoreSeen). BackFrom (berth_of mount x.key before.berths) (berth_of mount x.key after.berths) (is_lost lost_after x.key) x.state) stores s
          (λ at x is.
          let key = to-map (λ (y : StoreSeen). y.key) stores at x is in
          back-again (berth_of mount x.key before.berths) (berth_of mount x.key before.berths) (berth_of mount x.key mid.berths) (berth_of mount x.key after.berths) (is_lost lost x.key) (is_lost lost_after x.key) x.state
          refl (sym (berth-stays mount x.key s.key mid.berths after.berths sound (known at x.key key) store (far at x.key key) gave.others)) (sym (more.older x.key (far at x.key key))) (given.each at x is))
          (back-again (berth_of mount s.key mid.berths) (berth_of mount s.key before.berths) (berth_of mount s.key after.berths) (berth_of mount s.key after.berths) gave.gone (is_lost lost_after s.key) s.state same refl (sym more.self) gave.back);
      some = more.some ∙ ap (λ (ks : List StoreKey). filter (is_lost lost_after) ks) (sym all);
      paid = subst (λ n. RoseBy n before.faults after.faults) (sym more.long) (rose-then (length lost) (if gave.gone then 1 else 0) before.faults mid.faults after.faults given.paid gave.paid);
      others = subst (λ (ks : List StoreKey). SameOthers mount ks before.berths after.berths) (sym all) (same-more mount keys s.key before.berths mid.berths after.berths given.others gave.others);
    }

-- the list of the lost stores grows by one store at most
pub list-long : (lost lost_after : List StoreKey) (key : StoreKey) (gone : Bool) → lost_after ≡ (if gone then lost ++ key ∷ [] else lost) → length lost_after ≤ length lost + 1
list-long lost lost_after key true e = let more = ap length e ∙ length-more lost key in omega (arith, more)
list-long lost lost_after key false e = let same = ap length e in omega (arith, same)

-- the store that comes next in a list
pub keys-next : (all stores : List StoreSeen) (held : StoreSeen) → length stores < length all → held ≡ get_or all (length stores) held → stores ≡ take (length stores) all
    → keys_of stores ++ held.key ∷ [] ≡ take (length stores + 1) (keys_of all)
keys-next all stores held lt is so_far =
    let next : take (length stores + 1) all ≡ take (length stores) all ++ held ∷ [] = take_more all (length stores) held lt ∙ ap (λ (s : StoreSeen). take (length stores) all ++ s ∷ []) (sym is) in
    let all_keys : keys_of (take (length stores + 1) all) ≡ take (length stores + 1) (keys_of all) = map-take (λ (s : StoreSeen). s.key) (length stores + 1) all in
    sym (map-more (λ (s : StoreSeen). s.key) stores held) ∙ (ap (λ (l : List StoreSeen). keys_of (l ++ held ∷ [])) so_far ∙ (ap keys_of (sym next) ∙ all_keys))

-- why the next of some stores was not taken
pub untaken-next : (keys : List StoreKey) (number : ℕ) (key : StoreKey) (before mid after : BaySeen) (stop : Stop) → slice_get keys number ≡ Some key → mid.faults ≡ before.faults → IsUntaken (key ∷ []) 0 mid after stop
    → IsUntaken keys number before after stop
untaken-next keys number key before mid after (stops.Bay store) here calm untaken = let rose = untaken.1 in (here ∙ untaken.0, omega (arith, calm, rose))
untaken-next keys number key before mid after stops.Memory here calm untaken = untaken ∙ calm
untaken-next keys number key before mid after (stops.Store store count) here calm untaken = absurd untaken
untaken-next keys number key before mid after (stops.Image store place why) here calm untaken = absurd untaken

-- one store
pub one-store : (mount : Mount) (key : StoreKey) → IsMount mount → IsStore mount key → AreStores mount (key ∷ [])
one-store mount key sound store = record {
  sound = sound;
  each = each-more (λ (at : ℕ) (k : StoreKey). IsStore mount k) [] key (each-none (λ (at : ℕ) (k : StoreKey). IsStore mount k)) store;
  once = λ a b k ia ib. let la = slice_get_within (key ∷ []) a k ia in let lb = slice_get_within (key ∷ []) b k ib in omega (arith, la, lb);
}

-- one store was taken
pub out-one : (mount : Mount) (before after : BaySeen) (s : StoreSeen) → AreStores mount (s.key ∷ []) → Took mount before after s → AreOut mount before after (s ∷ [])
out-one mount before after s next took = out-more mount before before after [] s next (out-none mount before) took

-- one store was given back
pub given-one : (mount : Mount) (before after : BaySeen) (lost : List StoreKey) (s : StoreSeen) → AreStores mount (s.key ∷ []) → Gave mount before after [] lost s → AreGiven mount before after (s ∷ []) lost
given-one mount before after lost s next gave = given-more mount before before after [] [] lost s next (given-none mount before) gave
