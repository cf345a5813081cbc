-- Stores that were taken, and came back.
use Rattle.std.proofs.Common.{◌≡◌, ⊎_elim, ℕ, ◌<◌, ◌≤◌, List, [], ◌∷◌, ◌++◌, length, take, Option, Some, None, IfSome, refl, sym, ap, subst, ◌∙◌, arith}
use Rattle.std.specs.Prelude.{slice_get, IsSome, filter}
use Rattle.std.proofs.lemmas.List.{length-map}
use Rattle.std.proofs.lemmas.Option.{slice_get_within}
use Rattle.stack_accept.specs.Mount.{Mount}
use Rattle.script_meaning.specs.declared.store.StoreKey.{StoreKey}
use Rattle.spr_io.specs.Content.{Content}
use Rattle.spr_io.specs.Berth.{Berth, BaySeen, taken}
use Rattle.file_stores.specs.declared.stop.Stop.{Stop}
use Rattle.file_stores.specs.declared.stop.Stop.TheVariants as stops
use Rattle.file_stores.specs.Keys.{berth_of, is_lost, SameOthers}
use Rattle.file_stores.specs.State.{StoreState, Lay, BackFrom, Turned, Returned, RoseBy, AsTaken}
use Rattle.file_stores.specs.Held.{StoreSeen, keys_of, AreOut, IsUntaken, AreGiven, BecameOne, Became}
use Rattle.file_stores.specs.Stops.{OutOfMemory, Untaken}
use Rattle.file_stores.proofs.Lists.{some-is, no-item, there, at-more, map-more, from-map, to-map}
use Rattle.file_stores.proofs.HeldLaws.{same-then, rose-then}

-- a store that was taken came back, or is lost
turned-of : (mount : Mount) (before mid after : BaySeen) (old new : StoreSeen) (key : StoreKey) (lost : List StoreKey) (P : StoreKey → StoreState → StoreState → Type 0) → old.key ≡ key → new.key ≡ old.key
    → Lay mount before old.key old.state → berth_of mount old.key mid.berths ≡ taken (berth_of mount old.key before.berths) → BecameOne old.state new.state (P old.key)
    → BackFrom (berth_of mount new.key mid.berths) (berth_of mount new.key after.berths) (is_lost lost new.key) new.state → Turned mount before after key (is_lost lost key) (P key)
turned-of mount before mid after old new key lost P is same lay out became back =
    let here : BackFrom (berth_of mount old.key mid.berths) (berth_of mount old.key after.berths) (is_lost lost old.key) new.state =
    subst (λ (k : StoreKey). BackFrom (berth_of mount k mid.berths) (berth_of mount k after.berths) (is_lost lost k) new.state) same back in
    subst (λ (k : StoreKey). Turned mount before after k (is_lost lost k) (P k)) is
    (record {
      old = old.state;
      lay = lay;
      new = new.state;
      becomes = became.becomes;
      later = became.later;
      told = became.told;
      back = subst (λ (b : Berth). BackFrom b (berth_of mount old.key after.berths) (is_lost lost old.key) new.state) out here;
    })

rose-more : (n x y z : ℕ) → RoseBy 0 x y → RoseBy n y z → RoseBy n x z
rose-more n x y z first next = omega (arith, first, next)

-- as many stores as before
pub became-number : (P : ℕ → StoreKey → StoreState → StoreState → Type 0) (olds news : List StoreSeen) → Became olds news P → length news ≡ length olds
became-number P olds news became = sym (length-map news (λ (s : StoreSeen). s.key)) ∙ (ap length became.keys ∙ length-map olds (λ (s : StoreSeen). s.key))

-- the stores that were taken came back, but for those that are lost
pub returned-of : (mount : Mount) (before mid after : BaySeen) (olds news : List StoreSeen) (lost : List StoreKey) (P : ℕ → StoreKey → StoreState → StoreState → Type 0) → AreOut mount before mid olds
    → RoseBy 0 before.faults mid.faults → Became olds news P → AreGiven mount mid after news lost → Returned mount before after (keys_of olds) lost P
returned-of mount before mid after olds news lost P out calm became given = record {
  each = λ at key is.
      let old = from-map (λ (s : StoreSeen). s.key) olds at key is in
      let within = slice_get_within olds at old.0 old.1 in
      let many : length news ≡ length olds = became-number P olds news became in
      let new = there news at (omega (arith, within, many)) in
      let same : (new.0).key ≡ (old.0).key =
      some-is (new.0).key (old.0).key
      (sym (to-map (λ (s : StoreSeen). s.key) news at new.0 new.1) ∙ (ap (λ (ks : List StoreKey). slice_get ks at) became.keys ∙ to-map (λ (s : StoreSeen). s.key) olds at old.0 old.1)) in
      let was = out.each at old.0 old.1 in
      turned-of mount before mid after old.0 new.0 key lost (P at) old.2 same was.lay was.berth (became.each at old.0 new.0 old.1 new.1) (given.each at new.0 new.1);
  some = subst (λ (ks : List StoreKey). lost ≡ filter (is_lost lost) ks) became.keys given.some;
  paid = rose-more (length lost) before.faults mid.faults after.faults calm given.paid;
  others = same-then mount (keys_of olds) before.berths mid.berths after.berths out.others (subst (λ (ks : List StoreKey). SameOthers mount ks mid.berths after.berths) became.keys given.others);
}

told-self : (content : Option Content) → IfSome content (λ _. IsSome content)
told-self None = tt
told-self (Some c) = refl

-- stores with which nothing was done
pub became-same : (stores : List StoreSeen) → Became stores stores AsTaken
became-same stores = record {
  keys = refl;
  each = λ at old new io in_.
      let same : old ≡ new = some-is old new (sym io ∙ in_) in
      record {
        becomes = ap (λ (s : StoreSeen). s.state) (sym same);
        later = subst (λ (s : StoreSeen). old.state.faults ≤ s.state.faults) same (omega arith);
        told = subst (λ (s : StoreSeen). IfSome old.state.content (λ _. IsSome s.state.content)) same (told-self old.state.content);
      };
}

-- a command that could not take all stores
pub stops-taking : (mount : Mount) (before mid after : BaySeen) (keys lost : List StoreKey) (stores : List StoreSeen) (stop : Stop) → AreOut mount before mid stores → keys_of stores ≡ take (length stores) keys
    → IsUntaken keys (length stores) before mid stop → AreGiven mount mid after stores lost → Untaken mount before after keys lost stop
stops-taking mount before mid after keys lost stores (stops.Bay key) out first untaken given =
    let calm : RoseBy 0 before.faults mid.faults = let r = untaken.1 in omega (arith, r) in
    record {
      number = length stores;
      is = untaken.0;
      back = subst (λ (ks : List StoreKey). Returned mount before after ks lost AsTaken) first (returned-of mount before mid after stores stores lost AsTaken out calm (became-same stores) given);
      fault = subst (λ n. RoseBy n before.faults after.faults) (omega arith) (rose-then 1 (length lost) before.faults mid.faults after.faults untaken.1 given.paid);
    }
stops-taking mount before mid after keys lost stores stops.Memory out first untaken given =
    let calm : RoseBy 0 before.faults mid.faults = omega (arith, untaken) in
    record {
      number = length stores;
      back = subst (λ (ks : List StoreKey). Returned mount before after ks lost AsTaken) first (returned-of mount before mid after stores stores lost AsTaken out calm (became-same stores) given);
    }
stops-taking mount before mid after keys lost stores (stops.Store key count) out first untaken given = absurd untaken
stops-taking mount before mid after keys lost stores (stops.Image key place why) out first untaken given = absurd untaken

pub became-none : (P : ℕ → StoreKey → StoreState → StoreState → Type 0) → Became [] [] P
became-none P = record { keys = refl; each = λ at old new io in_. absurd (no-item at old io) }

-- a store that came back as it was taken, among others
pub one-same : (P : StoreState → StoreState → Type 0) (old new : StoreState) → new ≡ old → P old new → BecameOne old new P
one-same P old new same p = record {
  becomes = p;
  later = subst (λ (s : StoreState). old.faults ≤ s.faults) (sym same) (omega arith);
  told = subst (λ (s : StoreState). IfSome old.content (λ _. IsSome s.content)) (sym same) (told-self old.content);
}

-- what became of some stores, and of one more
pub became-more : (P : ℕ → StoreKey → StoreState → StoreState → Type 0) (olds news : List StoreSeen) (old new : StoreSeen) → Became olds news P → new.key ≡ old.key → BecameOne old.state new.state (P (length olds) old.key)
    → Became (olds ++ old ∷ []) (news ++ new ∷ []) P
became-more P olds news old new became key last = record {
  keys = map-more (λ (s : StoreSeen). s.key) news new ∙ (ap (λ (ks : List StoreKey). ks ++ new.key ∷ []) became.keys ∙ (ap (λ (k : StoreKey). keys_of olds ++ k ∷ []) key ∙ sym (map-more (λ (s : StoreSeen). s.key) olds old)));
  each = λ at x y ix iy.
      let many : length news ≡ length olds = became-number P olds news became in
      ⊎_elim
      (λ early. ⊎_elim (λ l. became.each at x y early l) (λ r. absurd (let within = slice_get_within olds at x early in let is = r.0 in omega (arith, within, is, many))) (at-more news new y at iy))
      (λ late. ⊎_elim (λ l. absurd (let within = slice_get_within news at y l in let is = late.0 in omega (arith, within, is, many)))
      (λ r. subst (λ n. BecameOne x.state y.state (P n x.key)) (sym late.0) (subst (λ (z : StoreSeen). BecameOne z.state y.state (P (length olds) z.key)) late.1 (subst (λ (z : StoreSeen). BecameOne old.state z.state (P (length olds) old.key)) r.1 last)))
      (at-more news new y at iy)) (at-more olds old x at ix);
}

-- what became of stores says more of them
pub became-weaker : (P Q : ℕ → StoreKey → StoreState → StoreState → Type 0) (olds news : List StoreSeen) → ((at : ℕ) (key : StoreKey) (old new : StoreState) → at < length olds → P at key old new → Q at key old new) → Became olds news P
    → Became olds news Q
became-weaker P Q olds news to became = record {
  keys = became.keys;
  each = λ at old new io in_.
      let one = became.each at old new io in_ in
      record { becomes = to at old.key old.state new.state (slice_get_within olds at old io) one.becomes; later = one.later; told = one.told };
}

-- nothing was taken
pub returned-none : (mount : Mount) (bay : BaySeen) (P : ℕ → StoreKey → StoreState → StoreState → Type 0) → Returned mount bay bay [] [] P
returned-none mount bay P = record {
  each = λ at key is. absurd (no-item at key is);
  some = refl;
  paid = omega arith;
  others = λ d f other. refl;
}

-- memory ran out before anything was taken
pub no-memory : (mount : Mount) (bay : BaySeen) (keys : List StoreKey) → OutOfMemory mount bay bay keys []
no-memory mount bay keys = record { number = 0; back = returned-none mount bay AsTaken }
