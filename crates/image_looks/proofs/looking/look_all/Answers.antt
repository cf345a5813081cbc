use Rattle.std.proofs.Common.{◌≡◌, ◌+◌, ◌++◌, ◌∷◌, List, [], length, take, Some, sym, ap, subst, ◌∙◌, arith}
use Rattle.std.specs.Prelude.{slice_get, get_or}
use Rattle.std.proofs.lemmas.Option.{slice_get-get_or}
use Rattle.std.proofs.lemmas.List.{take_more}
use Rattle.script_meaning.specs.declared.store.StoreKey.{StoreKey}
use Rattle.file_stores.specs.Keys.{AreStores}
use Rattle.file_stores.proofs.Lists.{length-more, map-more}
use Rattle.file_stores.proofs.KeyLaws.{stores-take}
use Rattle.image_looks.specs.declared.found.Look.{Look}
use Rattle.image_looks.specs.Found.{AreLooks, stores_at}
use Rattle.image_looks.proofs.LookLaws.{looks-more}
use Rattle.image_looks.proofs.looking.look_all.Goals as goal

pub loop-store-preserved : goal.loop-store-preserved
loop-store-preserved g c =
    let i = c.loop-store.invariant in
    let mount = c.args.mount.now in
    let looks : List Look = c.loop-store.looks.items in
    let look : Look = c.look.result in
    let none : StoreKey = record { file = 0; disk = 0 } in
    let index = c.loop-store.store-index in
    let items = c.push_reserved.ensures.items in
    let next : stores_at looks ++ look.store ∷ [] ≡ take (index + 1) c.args.stores.now =
    ap (λ (k : StoreKey). stores_at looks ++ k ∷ []) c.look.ensures.store ∙ (ap (λ (ks : List StoreKey). ks ++ get_or c.args.stores.now index none ∷ []) i.first ∙ sym (take_more c.args.stores.now index none c.loop-store-test.true)) in
    let are = looks-more mount (g.B.Bay.told c.args.bay.now) (g.B.Bay.told c.loop-store.bay) (g.B.Bay.told c.look.new.bay) looks look
    (subst (AreStores mount) (sym next) (stores-take mount (index + 1) c.args.stores.now c.requires.stores)) i.are c.look.ensures.looked in
    let room = i.room in
    let capacity = c.push_reserved.ensures.capacity in
    record {
      are = subst (λ (ls : List Look). AreLooks mount (g.B.Bay.told c.args.bay.now) (g.B.Bay.told c.look.new.bay) ls) (sym items) are;
      first = ap stores_at items ∙ (map-more (λ (l : Look). l.store) looks look ∙ next);
      many = ap length items ∙ (length-more looks look ∙ ap (λ n. n + 1) i.many);
      room = omega (arith, room, capacity);
    }
