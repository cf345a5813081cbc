use Rattle.std.proofs.Common.{◌≡◌, ◌+◌, ◌++◌, ◌∷◌, List, [], length, take, Some, sym, ap, subst, ◌∙◌, arith}
use Rattle.std.specs.Prelude.{slice_get, get_or}
use Rattle.std.proofs.lemmas.Option.{slice_get-get_or}
use Rattle.std.proofs.lemmas.List.{take_more}
use Rattle.script_meaning.specs.declared.store.StoreKey.{StoreKey}
use Rattle.file_stores.specs.Keys.{AreStores}
use Rattle.file_stores.specs.Held.{StoreSeen, keys_of, AreOut}
use Rattle.file_stores.proofs.Lists.{length-more, map-more}
use Rattle.file_stores.proofs.KeyLaws.{stores-take}
use Rattle.file_stores.proofs.HeldLaws.{out-more, out-same, untaken-next}
use Rattle.file_stores.proofs.held.take_stores.Goals as goal

pub returns-in-Err-clause-out : goal.returns-in-Err-clause-out
returns-in-Err-clause-out g c =
    out-same c.args.mount.now (g.B.Bay.told c.args.bay.now) (g.B.Bay.told c.loop-key.bay) (g.B.Bay.told c.take_store.new.bay) c.loop-key.stores.items c.loop-key.invariant.out c.in-Err.ensures.refused

pub returns-in-Err-clause-cause : goal.returns-in-Err-clause-cause
returns-in-Err-clause-cause g c =
    let i = c.loop-key.invariant in
    let key : StoreKey = record { file = 0; disk = 0 } in
    let here : slice_get c.args.keys.now (length c.loop-key.stores.items) ≡ Some (get_or c.args.keys.now c.loop-key.key-index key) =
    ap (λ n. slice_get c.args.keys.now n) i.many ∙ slice_get-get_or c.args.keys.now c.loop-key.key-index key c.loop-key-test.true in
    untaken-next c.args.keys.now (length c.loop-key.stores.items) (get_or c.args.keys.now c.loop-key.key-index key) (g.B.Bay.told c.args.bay.now) (g.B.Bay.told c.loop-key.bay) (g.B.Bay.told c.take_store.new.bay) c.in-Err.stop
    here i.calm c.in-Err.ensures.cause

pub loop-key-preserved : goal.loop-key-preserved
loop-key-preserved g c =
    let i = c.loop-key.invariant in
    let mount = c.args.mount.now in
    let stores : List StoreSeen = c.loop-key.stores.items in
    let held : StoreSeen = c.in-Ok.held in
    let none : StoreKey = record { file = 0; disk = 0 } in
    let index = c.loop-key.key-index in
    let items = c.push_reserved.ensures.items in
    let next : keys_of stores ++ held.key ∷ [] ≡ take (index + 1) c.args.keys.now =
    ap (λ (k : StoreKey). keys_of stores ++ k ∷ []) c.in-Ok.ensures.key ∙ (ap (λ (ks : List StoreKey). ks ++ get_or c.args.keys.now index none ∷ []) i.first ∙ sym (take_more c.args.keys.now index none c.loop-key-test.true)) in
    let out = out-more mount (g.B.Bay.told c.args.bay.now) (g.B.Bay.told c.loop-key.bay) (g.B.Bay.told c.take_store.new.bay) stores held
    (subst (AreStores mount) (sym next) (stores-take mount (index + 1) c.args.keys.now c.requires.keys)) i.out c.in-Ok.ensures.took in
    let calm = c.in-Ok.ensures.took.calm in
    let room = i.room in
    let capacity = c.push_reserved.ensures.capacity in
    record {
      out = subst (λ (ss : List StoreSeen). AreOut mount (g.B.Bay.told c.args.bay.now) (g.B.Bay.told c.take_store.new.bay) ss) (sym items) out;
      first = ap keys_of items ∙ (map-more (λ (s : StoreSeen). s.key) stores held ∙ next);
      many = ap length items ∙ (length-more stores held ∙ ap (λ n. n + 1) i.many);
      calm = calm ∙ i.calm;
      room = omega (arith, room, capacity);
    }
