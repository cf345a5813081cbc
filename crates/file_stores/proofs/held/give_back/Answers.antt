use Rattle.std.proofs.Common.{rules, ◌≡◌, ◌++◌, ◌∷◌, [], ◌+◌, List, length, take, sym, subst, ◌∙◌, arith}
use Rattle.std.proofs.lemmas.List.{map-id}
use Rattle.std.proofs.lemmas.Iterator.Adapters.{YieldsList-from_vec}
use Rattle.std.proofs.lemmas.Iterator.Consumers.{YieldsList-turn, YieldsList-so_far}
use Rattle.file_stores.specs.Keys.{AreStores}
use Rattle.file_stores.specs.Held.{StoreSeen, keys_of}
use Rattle.file_stores.proofs.Lists.{length-more}
use Rattle.file_stores.proofs.KeyLaws.{stores-take}
use Rattle.file_stores.proofs.HeldLaws.{given-more, list-long, keys-next}
use Rattle.file_stores.proofs.held.give_back.Goals as goal

pub loop-held-preserved : goal.loop-held-preserved
loop-held-preserved g c =
    let i = c.loop-held.invariant in
    let from = c.into_iter-held-iterator.ensures.into_iter_gives in
    let road = YieldsList-from_vec {s = c.into_iter-held-iterator.result} c.args.stores.items from.0 (search rules) in
    let turn = YieldsList-turn road c.loop-held.yielded c.loop-held.held-iterator c.loop-held.yielded_by c.next.result c.next.new.self c.in-Some.held c.in-Some.is c.next.ensures.steps in
    let so_far = YieldsList-so_far road c.loop-held.yielded c.loop-held.held-iterator c.loop-held.yielded_by in
    let mount = c.args.mount.now in
    let all : List StoreSeen = c.args.stores.items in
    let stores : List StoreSeen = c.loop-held.yielded in
    let held : StoreSeen = c.in-Some.held in
    let k = length stores in
    let next : keys_of stores ++ held.key ∷ [] ≡ take (k + 1) (keys_of all) = keys-next all stores held turn.0 turn.1 (sym (map-id stores) ∙ so_far) in
    let given = given-more mount (g.B.Bay.told c.args.bay.now) (g.B.Bay.told c.loop-held.bay) (g.B.Bay.told c.give.new.bay) stores c.loop-held.lost.items c.give.new.lost.items held
    (subst (AreStores mount) (sym next) (stores-take mount (k + 1) (keys_of all) c.requires.keys)) i.given c.give.ensures.gave in
    let few = i.few in
    let more = length-more stores held in
    let long = list-long c.loop-held.lost.items c.give.new.lost.items held.key c.give.ensures.gave.gone c.give.ensures.gave.list in
    record {
      given = given;
      few = omega (arith, few, more, long);
      room = c.give.ensures.room ∙ i.room;
    }
