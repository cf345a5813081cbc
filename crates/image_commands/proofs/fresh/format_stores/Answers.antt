use Rattle.std.proofs.Common.{rules, ◌≡◌, ◌++◌, ◌∷◌, [], List, Some, length, sym, ap, subst, ◌∙◌}
use Rattle.std.specs.Prelude.{slice_get}
use Rattle.std.proofs.lemmas.Iterator.Adapters.{YieldsList-from_vec}
use Rattle.std.proofs.lemmas.Iterator.Consumers.{YieldsList-turn}
use Rattle.std.proofs.lemmas.Option.{slice_get-get_or}
use Rattle.file_stores.specs.Held.{StoreSeen}
use Rattle.file_stores.proofs.Lists.{to-map}
use Rattle.image_commands.specs.Fresh.{Went}
use Rattle.image_commands.proofs.FreshLaws.{went-next, went-number}
use Rattle.image_commands.proofs.fresh.format_stores.Goals as goal

pub format_next-store-requires-clause-store : goal.format_next-store-requires-clause-store
format_next-store-requires-clause-store g c κs within =
    let from = c.into_iter-held-iterator.ensures.into_iter_gives in
    let turn = YieldsList-turn (YieldsList-from_vec {s = c.into_iter-held-iterator.result} c.args.stores.items from.0 (search rules)) c.loop-held.yielded c.loop-held.held-iterator c.loop-held.yielded_by c.next.result c.next.new.self c.in-Some.held c.in-Some.is c.next.ensures.steps in
    let s : StoreSeen = c.in-Some.held in
    let k = length c.loop-held.yielded in
    let at : slice_get c.args.stores.items k ≡ Some s = slice_get-get_or c.args.stores.items k s turn.0 ∙ ap Some (sym turn.1) in
    c.requires.stores.each k s.key (to-map (λ (x : StoreSeen). x.key) c.args.stores.items k s at)

pub format_next-store-requires-clause-fit : goal.format_next-store-requires-clause-fit
format_next-store-requires-clause-fit g c κs within =
    let from = c.into_iter-held-iterator.ensures.into_iter_gives in
    let turn = YieldsList-turn (YieldsList-from_vec {s = c.into_iter-held-iterator.result} c.args.stores.items from.0 (search rules)) c.loop-held.yielded c.loop-held.held-iterator c.loop-held.yielded_by c.next.result c.next.new.self c.in-Some.held c.in-Some.is c.next.ensures.steps in
    let s : StoreSeen = c.in-Some.held in
    let k = length c.loop-held.yielded in
    let at : slice_get c.args.stores.items k ≡ Some s = slice_get-get_or c.args.stores.items k s turn.0 ∙ ap Some (sym turn.1) in
    c.requires.fit k s at

pub loop-held-preserved : goal.loop-held-preserved
loop-held-preserved g c =
    let inv = c.loop-held.invariant in
    let mount = c.args.mount.now in
    let stores : List StoreSeen = c.loop-held.yielded in
    let left : List StoreSeen = c.loop-held.left.items in
    let s : StoreSeen = c.in-Some.held in
    let new : StoreSeen = c.format_next-store.result.0 in
    let went = subst (λ (ls : List StoreSeen). Went mount (stores ++ s ∷ []) ls c.format_next-store.result.1) (sym c.push_reserved.ensures.items)
    (went-next mount stores left c.loop-held.stopped c.format_next-store.result.1 s new inv.went c.format_next-store.ensures.key c.format_next-store.ensures.goes) in
    record {
      went = went;
      number = went-number mount (stores ++ s ∷ []) c.push_reserved.new.self.items c.format_next-store.result.1 went;
      room = c.push_reserved.ensures.capacity ∙ inv.room;
    }
