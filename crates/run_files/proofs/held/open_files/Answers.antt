use denote.Param.Send.{sendable}
use Rattle.std.proofs.Common.{rules, ◌≡◌, ◌+◌, ◌++◌, ◌∷◌, [], List, Option, Some, length, map, refl, sym, ap, subst, ◌∙◌, arith}
use Rattle.std.specs.Global.{Vec}
use Rattle.std.proofs.lemmas.List.{length_push, map-append}
use Rattle.mirror_layer.specs.declared.came.Notice.{Notice}
use Rattle.std.specs.Prelude.{slice_get}
use Rattle.std.proofs.lemmas.Iterator.Adapters.{YieldsList-from_vec}
use Rattle.std.proofs.lemmas.Iterator.Consumers.{YieldsList-turn}
use Rattle.std.proofs.lemmas.Option.{slice_get-get_or}
use Rattle.stack_engine.specs.Tower.{TowerSeen}
use Rattle.file_stores.specs.Files.{FileSeen}
use Rattle.run_files.specs.Held.{AreMade, made_none, OpensEach, OpensSome}
use Rattle.run_files.proofs.HeldLaws.{Opening, made-more, opening-count, opening-next, opening-stops, opening-left, is-none, is-some}
use Rattle.run_files.proofs.held.open_files.Goals as goal

pub push_reserved-requires : goal.push_reserved-requires
push_reserved-requires g c =
    let inv = c.loop-file.invariant in
    let from = c.into_iter-file-iterator.ensures.into_iter_gives in
    let turn = YieldsList-turn (YieldsList-from_vec {s = c.into_iter-file-iterator.result} c.args.files.items from.0 (search rules)) c.loop-file.yielded c.loop-file.file-iterator c.loop-file.yielded_by c.next.result c.next.new.self c.in-Some.file c.in-Some.is c.next.ensures.steps in
    let less = turn.0 in
    let count = opening-count c.args.mount.now c.loop-file.yielded c.loop-file.towers.items c.loop-file.rest.items c.loop-file.stopped inv.opening in
    let room = c.requires.rest.1 in
    let same = inv.rest_room in
    omega (arith, less, count, room, same)

pub loop-file-preserved-then-is_some : goal.loop-file-preserved-then-is_some
loop-file-preserved-then-is_some g c =
    let inv = c.loop-file.invariant in
    let mount = c.args.mount.now in
    let stores : List FileSeen = c.loop-file.yielded in
    let s : FileSeen = c.in-Some.file in
    record {
      opening = subst (λ (rs : List FileSeen). Opening mount (stores ++ s ∷ []) c.loop-file.towers.items rs c.loop-file.stopped) (sym c.push_reserved.ensures.items)
          (opening-left mount stores c.loop-file.towers.items c.loop-file.rest.items c.loop-file.stopped s (is-some c.loop-file.stopped c.is_some.result c.is_some.ensures c.if-is_some.true) inv.opening);
      made = λ none. absurd (is-some c.loop-file.stopped c.is_some.result c.is_some.ensures c.if-is_some.true none);
      many = inv.many;
      made_room = inv.made_room;
      towers_room = inv.towers_room;
      rest_room = c.push_reserved.ensures.capacity ∙ inv.rest_room;
    }

pub open_one-requires : goal.open_one-requires
open_one-requires g c =
    let from = c.into_iter-file-iterator.ensures.into_iter_gives in
    let turn = YieldsList-turn (YieldsList-from_vec {s = c.into_iter-file-iterator.result} c.args.files.items from.0 (search rules)) c.loop-file.yielded c.loop-file.file-iterator c.loop-file.yielded_by c.next.result c.next.new.self c.in-Some.file c.in-Some.is c.next.ensures.steps in
    let own = c.type_bounds.send-S in
    let f : FileSeen = c.in-Some.file in
    let k = length c.loop-file.yielded in
    let at : slice_get c.args.files.items k ≡ Some f = slice_get-get_or c.args.files.items k f turn.0 ∙ ap Some (sym turn.1) in
    (search (own, sendable), c.requires.files k f at)

pub push_reserved-requires-in-Ok : goal.push_reserved-requires-in-Ok
push_reserved-requires-in-Ok g c =
    let inv = c.loop-file.invariant in
    let from = c.into_iter-file-iterator.ensures.into_iter_gives in
    let turn = YieldsList-turn (YieldsList-from_vec {s = c.into_iter-file-iterator.result} c.args.files.items from.0 (search rules)) c.loop-file.yielded c.loop-file.file-iterator c.loop-file.yielded_by c.next.result c.next.new.self c.in-Some.file c.in-Some.is c.next.ensures.steps in
    let less = turn.0 in
    let count = opening-count c.args.mount.now c.loop-file.yielded c.loop-file.towers.items c.loop-file.rest.items c.loop-file.stopped inv.opening in
    let room = c.requires.towers.1 in
    let same = inv.towers_room in
    omega (arith, less, count, room, same)

pub loop-file-preserved-in-Ok : goal.loop-file-preserved-in-Ok
loop-file-preserved-in-Ok g c =
    let inv = c.loop-file.invariant in
    let mount = c.args.mount.now in
    let stores : List FileSeen = c.loop-file.yielded in
    let s : FileSeen = c.in-Some.file in
    let t : TowerSeen = c.in-Ok.tower in
    record {
      opening = subst (λ (ts : List TowerSeen). Opening mount (stores ++ s ∷ []) ts c.loop-file.rest.items c.loop-file.stopped) (sym c.push_reserved-in-Ok.ensures.items)
          (opening-next mount stores c.loop-file.towers.items c.loop-file.rest.items c.loop-file.stopped s t (is-none c.loop-file.stopped c.is_some.result c.is_some.ensures c.if-is_some.false) inv.opening c.in-Ok.ensures.opened.0);
      made = λ none. subst (λ (ts : List TowerSeen). AreMade mount (stores ++ s ∷ []) ts (map (λ m. m.items) c.push_reserved-in-Ok-2.new.self.items)) (sym c.push_reserved-in-Ok.ensures.items)
          (subst (λ (ms : List (List (Option Notice))). AreMade mount (stores ++ s ∷ []) (c.loop-file.towers.items ++ t ∷ []) ms) (sym (ap (λ ms. map (λ m. m.items) ms) c.push_reserved-in-Ok-2.ensures.items ∙ map-append (λ (m : Vec (Option Notice)). m.items) c.loop-file.made.items (c.in-Ok.disks ∷ [])))
          (made-more (inv.made none) c.in-Ok.ensures.opened.0 c.in-Ok.ensures.opened.1));
      many = ap length c.push_reserved-in-Ok-2.ensures.items ∙ (length_push c.loop-file.made.items c.in-Ok.disks ∙ (ap (λ n. n + 1) inv.many ∙ sym (ap length c.push_reserved-in-Ok.ensures.items ∙ length_push c.loop-file.towers.items t)));
      made_room = c.push_reserved-in-Ok-2.ensures.capacity ∙ inv.made_room;
      towers_room = c.push_reserved-in-Ok.ensures.capacity ∙ inv.towers_room;
      rest_room = inv.rest_room;
    }

pub push_reserved-requires-in-Err : goal.push_reserved-requires-in-Err
push_reserved-requires-in-Err g c =
    let inv = c.loop-file.invariant in
    let from = c.into_iter-file-iterator.ensures.into_iter_gives in
    let turn = YieldsList-turn (YieldsList-from_vec {s = c.into_iter-file-iterator.result} c.args.files.items from.0 (search rules)) c.loop-file.yielded c.loop-file.file-iterator c.loop-file.yielded_by c.next.result c.next.new.self c.in-Some.file c.in-Some.is c.next.ensures.steps in
    let less = turn.0 in
    let count = opening-count c.args.mount.now c.loop-file.yielded c.loop-file.towers.items c.loop-file.rest.items c.loop-file.stopped inv.opening in
    let room = c.requires.rest.1 in
    let same = inv.rest_room in
    omega (arith, less, count, room, same)

pub loop-file-preserved : goal.loop-file-preserved
loop-file-preserved g c =
    let inv = c.loop-file.invariant in
    let mount = c.args.mount.now in
    let stores : List FileSeen = c.loop-file.yielded in
    let s : FileSeen = c.in-Some.file in
    let n : FileSeen = c.in-Err.unopened.stores in
    record {
      opening = subst (λ (rs : List FileSeen). OpensSome mount (stores ++ s ∷ []) c.loop-file.towers.items rs c.in-Err.unopened.stop) (sym c.push_reserved-in-Err.ensures.items)
          (opening-stops mount stores c.loop-file.towers.items c.loop-file.rest.items c.loop-file.stopped s n c.in-Err.unopened.stop (is-none c.loop-file.stopped c.is_some.result c.is_some.ensures c.if-is_some.false) inv.opening
          c.in-Err.ensures.file c.in-Err.ensures.pairs c.in-Err.ensures.cause);
      made = λ none. cc;
      many = inv.many;
      made_room = inv.made_room;
      towers_room = inv.towers_room;
      rest_room = c.push_reserved-in-Err.ensures.capacity ∙ inv.rest_room;
    }

pub loop-file-init : goal.loop-file-init
loop-file-init g c =
    let mount = c.args.mount.now in
    let none = c.requires.towers.0 in
    let empty = c.requires.made.0 in
    record {
      opening = (subst (λ (ts : List TowerSeen). OpensEach mount [] ts) (sym none) tt, c.requires.rest.0);
      made = λ e. subst (λ (ts : List TowerSeen). AreMade mount [] ts (map (λ m. m.items) c.args.made.now.items)) (sym none) (subst (λ ms. AreMade mount [] [] (map (λ m. m.items) ms)) (sym empty) made_none);
      many = ap length empty ∙ sym (ap length none);
      towers_room = refl;
      made_room = refl;
      rest_room = refl;
    }

pub push_reserved-requires-in-Ok-2 : goal.push_reserved-requires-in-Ok-2
push_reserved-requires-in-Ok-2 g c =
    let inv = c.loop-file.invariant in
    let from = c.into_iter-file-iterator.ensures.into_iter_gives in
    let turn = YieldsList-turn (YieldsList-from_vec {s = c.into_iter-file-iterator.result} c.args.files.items from.0 (search rules)) c.loop-file.yielded c.loop-file.file-iterator c.loop-file.yielded_by c.next.result c.next.new.self c.in-Some.file c.in-Some.is c.next.ensures.steps in
    let less = turn.0 in
    let count = opening-count c.args.mount.now c.loop-file.yielded c.loop-file.towers.items c.loop-file.rest.items c.loop-file.stopped inv.opening in
    let many = inv.many in
    let room = c.requires.made.1 in
    let same = inv.made_room in
    omega (arith, less, count, many, room, same)
