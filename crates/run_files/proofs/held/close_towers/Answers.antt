use Rattle.std.proofs.Common.{rules, ◌≡◌, ◌++◌, ◌∷◌, [], List, Option, length, map, sym, ap, subst, ◌∙◌, arith, refl, ◌+◌, append_assoc, length-append}
use Rattle.std.specs.Global.{Vec}
use Rattle.std.specs.Vec.Iter.{into_iter_items}
use Rattle.std.proofs.lemmas.List.{append-nil, length-map, map-append, nil_from_length}
use Rattle.std.proofs.lemmas.Iterator.Adapters.{YieldsList-from_vec}
use Rattle.std.proofs.lemmas.Iterator.Consumers.{YieldsList-end, YieldsList-turn}
use Rattle.tower_log.specs.declared.logged.Logged.{Logged}
use Rattle.tower_log.specs.Trail.{TrailSeen}
use Rattle.stack_engine.specs.Tower.{TowerSeen}
use Rattle.spr_volume.specs.Passes.{logs}
use Rattle.file_stores.specs.Files.{FileSeen}
use Rattle.mirror_layer.specs.declared.came.Notice.{Notice}
use Rattle.file_stores.specs.Notices.{AreAtClose}
use Rattle.run_files.specs.Held.{AreEnded, ended_none, AreShut, IsShut}
use Rattle.run_files.proofs.HeldLaws.{ended-length, ended-made, ended-more, ended-shut, shut-length, logs-more, length-logs, length-trails, map-same}
use Rattle.run_files.proofs.held.close_towers.Goals as goal

pub push_reserved-requires : goal.push_reserved-requires
push_reserved-requires g c =
    let inv = c.loop-tower.invariant in
    let from = c.into_iter-tower-iterator.ensures.into_iter_gives in
    let turn = YieldsList-turn (YieldsList-from_vec {s = c.into_iter-tower-iterator.result} c.args.towers.items from.0 (search rules)) c.loop-tower.yielded c.loop-tower.tower-iterator c.loop-tower.yielded_by c.next.result c.next.new.self c.in-Some.tower c.in-Some.is c.next.ensures.steps in
    let less = turn.0 in
    let len = shut-length 0 c.loop-tower.yielded c.loop-tower.files.items (ended-shut inv.ended.1) in
    let room = c.requires.files.1 in
    let same = inv.files_room in
    omega (arith, less, len, room, same)

pub push_reserved-requires-in-loop-tower : goal.push_reserved-requires-in-loop-tower
push_reserved-requires-in-loop-tower g c =
    let inv = c.loop-tower.invariant in
    let from = c.into_iter-tower-iterator.ensures.into_iter_gives in
    let turn = YieldsList-turn (YieldsList-from_vec {s = c.into_iter-tower-iterator.result} c.args.towers.items from.0 (search rules)) c.loop-tower.yielded c.loop-tower.tower-iterator c.loop-tower.yielded_by c.next.result c.next.new.self c.in-Some.tower c.in-Some.is c.next.ensures.steps in
    let less = turn.0 in
    let len = length-trails c.loop-tower.trails.items (logs c.loop-tower.yielded) inv.told ∙ length-logs c.loop-tower.yielded in
    let room = c.requires.trails.1 in
    let same = inv.trails_room in
    omega (arith, less, len, room, same)

pub overflow_cast-as_slice : goal.overflow_cast-as_slice
overflow_cast-as_slice g c =
    let inv = c.loop-tower.invariant in
    let from = c.into_iter-tower-iterator.ensures.into_iter_gives in
    let turn = YieldsList-turn (YieldsList-from_vec {s = c.into_iter-tower-iterator.result} c.args.towers.items from.0 (search rules)) c.loop-tower.yielded c.loop-tower.tower-iterator c.loop-tower.yielded_by c.next.result c.next.new.self c.in-Some.tower c.in-Some.is c.next.ensures.steps in
    let less = turn.0 in
    let told : length c.loop-tower.trails.items ≡ length c.loop-tower.yielded = length-trails c.loop-tower.trails.items (logs c.loop-tower.yielded) inv.told ∙ length-logs c.loop-tower.yielded in
    let same = ap length c.as_slice.ensures.value in
    let few = c.requires.few in
    record { fits = omega (arith, less, told, same, few) }

pub unreachable-requires : goal.unreachable-requires
unreachable-requires g c =
    let inv = c.loop-tower.invariant in
    let from = c.into_iter-tower-iterator.ensures.into_iter_gives in
    let turn = YieldsList-turn (YieldsList-from_vec {s = c.into_iter-tower-iterator.result} c.args.towers.items from.0 (search rules)) c.loop-tower.yielded c.loop-tower.tower-iterator c.loop-tower.yielded_by c.next.result c.next.new.self c.in-Some.tower c.in-Some.is c.next.ensures.steps in
    let less = turn.0 in
    let rest : List (Vec (Option Notice)) = into_iter_items c.loop-tower.rest in
    let done = ended-made inv.ended.1 in
    let all = ap length inv.ended.2 ∙ length-append inv.ended.0 (map (λ m. m.items) rest) in
    let own = length-map c.args.made.items (λ (m : Vec (Option Notice)). m.items) in
    let left = length-map rest (λ (m : Vec (Option Notice)). m.items) in
    let many = inv.many in
    let none = c.in_default.ensures.cases.0 in
    let made = c.requires.made in
    omega (arith, less, done, all, own, left, many, none, made)

pub push_reserved-requires-in-loop-tower-2 : goal.push_reserved-requires-in-loop-tower-2
push_reserved-requires-in-loop-tower-2 g c =
    let inv = c.loop-tower.invariant in
    let from = c.into_iter-tower-iterator.ensures.into_iter_gives in
    let turn = YieldsList-turn (YieldsList-from_vec {s = c.into_iter-tower-iterator.result} c.args.towers.items from.0 (search rules)) c.loop-tower.yielded c.loop-tower.tower-iterator c.loop-tower.yielded_by c.next.result c.next.new.self c.in-Some.tower c.in-Some.is c.next.ensures.steps in
    let less = turn.0 in
    let len = sym (length-map c.loop-tower.notices.items (λ (m : Vec (Option Notice)). m.items)) ∙ ended-length inv.ended.1 in
    let room = c.requires.notices.1 in
    let same = inv.notices_room in
    omega (arith, less, len, room, same)

pub loop-tower-init : goal.loop-tower-init
loop-tower-init g c = record {
  ended = (
    [],
    subst (λ (fs : List FileSeen). AreEnded 0 [] fs [] (map (λ m. m.items) c.args.notices.now.items)) (sym c.requires.files.0) (subst (λ ns. AreEnded 0 [] [] [] (map (λ m. m.items) ns)) (sym c.requires.notices.0) ended_none),
    ap (λ ms. map (λ m. m.items) ms) (sym c.into_iter-rest.ensures.rest),
  );
  many = c.into_iter-rest.ensures.len ∙ (c.args.made.ok.0 ∙ sym (ap length c.into_iter-rest.ensures.rest));
  told = ap (λ ts. map (λ t. t.log) ts) c.requires.trails.0;
  files_room = refl;
  trails_room = refl;
  notices_room = refl;
}

pub loop-tower-preserved : goal.loop-tower-preserved
loop-tower-preserved g c =
    let inv = c.loop-tower.invariant in
    let towers : List TowerSeen = c.loop-tower.yielded in
    let t : TowerSeen = c.in-Some.tower in
    let made : Vec (Option Notice) = c.in-Some-next.disks in
    let ended : Vec (Option Notice) = c.close-file.result.2 in
    let rest : List (Vec (Option Notice)) = into_iter_items c.next-in-loop-tower.new.self in
    let trails : length c.loop-tower.trails.items ≡ length towers = length-trails c.loop-tower.trails.items (logs towers) inv.told ∙ length-logs towers in
    let same = ap length c.as_slice.ensures.value in
    let at : (shut : IsShut (0 + length towers) t c.close-file.result.0) × AreAtClose shut.under made.items ended.items =
    subst (λ n. (shut : IsShut n t c.close-file.result.0) × AreAtClose shut.under made.items ended.items) (omega (arith, same, trails)) c.close-file.ensures.ended in
    let items : map (λ m. m.items) c.push_reserved-in-loop-tower-2.new.self.items ≡ map (λ m. m.items) c.loop-tower.notices.items ++ ended.items ∷ [] =
    ap (λ ms. map (λ m. m.items) ms) c.push_reserved-in-loop-tower-2.ensures.items ∙ map-append (λ (m : Vec (Option Notice)). m.items) c.loop-tower.notices.items (ended ∷ []) in
    let next : into_iter_items c.loop-tower.rest ≡ made ∷ rest = c.in-Some-next.ensures.items in
    let fewer = c.in-Some-next.ensures.len in
    let tail = ap length next in
    let many = inv.many in
    record {
      ended = (
        inv.ended.0 ++ made.items ∷ [],
        subst (λ (fs : List FileSeen). AreEnded 0 (towers ++ t ∷ []) fs (inv.ended.0 ++ made.items ∷ []) (map (λ m. m.items) c.push_reserved-in-loop-tower-2.new.self.items)) (sym c.push_reserved.ensures.items)
            (subst (λ (ns : List (List (Option Notice))). AreEnded 0 (towers ++ t ∷ []) (c.loop-tower.files.items ++ c.close-file.result.0 ∷ []) (inv.ended.0 ++ made.items ∷ []) ns) (sym items)
            (ended-more inv.ended.1 at.0 at.1)),
        inv.ended.2 ∙ (ap (λ ms. inv.ended.0 ++ map (λ m. m.items) ms) next ∙ sym (append_assoc inv.ended.0 (made.items ∷ []) (map (λ m. m.items) rest))),
      );
      many = omega (arith, fewer, tail, many);
      told = ap (λ (ts : List TrailSeen). map (λ t. t.log) ts) c.push_reserved-in-loop-tower.ensures.items
          ∙ (map-append (λ (x : TrailSeen). x.log) c.loop-tower.trails.items (c.close-file.result.1 ∷ [])
          ∙ (ap (λ (ls : List (List Logged)). ls ++ c.close-file.result.1.log ∷ []) inv.told ∙ (ap (λ (l : List Logged). logs towers ++ l ∷ []) c.close-file.ensures.log ∙ sym (logs-more towers t))));
      files_room = c.push_reserved.ensures.capacity ∙ inv.files_room;
      trails_room = c.push_reserved-in-loop-tower.ensures.capacity ∙ inv.trails_room;
      notices_room = c.push_reserved-in-loop-tower-2.ensures.capacity ∙ inv.notices_room;
    }

pub returns-clause-ended : goal.returns-clause-ended
returns-clause-ended g c =
    let inv = c.loop-tower.invariant in
    let from = c.into_iter-tower-iterator.ensures.into_iter_gives in
    let end = YieldsList-end (YieldsList-from_vec {s = c.into_iter-tower-iterator.result} c.args.towers.items from.0 (search rules)) c.loop-tower.yielded c.loop-tower.tower-iterator c.loop-tower.yielded_by c.next.result c.next.new.self c.in-None.is c.next.ensures.steps in
    let whole : c.loop-tower.yielded ≡ c.args.towers.items = sym (map-same c.loop-tower.yielded) ∙ end.0 in
    let rest : List (Vec (Option Notice)) = into_iter_items c.loop-tower.rest in
    let done = ended-made inv.ended.1 in
    let all = ap length inv.ended.2 ∙ length-append inv.ended.0 (map (λ m. m.items) rest) in
    let own = length-map c.args.made.items (λ (m : Vec (Option Notice)). m.items) in
    let towers = ap length whole in
    let made = c.requires.made in
    let none : map (λ m. m.items) rest ≡ [] = nil_from_length (map (λ m. m.items) rest) (omega (arith, done, all, own, towers, made)) in
    let mades : map (λ m. m.items) c.args.made.items ≡ inv.ended.0 = inv.ended.2 ∙ (ap (λ (ms : List (List (Option Notice))). inv.ended.0 ++ ms) none ∙ append-nil inv.ended.0) in
    subst (λ (ms : List (List (Option Notice))). AreEnded 0 c.args.towers.items c.loop-tower.files.items ms (map (λ m. m.items) c.loop-tower.notices.items)) (sym mades)
    (subst (λ (ts : List TowerSeen). AreEnded 0 ts c.loop-tower.files.items inv.ended.0 (map (λ m. m.items) c.loop-tower.notices.items)) whole inv.ended.1)

pub returns-clause-shut : goal.returns-clause-shut
returns-clause-shut g c =
    let from = c.into_iter-tower-iterator.ensures.into_iter_gives in
    let end = YieldsList-end (YieldsList-from_vec {s = c.into_iter-tower-iterator.result} c.args.towers.items from.0 (search rules)) c.loop-tower.yielded c.loop-tower.tower-iterator c.loop-tower.yielded_by c.next.result c.next.new.self c.in-None.is c.next.ensures.steps in
    subst (λ (ts : List TowerSeen). AreShut 0 ts c.loop-tower.files.items) (sym (map-same c.loop-tower.yielded) ∙ end.0) (ended-shut c.loop-tower.invariant.ended.1)

pub returns-clause-logs : goal.returns-clause-logs
returns-clause-logs g c =
    let from = c.into_iter-tower-iterator.ensures.into_iter_gives in
    let end = YieldsList-end (YieldsList-from_vec {s = c.into_iter-tower-iterator.result} c.args.towers.items from.0 (search rules)) c.loop-tower.yielded c.loop-tower.tower-iterator c.loop-tower.yielded_by c.next.result c.next.new.self c.in-None.is c.next.ensures.steps in
    c.loop-tower.invariant.told ∙ ap logs (sym (map-same c.loop-tower.yielded) ∙ end.0)
