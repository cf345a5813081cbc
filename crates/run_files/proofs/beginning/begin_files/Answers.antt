use denote.Param.Send.{sendable}
use Rattle.std.proofs.Common.{rules, ◌≡◌, ◌+◌, ◌++◌, ◌∷◌, [], ℕ, List, Option, Some, None, length, map, refl, sym, ap, subst, ◌∙◌, arith}
use Rattle.std.specs.Global.{Vec}
use Rattle.std.specs.Prelude.{slice_get}
use Rattle.std.specs.List.{AllByRecursion}
use Rattle.std.proofs.lemmas.List.{length_push, map-append}
use Rattle.std.proofs.lemmas.Iterator.Adapters.{YieldsList-from_vec}
use Rattle.std.proofs.lemmas.Iterator.Consumers.{YieldsList-turn}
use Rattle.std.proofs.lemmas.Option.{slice_get-get_or}
use Rattle.stack_engine.specs.Tower.{TowerSeen}
use Rattle.run_files.specs.Beginning.{AreRead, AreTried}
use Rattle.run_files.proofs.HeldLaws.{is-none, is-some}
use Rattle.run_files.proofs.BeginLaws.{Beginning, begun-left, begun-next, begun-stops, length-tried, tried-more, tried-self, unwritten-at}
use Rattle.run_files.proofs.beginning.begin_files.Goals as goal

pub push_reserved-requires : goal.push_reserved-requires
push_reserved-requires g c =
    let inv = c.loop-tower.invariant in
    let from = c.into_iter-tower-iterator.ensures.into_iter_gives in
    let turn = YieldsList-turn (YieldsList-from_vec {s = c.into_iter-tower-iterator.result} c.args.towers.items from.0 (search rules)) c.loop-tower.yielded c.loop-tower.tower-iterator c.loop-tower.yielded_by c.next.result c.next.new.self c.in-Some.tower c.in-Some.is c.next.ensures.steps in
    let less = turn.0 in
    let count = length-tried c.args.caller c.loop-tower.yielded c.loop-tower.begun.items inv.tried in
    let room = c.requires.begun.1 in
    let same = inv.begun_room in
    omega (arith, less, count, room, same)

pub push_reserved-requires-in-Ok : goal.push_reserved-requires-in-Ok
push_reserved-requires-in-Ok g c =
    let inv = c.loop-tower.invariant in
    let from = c.into_iter-tower-iterator.ensures.into_iter_gives in
    let turn = YieldsList-turn (YieldsList-from_vec {s = c.into_iter-tower-iterator.result} c.args.towers.items from.0 (search rules)) c.loop-tower.yielded c.loop-tower.tower-iterator c.loop-tower.yielded_by c.next.result c.next.new.self c.in-Some.tower c.in-Some.is c.next.ensures.steps in
    let less = turn.0 in
    let count = length-tried c.args.caller c.loop-tower.yielded c.loop-tower.begun.items inv.tried in
    let many = inv.many in
    let room = c.requires.bytes.1 in
    let same = inv.bytes_room in
    omega (arith, less, count, many, room, same)

pub push_reserved-requires-in-Ok-2 : goal.push_reserved-requires-in-Ok-2
push_reserved-requires-in-Ok-2 g c =
    let inv = c.loop-tower.invariant in
    let from = c.into_iter-tower-iterator.ensures.into_iter_gives in
    let turn = YieldsList-turn (YieldsList-from_vec {s = c.into_iter-tower-iterator.result} c.args.towers.items from.0 (search rules)) c.loop-tower.yielded c.loop-tower.tower-iterator c.loop-tower.yielded_by c.next.result c.next.new.self c.in-Some.tower c.in-Some.is c.next.ensures.steps in
    let less = turn.0 in
    let count = length-tried c.args.caller c.loop-tower.yielded c.loop-tower.begun.items inv.tried in
    let room = c.requires.begun.1 in
    let same = inv.begun_room in
    omega (arith, less, count, room, same)

pub push_reserved-requires-in-Err : goal.push_reserved-requires-in-Err
push_reserved-requires-in-Err g c =
    let inv = c.loop-tower.invariant in
    let from = c.into_iter-tower-iterator.ensures.into_iter_gives in
    let turn = YieldsList-turn (YieldsList-from_vec {s = c.into_iter-tower-iterator.result} c.args.towers.items from.0 (search rules)) c.loop-tower.yielded c.loop-tower.tower-iterator c.loop-tower.yielded_by c.next.result c.next.new.self c.in-Some.tower c.in-Some.is c.next.ensures.steps in
    let less = turn.0 in
    let count = length-tried c.args.caller c.loop-tower.yielded c.loop-tower.begun.items inv.tried in
    let room = c.requires.begun.1 in
    let same = inv.begun_room in
    omega (arith, less, count, room, same)

pub begin_file-requires : goal.begin_file-requires
begin_file-requires g c =
    let from = c.into_iter-tower-iterator.ensures.into_iter_gives in
    let turn = YieldsList-turn (YieldsList-from_vec {s = c.into_iter-tower-iterator.result} c.args.towers.items from.0 (search rules)) c.loop-tower.yielded c.loop-tower.tower-iterator c.loop-tower.yielded_by c.next.result c.next.new.self c.in-Some.tower c.in-Some.is c.next.ensures.steps in
    let t : TowerSeen = c.in-Some.tower in
    let k = length c.loop-tower.yielded in
    let at : slice_get c.args.towers.items k ≡ Some t = slice_get-get_or c.args.towers.items k t turn.0 ∙ ap Some (sym turn.1) in
    let own = c.type_bounds.send-G in
    (search (own, sendable), unwritten-at c.args.towers.items k t c.requires.unwritten at)

pub loop-tower-preserved-then-is_some : goal.loop-tower-preserved-then-is_some
loop-tower-preserved-then-is_some g c =
    let inv = c.loop-tower.invariant in
    let caller = c.args.caller in
    let olds : List TowerSeen = c.loop-tower.yielded in
    let t : TowerSeen = c.in-Some.tower in
    let bs : List (List ℕ) = map (λ b. b.items) c.loop-tower.bytes.items in
    let items = c.push_reserved.ensures.items in
    let longer = ap length items ∙ length_push c.loop-tower.begun.items t in
    let many = inv.many in
    record {
      beginning = subst (λ (ns : List TowerSeen). Beginning caller (olds ++ t ∷ []) ns bs c.loop-tower.stopped) (sym items)
          (begun-left caller olds c.loop-tower.begun.items bs c.loop-tower.stopped t (is-some c.loop-tower.stopped c.is_some.result c.is_some.ensures c.if-is_some.true) inv.beginning);
      tried = subst (λ (ns : List TowerSeen). AreTried caller (olds ++ t ∷ []) ns) (sym items) (tried-more caller olds c.loop-tower.begun.items t t inv.tried (tried-self caller t));
      many = omega (arith, longer, many);
      begun_room = c.push_reserved.ensures.capacity ∙ inv.begun_room;
      bytes_room = inv.bytes_room;
    }

pub loop-tower-preserved-in-Ok : goal.loop-tower-preserved-in-Ok
loop-tower-preserved-in-Ok g c =
    let inv = c.loop-tower.invariant in
    let caller = c.args.caller in
    let olds : List TowerSeen = c.loop-tower.yielded in
    let t : TowerSeen = c.in-Some.tower in
    let u : TowerSeen = c.begin_file.new.tower in
    let bs : List (List ℕ) = map (λ b. b.items) c.loop-tower.bytes.items in
    let items = c.push_reserved-in-Ok-2.ensures.items in
    let read : map (λ b. b.items) c.push_reserved-in-Ok.new.self.items ≡ bs ++ c.in-Ok.read.items ∷ [] = ap (λ (vs : List (Vec ℕ)). map (λ b. b.items) vs) c.push_reserved-in-Ok.ensures.items ∙ map-append (λ (b : Vec ℕ). b.items) c.loop-tower.bytes.items (c.in-Ok.read ∷ []) in
    let none = is-none c.loop-tower.stopped c.is_some.result c.is_some.ensures c.if-is_some.false in
    let longer = ap length items ∙ length_push c.loop-tower.begun.items u in
    let more = ap length c.push_reserved-in-Ok.ensures.items ∙ length_push c.loop-tower.bytes.items c.in-Ok.read in
    let many = inv.many in
    record {
      beginning = subst (λ (ns : List TowerSeen). Beginning caller (olds ++ t ∷ []) ns (map (λ b. b.items) c.push_reserved-in-Ok.new.self.items) c.loop-tower.stopped) (sym items)
          (subst (λ (rs : List (List ℕ)). Beginning caller (olds ++ t ∷ []) (c.loop-tower.begun.items ++ u ∷ []) rs c.loop-tower.stopped) (sym read)
          (begun-next caller olds c.loop-tower.begun.items bs c.loop-tower.stopped t u c.in-Ok.read.items none inv.beginning c.in-Ok.ensures.read));
      tried = subst (λ (ns : List TowerSeen). AreTried caller (olds ++ t ∷ []) ns) (sym items) (tried-more caller olds c.loop-tower.begun.items t u inv.tried c.begin_file.ensures.tried);
      many = omega (arith, longer, more, many);
      begun_room = c.push_reserved-in-Ok-2.ensures.capacity ∙ inv.begun_room;
      bytes_room = c.push_reserved-in-Ok.ensures.capacity ∙ inv.bytes_room;
    }

pub loop-tower-preserved : goal.loop-tower-preserved
loop-tower-preserved g c =
    let inv = c.loop-tower.invariant in
    let caller = c.args.caller in
    let olds : List TowerSeen = c.loop-tower.yielded in
    let t : TowerSeen = c.in-Some.tower in
    let u : TowerSeen = c.begin_file.new.tower in
    let bs : List (List ℕ) = map (λ b. b.items) c.loop-tower.bytes.items in
    let items = c.push_reserved-in-Err.ensures.items in
    let none = is-none c.loop-tower.stopped c.is_some.result c.is_some.ensures c.if-is_some.false in
    let longer = ap length items ∙ length_push c.loop-tower.begun.items u in
    let many = inv.many in
    record {
      beginning = subst (λ (ns : List TowerSeen). Beginning caller (olds ++ t ∷ []) ns bs (Some c.in-Err.stop)) (sym items)
          (begun-stops caller olds c.loop-tower.begun.items bs c.loop-tower.stopped t u c.in-Err.stop none inv.beginning c.begin_file.ensures.tried c.in-Err.ensures.why);
      tried = subst (λ (ns : List TowerSeen). AreTried caller (olds ++ t ∷ []) ns) (sym items) (tried-more caller olds c.loop-tower.begun.items t u inv.tried c.begin_file.ensures.tried);
      many = omega (arith, longer, many);
      begun_room = c.push_reserved-in-Err.ensures.capacity ∙ inv.begun_room;
      bytes_room = inv.bytes_room;
    }

pub loop-tower-init : goal.loop-tower-init
loop-tower-init g c =
    let none = c.requires.begun.0 in
    let empty = c.requires.bytes.0 in
    let zero = ap length none in
    let nothing = ap length empty in
    record {
      beginning = subst (λ (ts : List TowerSeen). AreRead [] ts (map (λ b. b.items) c.args.bytes.now.items)) (sym none) (subst (λ (bs : List (Vec ℕ)). AreRead [] [] (map (λ b. b.items) bs)) (sym empty) tt);
      tried = subst (λ (ts : List TowerSeen). AreTried c.args.caller [] ts) (sym none) tt;
      many = omega (arith, zero, nothing);
      begun_room = refl;
      bytes_room = refl;
    }
