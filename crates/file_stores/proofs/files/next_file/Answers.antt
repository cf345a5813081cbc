use Rattle.std.proofs.Common.{◌≡◌, ◌++◌, ◌∷◌, [], List, length, map, vec_capacity, sym, ap, subst, ◌∙◌, arith, refl}
use Rattle.std.specs.Global.{Vec}
use Rattle.std.specs.Vec.Iter.{into_iter_items}
use Rattle.std.proofs.lemmas.List.{length-map}
use Rattle.file_stores.specs.Held.{StoreSeen}
use Rattle.file_stores.specs.Files.{Bare, keyed}
use Rattle.file_stores.proofs.Lists.{length-more, map-more}
use Rattle.file_stores.proofs.FileLaws.{with_key, keyed-keys, fill-more, fill-next}
use Rattle.file_stores.proofs.files.next_file.Goals.{in-Some, in_default}
use Rattle.file_stores.proofs.files.next_file.Goals as goal

pub loop-preserved : goal.loop-preserved
loop-preserved g c =
    let i = c.loop.invariant in
    let low = c.loop-test.true in
    let number = i.number in
    let bare : g.row.S.Denot → Bare = λ s. record { size = g.S.Store.size s; number = g.S.Store.number s; state = record { content = g.S.Store.content s; faults = g.S.Store.faults s } } in
    let all : List StoreSeen = into_iter_items c.args.rest.now in
    let bares : List Bare = map bare c.loop.stores.items in
    let same : length bares ≡ length c.loop.stores.items = length-map c.loop.stores.items bare in
    elim c.match-next.branch [
      | in-Some w ↦
          let held : StoreSeen = w.in-Some.held in
          let store : g.row.S.Denot = w.held.inside.store in
          let rest : List StoreSeen = into_iter_items c.next.new.self in
          let items : c.match-next.stores.items ≡ c.loop.stores.items ++ store ∷ [] = ap (λ (v : Vec g.row.S.Denot). v.items) w.stores-is ∙ w.push_reserved.ensures.items in
          let next : into_iter_items c.loop.rest ≡ held ∷ rest = w.in-Some.ensures.items in
          let filled = fill-more c.args.file c.args.disks all rest bares (bare store) held c.requires.keys (i.filled ∙ ap (λ (l : List StoreSeen). keyed c.args.file 0 bares ++ l) next) (omega (arith, low, number, same))
          (subst (λ (h : StoreSeen). h ≡ with_key h.key.file h.key.disk (bare store)) w.held.view_is refl) in
          let long = ap length items ∙ length-more c.loop.stores.items store in
          let fewer = w.in-Some.ensures.len in
          let tail = ap length next in
          let many = i.many in
          let room = i.room in
          let capacity = w.push_reserved.ensures.capacity in
          let same_room = ap (λ (v : Vec g.row.S.Denot). vec_capacity v) w.stores-is in
          record {
            filled = filled ∙ ap (λ (l : List Bare). keyed c.args.file 0 l ++ rest) (sym (map-more bare c.loop.stores.items store) ∙ ap (map bare) (sym items));
            number = omega (arith, long, number);
            many = omega (arith, fewer, tail, many);
            room = omega (arith, room, capacity, same_room);
          }
      | in_default w ↦
          absurd (
          let next = fill-next c.args.file c.args.disks all (into_iter_items c.loop.rest) bares c.requires.keys i.filled (omega (arith, low, number, same)) in
          let many = i.many in
          let none = w.in_default.ensures.cases.0 in
          omega (arith, next, many, none)
          )
    ]

pub returns-clause-keys : goal.returns-clause-keys
returns-clause-keys g c =
    let i = c.loop.invariant in
    let bare : g.row.S.Denot → Bare = λ s. record { size = g.S.Store.size s; number = g.S.Store.number s; state = record { content = g.S.Store.content s; faults = g.S.Store.faults s } } in
    let end = c.loop.auto.counter-end in
    let past = c.loop-test.false in
    let number = i.number in
    let same = length-map c.loop.stores.items bare in
    keyed-keys c.args.file c.args.disks (map bare c.loop.stores.items) (omega (arith, number, same, past, end))
