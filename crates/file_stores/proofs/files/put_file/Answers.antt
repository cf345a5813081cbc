use Rattle.std.proofs.Common.{rules, ◌≡◌, ◌++◌, ◌∷◌, [], ◌+◌, List, length, map, sym, ap, ◌∙◌, arith, length-append, append_assoc}
use Rattle.std.proofs.lemmas.List.{length-map}
use Rattle.std.proofs.lemmas.Iterator.Adapters.{YieldsList-from_vec}
use Rattle.std.proofs.lemmas.Iterator.Consumers.{YieldsList-turn}
use Rattle.file_stores.specs.Held.{StoreSeen}
use Rattle.file_stores.specs.Files.{Bare, FileSeen, keyed}
use Rattle.file_stores.proofs.Lists.{length-more, map-more}
use Rattle.file_stores.proofs.FileLaws.{with_key, keyed-more, length-keyed}
use Rattle.file_stores.proofs.files.put_file.Goals as goal

pub push_reserved-requires : goal.push_reserved-requires
push_reserved-requires g c =
    let bare : g.row.S.Denot → Bare = λ s. record { size = g.S.Store.size s; number = g.S.Store.number s; state = record { content = g.S.Store.content s; faults = g.S.Store.faults s } } in
    let from = c.into_iter-store-iterator.ensures.into_iter_gives in
    let all : List g.row.S.Denot = c.file.inside.stores.items in
    let road = YieldsList-from_vec {s = c.into_iter-store-iterator.result} all from.0 (search rules) in
    let turn = YieldsList-turn road c.loop-store.yielded c.loop-store.store-iterator c.loop-store.yielded_by c.next.result c.next.new.self c.in-Some.store c.in-Some.is c.next.ensures.steps in
    let low = turn.0 in
    let i = c.loop-store.invariant in
    let seen = ap (λ (f : FileSeen). length f.stores) c.file.view_is in
    let whole = length-keyed c.file.inside.file 0 (map bare all) in
    let same = length-map all bare in
    let long = ap length i.behind in
    let both = length-append c.args.stores.now.items (keyed c.file.inside.file 0 (map bare c.loop-store.yielded)) in
    let part = length-keyed c.file.inside.file 0 (map bare c.loop-store.yielded) in
    let mine = length-map c.loop-store.yielded bare in
    let room = c.requires.room in
    let kept = i.room in
    let len = c.loop-store.stores.ok.0 in
    omega (arith, low, seen, whole, same, long, both, part, mine, room, kept, len)

pub overflow_add-disk : goal.overflow_add-disk
overflow_add-disk g c =
    let bare : g.row.S.Denot → Bare = λ s. record { size = g.S.Store.size s; number = g.S.Store.number s; state = record { content = g.S.Store.content s; faults = g.S.Store.faults s } } in
    let from = c.into_iter-store-iterator.ensures.into_iter_gives in
    let all : List g.row.S.Denot = c.file.inside.stores.items in
    let road = YieldsList-from_vec {s = c.into_iter-store-iterator.result} all from.0 (search rules) in
    let turn = YieldsList-turn road c.loop-store.yielded c.loop-store.store-iterator c.loop-store.yielded_by c.next.result c.next.new.self c.in-Some.store c.in-Some.is c.next.ensures.steps in
    let low = turn.0 in
    let disk = c.loop-store.invariant.disk in
    let seen = ap (λ (f : FileSeen). length f.stores) c.file.view_is in
    let whole = length-keyed c.file.inside.file 0 (map bare all) in
    let same = length-map all bare in
    let short = c.requires.short in
    omega (arith, low, disk, seen, whole, same, short)

pub loop-store-preserved : goal.loop-store-preserved
loop-store-preserved g c =
    let bare : g.row.S.Denot → Bare = λ s. record { size = g.S.Store.size s; number = g.S.Store.number s; state = record { content = g.S.Store.content s; faults = g.S.Store.faults s } } in
    let i = c.loop-store.invariant in
    let file = c.file.inside.file in
    let done = c.loop-store.yielded in
    let store : g.row.S.Denot = c.in-Some.store in
    let bares : List Bare = map bare done in
    let disk = i.disk in
    let mine = length-map done bare in
    let next : c.loop-store.disk ≡ 0 + length bares = omega (arith, disk, mine) in
    let held : StoreSeen = with_key file (0 + length bares) (bare store) in
    let old : List StoreSeen = c.args.stores.now.items in
    let more = length-more done store in
    record {
      behind = c.push_reserved.ensures.items
          ∙ (ap (λ (l : List StoreSeen). l ++ with_key file c.loop-store.disk (bare store) ∷ []) i.behind
          ∙ (ap (λ n. (old ++ keyed file 0 bares) ++ with_key file n (bare store) ∷ []) next
          ∙ (append_assoc old (keyed file 0 bares) (held ∷ []) ∙ ap (λ (l : List StoreSeen). old ++ l) (sym (keyed-more file 0 bares (bare store)) ∙ ap (keyed file 0) (sym (map-more bare done store))))));
      disk = omega (arith, disk, more);
      room = c.push_reserved.ensures.capacity ∙ i.room;
    }
