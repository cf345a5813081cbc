use Rattle.std.proofs.Common.{rules, ◌≡◌, ◌<◌, ℕ, ◌++◌, ◌∷◌, [], ◌+◌, ◌-◌, List, Some, length, sym, ap, subst, ◌∙◌, arith, append_assoc}
use Rattle.std.specs.Prelude.{slice_get}
use Rattle.std.specs.List.{flat_map, range_with_len}
use Rattle.std.specs.Vec.Iter.{into_iter_items}
use Rattle.std.proofs.lemmas.Option.{slice_get-get_or, slice_get_within}
use Rattle.std.proofs.lemmas.Iterator.Adapters.{YieldsList-from_vec}
use Rattle.std.proofs.lemmas.Iterator.Consumers.{YieldsList-turn, YieldsList-end}
use Rattle.file_stores.specs.Keys.{stores_of_file}
use Rattle.file_stores.specs.Held.{StoreSeen, keys_of}
use Rattle.file_stores.specs.Files.{FileSeen, stores_in}
use Rattle.file_stores.proofs.Lists.{each-more, length-more}
use Rattle.file_stores.proofs.FileLaws.{rows-next, rows-left, parted, stores-more, files-are}
use Rattle.file_stores.proofs.files.by_file.Goals as goal

pub next_file-requires-clause-room : goal.next_file-requires-clause-room
next_file-requires-clause-room g c κs within =
    let from = c.into_iter-room-iterator.ensures.into_iter_gives in
    let turn = YieldsList-turn (YieldsList-from_vec {s = c.into_iter-room-iterator.result} c.args.rooms.items from.0 (search rules)) c.loop-room.yielded c.loop-room.room-iterator c.loop-room.yielded_by c.next.result c.next.new.self c.in-Some.room c.in-Some.is c.next.ensures.steps in
    let k = length c.loop-room.yielded in
    let room = c.requires.empty k c.in-Some.room (slice_get-get_or c.args.rooms.items k c.in-Some.room turn.0 ∙ ap Some (sym turn.1)) in
    let many = ap length c.disks-disks.ensures.value in
    let wide = room.1 in
    (room.0, omega (arith, wide, many))

pub next_file-requires-clause-keys : goal.next_file-requires-clause-keys
next_file-requires-clause-keys g c κs within =
    let from = c.into_iter-room-iterator.ensures.into_iter_gives in
    let turn = YieldsList-turn (YieldsList-from_vec {s = c.into_iter-room-iterator.result} c.args.rooms.items from.0 (search rules)) c.loop-room.yielded c.loop-room.room-iterator c.loop-room.yielded_by c.next.result c.next.new.self c.in-Some.room c.in-Some.is c.next.ensures.steps in
    let low = turn.0 in
    let number = c.loop-room.invariant.number in
    let rooms = c.requires.rooms in
    let disks = length c.disks-disks.result.now in
    rows-next disks (length c.loop-room.files.items) (length c.args.mount.now.files) (into_iter_items c.loop-room.rest) (omega (arith, low, number, rooms)) c.loop-room.invariant.keys ∙ ap (stores_of_file disks) (sym (c.len-file.ensures ∙ c.loop-room.files.ok.0))

pub loop-room-preserved : goal.loop-room-preserved
loop-room-preserved g c =
    let i = c.loop-room.invariant in
    let from = c.into_iter-room-iterator.ensures.into_iter_gives in
    let turn = YieldsList-turn (YieldsList-from_vec {s = c.into_iter-room-iterator.result} c.args.rooms.items from.0 (search rules)) c.loop-room.yielded c.loop-room.room-iterator c.loop-room.yielded_by c.next.result c.next.new.self c.in-Some.room c.in-Some.is c.next.ensures.steps in
    let low = turn.0 in
    let number = i.number in
    let rooms = c.requires.rooms in
    let disks = length c.disks-disks.result.now in
    let n = length c.args.mount.now.files in
    let files : List FileSeen = c.loop-room.files.items in
    let f : FileSeen = c.next_file.result in
    let k = length files in
    let before : List StoreSeen = into_iter_items c.loop-room.rest in
    let rest : List StoreSeen = into_iter_items c.next_file.new.rest in
    let within : k < n = omega (arith, low, number, rooms) in
    let file : f.file ≡ k = c.next_file.ensures.file ∙ (c.len-file.ensures ∙ c.loop-room.files.ok.0) in
    let keys : keys_of f.stores ≡ stores_of_file disks k = c.next_file.ensures.keys ∙ ap (stores_of_file disks) (c.len-file.ensures ∙ c.loop-room.files.ok.0) in
    let items : c.push_reserved.new.self.items ≡ files ++ f ∷ [] = c.push_reserved.ensures.items in
    let more : length c.push_reserved.new.self.items ≡ k + 1 = ap length items ∙ length-more files f in
    let left = rows-left disks k n before f.stores rest within c.next_file.ensures.all i.keys keys in
    let room = i.room in
    let capacity = c.push_reserved.ensures.capacity in
    let yielded = length-more c.loop-room.yielded c.in-Some.room in
    let each = each-more (λ (at : ℕ) (x : FileSeen). (x.file ≡ at) × (keys_of x.stores ≡ stores_of_file disks at)) files f i.each (file, keys) in
    record {
      all = i.all
          ∙ (ap (λ (l : List StoreSeen). stores_in files ++ l) c.next_file.ensures.all
          ∙ (sym (append_assoc (stores_in files) f.stores rest) ∙ ap (λ (l : List StoreSeen). l ++ rest) (sym (stores-more files f) ∙ ap stores_in (sym items))));
      keys = left ∙ ap (λ m. flat_map (stores_of_file disks) (range_with_len m (n - m))) (sym more);
      each = subst (λ (l : List FileSeen). (at : ℕ) (x : FileSeen) → slice_get l at ≡ Some x → (x.file ≡ at) × (keys_of x.stores ≡ stores_of_file disks at)) (sym items) each;
      number = omega (arith, more, number, yielded);
      many = c.next_file.ensures.many;
      room = omega (arith, room, capacity);
    }

pub returns-clause-all : goal.returns-clause-all
returns-clause-all g c =
    let i = c.loop-room.invariant in
    let from = c.into_iter-room-iterator.ensures.into_iter_gives in
    let end = YieldsList-end (YieldsList-from_vec {s = c.into_iter-room-iterator.result} c.args.rooms.items from.0 (search rules)) c.loop-room.yielded c.loop-room.room-iterator c.loop-room.yielded_by c.next.result c.next.new.self c.in-None.is c.next.ensures.steps in
    let whole = end.1 in
    let number = i.number in
    let rooms = c.requires.rooms in
    parted (length c.disks-disks.result.now) (length c.args.mount.now.files) c.loop-room.files.items c.args.stores.items (into_iter_items c.loop-room.rest) (omega (arith, whole, number, rooms)) i.keys i.all

pub returns-clause-each : goal.returns-clause-each
returns-clause-each g c =
    let i = c.loop-room.invariant in
    let from = c.into_iter-room-iterator.ensures.into_iter_gives in
    let end = YieldsList-end (YieldsList-from_vec {s = c.into_iter-room-iterator.result} c.args.rooms.items from.0 (search rules)) c.loop-room.yielded c.loop-room.room-iterator c.loop-room.yielded_by c.next.result c.next.new.self c.in-None.is c.next.ensures.steps in
    let whole = end.1 in
    let number = i.number in
    let rooms = c.requires.rooms in
    let mount = c.args.mount.now in
    let files : List FileSeen = c.loop-room.files.items in
    let is : length files ≡ length mount.files = omega (arith, whole, number, rooms) in
    let all = parted (length c.disks-disks.result.now) (length mount.files) files c.args.stores.items (into_iter_items c.loop-room.rest) is i.keys i.all in
    λ at f here.
    let one = i.each at f here in
    let low = slice_get_within files at f here in
    let place = one.0 in (
      place,
      record {
        sound = c.disks-disks.ensures.sound;
        file = omega (arith, place, low, is);
        keys = one.1 ∙ (ap (λ m. stores_of_file m at) (ap length c.disks-disks.ensures.value) ∙ ap (stores_of_file (length mount.disks)) (sym place));
        fits = files-are mount files c.args.stores.items c.requires.fit all at f here;
      },
    )
