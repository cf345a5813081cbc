use Rattle.std.proofs.Common.{◌≡◌, ◌<◌, List, length, take, sym, ap, subst, ◌∙◌, arith}
use Rattle.std.specs.Vec.Iter.{into_iter_items}
use Rattle.std.proofs.lemmas.List.{take_all}
use Rattle.file_stores.specs.Keys.{EachAt, stores_of_file}
use Rattle.file_stores.specs.Held.{StoreSeen, IsFit, keys_of}
use Rattle.file_stores.specs.Files.{FileSeen}
use Rattle.file_stores.proofs.FileLaws.{length-disks, one-file}
use Rattle.file_stores.proofs.files.as_file.Goals as goal

pub next_file-requires-clause-keys : goal.next_file-requires-clause-keys
next_file-requires-clause-keys g c κs within =
    let n = length c.disks-disks.result.now in
    let all = length-disks n c.args.file in
    ap (λ (l : List StoreSeen). take n (keys_of l)) c.into_iter-rest.ensures.rest
    ∙ (ap (take n) (c.requires.stores ∙ ap (λ m. stores_of_file m c.args.file) (sym (ap length c.disks-disks.ensures.value))) ∙ take_all n (stores_of_file n c.args.file) (omega (arith, all)))

pub returns-clause-all : goal.returns-clause-all
returns-clause-all g c =
    let n = length c.disks-disks.result.now in
    one-file n c.args.file c.args.stores.items c.next_file.result.stores (into_iter_items c.next_file.new.rest) (sym c.into_iter-rest.ensures.rest ∙ c.next_file.ensures.all)
    (c.requires.stores ∙ ap (λ m. stores_of_file m c.args.file) (sym (ap length c.disks-disks.ensures.value))) c.next_file.ensures.keys

pub returns-clause-is : goal.returns-clause-is
returns-clause-is g c =
    let mount = c.args.mount.now in
    let f : FileSeen = c.next_file.result in
    let n = length c.disks-disks.result.now in
    let count = ap length c.disks-disks.ensures.value in
    let all : f.stores ≡ c.args.stores.items =
    one-file n c.args.file c.args.stores.items f.stores (into_iter_items c.next_file.new.rest) (sym c.into_iter-rest.ensures.rest ∙ c.next_file.ensures.all)
    (c.requires.stores ∙ ap (λ m. stores_of_file m c.args.file) (sym count)) c.next_file.ensures.keys in
    record {
      sound = c.disks-disks.ensures.sound;
      file = subst (λ n. n < length mount.files) (sym c.next_file.ensures.file) c.requires.file;
      keys = c.next_file.ensures.keys ∙ (ap (λ m. stores_of_file m c.args.file) count ∙ ap (stores_of_file (length mount.disks)) (sym c.next_file.ensures.file));
      fits = subst (λ (l : List StoreSeen). EachAt (λ at store. IsFit mount store) l) (sym all) c.requires.fit;
    }
