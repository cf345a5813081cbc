use Rattle.std.proofs.Common.{◌≡◌, ◌++◌, List, length, ap, sym, subst, ◌∙◌, arith}
use Rattle.std.specs.List.{flat_map, range_with_len}
use Rattle.script_meaning.specs.declared.store.StoreKey.{StoreKey}
use Rattle.file_stores.specs.Keys.{stores_of_file, stores_of, AreStores}
use Rattle.file_stores.proofs.StackLaws.{stores-are, rows-more}
use Rattle.file_stores.proofs.keys.stores_of.Goals as goal

pub loop-file-preserved : goal.loop-file-preserved
loop-file-preserved c =
    let disks = length c.disks.result.now in
    c.in_ok-put_stores.ensures ∙ (ap (λ (l : List StoreKey). l ++ stores_of_file disks c.loop-file.file) c.loop-file.invariant ∙ sym (rows-more disks c.loop-file.file))

pub returns-clause-stores : goal.returns-clause-stores
returns-clause-stores c =
    let mount = c.args.mount.now in
    let disks = length c.disks.result.now in
    let all = ap length c.files.ensures.value in
    let file : c.loop-file.file ≡ length mount.files = omega (arith, all) in
    let is : c.loop-file.keys.items ≡ stores_of mount =
    c.loop-file.invariant
    ∙ (ap (λ n. flat_map (stores_of_file disks) (range_with_len 0 n)) file ∙ ap (λ n. flat_map (stores_of_file n) (range_with_len 0 (length mount.files))) (ap length c.disks.ensures.value)) in
    subst (AreStores mount) (sym is) (stores-are mount c.files.ensures.sound)
