use Rattle.std.proofs.Common.{◌≡◌, ◌++◌, List, length, ap, sym, subst, ◌∙◌}
use Rattle.script_meaning.specs.declared.store.StoreKey.{StoreKey}
use Rattle.file_stores.specs.Keys.{stores_of_file, AreStores}
use Rattle.file_stores.proofs.FileLaws.{file-stores}
use Rattle.file_stores.proofs.keys.stores_of_one.Goals as goal

pub returns-clause-stores : goal.returns-clause-stores
returns-clause-stores c =
    let mount = c.args.mount.now in
    let is : c.put_stores.new.keys.items ≡ stores_of_file (length mount.disks) c.args.file =
    c.in_ok-put_stores.ensures
    ∙ (ap (λ (l : List StoreKey). l ++ stores_of_file (length c.disks.result.now) c.args.file) c.new-keys.ensures.items ∙ ap (λ n. stores_of_file n c.args.file) (ap length c.disks.ensures.value)) in
    subst (AreStores mount) (sym is) (file-stores mount c.args.file c.disks.ensures.sound c.requires)
