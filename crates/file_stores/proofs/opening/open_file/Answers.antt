use Rattle.std.proofs.Common.{List, Option, length, ap, sym, subst, ◌∙◌}
use Rattle.std.proofs.lemmas.List.{with_items_is}
use Rattle.mirror_layer.specs.declared.came.Notice.{Notice}
use Rattle.file_stores.specs.Opening.{IsOpened}
use Rattle.file_stores.proofs.FileLaws.{file-number}
use Rattle.file_stores.proofs.StoreLaws.{unopened-memory}
use Rattle.file_stores.proofs.opening.open_file.Goals as goal

pub returns-in_default-clause-refused : goal.returns-in_default-clause-refused
returns-in_default-clause-refused g c = unopened-memory c.args.mount.now c.args.stores c.requires.file

pub open_in-requires-clause-room : goal.open_in-requires-clause-room
open_in-requires-clause-room g c κs within =
    c.deref_mut.ensures.len ∙ (c.in-Ok.ensures.len ∙ (ap (λ l. length l) c.disks.ensures.value ∙ sym (file-number c.args.mount.now c.args.stores c.requires.file)))

pub returns-in-Ok-open_in-clause-opened : goal.returns-in-Ok-open_in-clause-opened
returns-in-Ok-open_in-clause-opened g c =
    let same = with_items_is c.in-Ok.room c.open_in.new.opened (c.in-Ok-open_in.ensures.room ∙ c.deref_mut.ensures.len) in
    subst (λ (l : List (Option Notice)). IsOpened c.args.mount.now c.args.stores l c.in-Ok-open_in.ground) (sym same) c.in-Ok-open_in.ensures.opened

pub returns-in-Ok-open_in-clause-many : goal.returns-in-Ok-open_in-clause-many
returns-in-Ok-open_in-clause-many g c =
    let same = with_items_is c.in-Ok.room c.open_in.new.opened (c.in-Ok-open_in.ensures.room ∙ c.deref_mut.ensures.len) in
    ap (λ l. length l) same
    ∙ (c.in-Ok-open_in.ensures.room ∙ (c.deref_mut.ensures.len ∙ (c.in-Ok.ensures.len ∙ (ap (λ l. length l) c.disks.ensures.value ∙ sym (file-number c.args.mount.now c.args.stores c.requires.file)))))
