use Rattle.std.proofs.Common.{◌≡◌, ℕ, List, length, get_or, Option, None, sym, ap, subst, ◌∙◌}
use Rattle.std.proofs.lemmas.List.{with_items_is}
use Rattle.script_meaning.specs.Stack.{pages_of}
use Rattle.page_ground.specs.Pages.{cut}
use Rattle.mirror_layer.specs.declared.came.Notice.{Notice}
use Rattle.file_stores.specs.declared.stop.Stop.TheVariants as stops
use Rattle.file_stores.specs.Keys.{stores_of_file}
use Rattle.file_stores.specs.Held.{keys_of}
use Rattle.file_stores.specs.Files.{FileSeen}
use Rattle.file_stores.specs.Notices.{AreAtClose}
use Rattle.file_stores.specs.Opening.{shape_of_file}
use Rattle.file_stores.proofs.StoreLaws.{unopened-lasts}
use Rattle.image_commands.specs.Read.{IsRead, IsUnprinted, unopened}
use Rattle.image_commands.proofs.SaysLaws.{err-part, ok-fact}
use Rattle.image_commands.proofs.FileLaws.{read-lasts, read-of, refused-lasts, refused-of, shape-opened}
use Rattle.image_commands.proofs.pages.read_stores.Goals as goal

pub read_ground-stores-requires-clause-shape : goal.read_ground-stores-requires-clause-shape
read_ground-stores-requires-clause-shape g c κs within =
    let f : FileSeen = c.args.stores in
    shape-opened c.args.mount.now f c.in-Ok.made.items c.in-Ok.ground c.requires.file c.in-Ok.ensures.opened
    ∙ (ap (λ n. shape_of_file c.args.mount.now n) (sym (ap (λ (x : FileSeen). x.file) c.stores.view_is)) ∙ sym c.shape_of-shape.ensures.shape)

pub returns-in-Ok-read-clause-lasts : goal.returns-in-Ok-read-clause-lasts
returns-in-Ok-read-clause-lasts g c =
    let f : FileSeen = c.args.stores in
    let back : FileSeen = c.read_ground-stores.result.0 in
    let read = ok-fact c.read_ground-stores.result.1 c.in-Ok-read.field-0 _ c.in-Ok-read.is c.read_ground-stores.ensures.read in
    let keys : keys_of back.stores ≡ stores_of_file (length back.stores) f.file = c.read_ground-stores.ensures.keys ∙ ap (λ n. stores_of_file (length back.stores) n) (ap (λ (x : FileSeen). x.file) c.stores.view_is) in
    read-lasts c.args.mount.now f back c.in-Ok.made.items c.in-Ok.ground read.0 c.requires.file c.in-Ok.ensures.opened read.1.0 keys read.2

pub returns-in-Ok-read-clause-read : goal.returns-in-Ok-read-clause-read
returns-in-Ok-read-clause-read g c =
    let f : FileSeen = c.args.stores in
    let back : FileSeen = c.read_ground-stores.result.0 in
    let bytes : List ℕ = c.read_ground-stores.new.bytes in
    let read = ok-fact c.read_ground-stores.result.1 c.in-Ok-read.field-0 _ c.in-Ok-read.is c.read_ground-stores.ensures.read in
    let made : List (Option Notice) = c.in-Ok.made.items in
    let told : List (Option Notice) = c.read_ground-stores.new.notices in
    let long : length told ≡ c.in-Ok.made.len = c.read_ground-stores.auto.notices ∙ c.deref_mut.ensures.len in
    let close : AreAtClose read.0 made told = subst (λ (m : List (Option Notice)). AreAtClose read.0 m told) c.deref_mut.ensures.value read.3 in
    let mount = c.args.mount.now in
    subst (λ (t : List (Option Notice)). IsRead mount t f back (cut mount.page_size (pages_of mount f.file) bytes)) (sym (with_items_is c.in-Ok.made told long))
    (read-of mount f back made told c.in-Ok.ground read.0 bytes c.requires.file c.in-Ok.ensures.opened read.1 read.2 (c.read_ground-stores.auto.bytes ∙ c.requires.size) c.in-Ok.ensures.many close)

pub returns-in-Err-read-clause-lasts : goal.returns-in-Err-read-clause-lasts
returns-in-Err-read-clause-lasts g c =
    let f : FileSeen = c.args.stores in
    let back : FileSeen = c.read_ground-stores.result.0 in
    let fails = err-part c.read_ground-stores.result.1 c.in-Err-read.field-0 _ c.in-Err-read.is c.read_ground-stores.ensures.fault in
    let keys : keys_of back.stores ≡ stores_of_file (length back.stores) f.file = c.read_ground-stores.ensures.keys ∙ ap (λ n. stores_of_file (length back.stores) n) (ap (λ (x : FileSeen). x.file) c.stores.view_is) in
    refused-lasts c.args.mount.now f back c.in-Ok.made.items c.in-Ok.ground fails.0 c.in-Err-read.field-0 c.requires.file c.in-Ok.ensures.opened fails.1 keys fails.2

pub returns-in-Err-read-clause-cause : goal.returns-in-Err-read-clause-cause
returns-in-Err-read-clause-cause g c =
    let f : FileSeen = c.args.stores in
    let back : FileSeen = c.read_ground-stores.result.0 in
    let fails = err-part c.read_ground-stores.result.1 c.in-Err-read.field-0 _ c.in-Err-read.is c.read_ground-stores.ensures.fault in
    let made : List (Option Notice) = c.in-Ok.made.items in
    let told : List (Option Notice) = c.read_ground-stores.new.notices in
    let long : length told ≡ c.in-Ok.made.len = c.read_ground-stores.auto.notices ∙ c.deref_mut.ensures.len in
    let close : AreAtClose fails.0 made told = subst (λ (m : List (Option Notice)). AreAtClose fails.0 m told) c.deref_mut.ensures.value fails.3 in
    let mount = c.args.mount.now in
    let fault = c.in-Err-read.field-0 in
    rw (ap (λ (x : FileSeen). x.file) c.stores.view_is)
    (subst (λ (t : List (Option Notice)). IsUnprinted mount t f back (stops.Store (record { file = f.file; disk = fault.disk }) fault.count)) (sym (with_items_is c.in-Ok.made told long))
    (refused-of mount f back made told c.in-Ok.ground fails.0 fault c.requires.file c.in-Ok.ensures.opened fails.1 fails.2 c.in-Ok.ensures.many close))

pub returns-in-Err-clause-lasts : goal.returns-in-Err-clause-lasts
returns-in-Err-clause-lasts g c = unopened-lasts c.args.mount.now c.args.stores c.in-Err.unopened.stores c.in-Err.unopened.stop c.requires.file c.in-Err.ensures.keys c.in-Err.ensures.refused

pub returns-in-Err-clause-cause : goal.returns-in-Err-clause-cause
returns-in-Err-clause-cause g c = unopened c.in-Err.ensures.refused (λ disk. ap (λ (l : List (Option Notice)). get_or l disk None) c.new.ensures.items)
