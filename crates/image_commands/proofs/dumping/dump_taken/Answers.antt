use Rattle.std.proofs.Common.{◌≡◌, ℕ, List, length, Option, sym, subst, ◌∙◌, arith}
use Rattle.std.proofs.lemmas.List.{with_items_is}
use Rattle.script_meaning.specs.declared.store.StoreKey.{StoreKey}
use Rattle.script_meaning.specs.Stack.{pages_of}
use Rattle.spr_report.specs.Writing.{Finishes, Writes}
use Rattle.page_ground.specs.Pages.{cut}
use Rattle.mirror_layer.specs.declared.came.Notice.{Notice}
use Rattle.file_stores.specs.declared.stop.Stop.{Stop}
use Rattle.file_stores.specs.Keys.{AreStores}
use Rattle.file_stores.specs.Held.{StoreSeen, AreOut}
use Rattle.file_stores.specs.Files.{FileSeen, Lasts}
use Rattle.file_stores.specs.Notices.{notice_lines}
use Rattle.file_stores.specs.Stop.{stop_text, stop_status}
use Rattle.file_stores.proofs.FileLaws.{file-number, file-stores, pairs-keys, short-file}
use Rattle.file_stores.proofs.NoticeLaws.{offered}
use Rattle.image_commands.specs.Read.{IsRead, IsUnprinted}
use Rattle.image_commands.specs.Says.{PrintsPages}
use Rattle.image_commands.proofs.FileLaws.{dumps-not, dumps-read, turned-of}
use Rattle.image_commands.proofs.SaysLaws.{err-part, ok-fact}
use Rattle.image_commands.proofs.dumping.dump_taken.Goals as goal

pub give_file-requires-clause-short : goal.give_file-requires-clause-short
give_file-requires-clause-short g c κs within =
    let short = short-file c.args.mount.now c.as_file-stores.result c.as_file-stores.ensures.is in
    let many = c.read_stores-stores.ensures.lasts.number in
    omega (arith, short, many)

pub give_file-requires-clause-stores : goal.give_file-requires-clause-stores
give_file-requires-clause-stores g c κs within =
    let mount = c.args.mount.now in
    let f : FileSeen = c.as_file-stores.result in
    let back : FileSeen = c.read_stores-stores.result.stores in
    let is = c.as_file-stores.ensures.is in
    subst (AreStores mount) (sym (pairs-keys Lasts f.stores back.stores c.read_stores-stores.ensures.lasts ∙ is.keys)) (file-stores mount f.file is.sound is.file)

pub give_file-requires-clause-left : goal.give_file-requires-clause-left
give_file-requires-clause-left g c κs within =
    let number = file-number c.args.mount.now c.as_file-stores.result c.as_file-stores.ensures.is in
    let many = c.read_stores-stores.ensures.lasts.number in
    let room = c.requires.left.1 in
    (c.requires.left.0, omega (arith, number, many, room))

pub give_file-requires-clause-lost : goal.give_file-requires-clause-lost
give_file-requires-clause-lost g c κs within =
    let number = file-number c.args.mount.now c.as_file-stores.result c.as_file-stores.ensures.is in
    let many = c.read_stores-stores.ensures.lasts.number in
    let room = c.requires.lost.1 in
    (c.requires.lost.0, omega (arith, number, many, room))

pub returns-in-Ok : goal.returns-in-Ok
returns-in-Ok g c =
    let mount = c.args.mount.now in
    let f : FileSeen = c.as_file-stores.result in
    let back : FileSeen = c.read_stores-stores.result.stores in
    let lost : List StoreKey = c.give_file.new.lost.items in
    let mid = g.B.Bay.told c.args.bay.now in
    let after = g.B.Bay.told c.give_file.new.bay in
    let old = g.K.Sink.told c.args.sink.now in
    let new = g.K.Sink.told c.print_pages.new.sink in
    let heard = g.N.Sink.told c.args.notices.now in
    let hears = g.N.Sink.told c.write_notices.new.sink in
    let out : List ℕ = c.read_stores-stores.new.bytes in
    let pages : List (List ℕ) = cut mount.page_size (pages_of mount c.args.file) out in
    let told : List (Option Notice) = c.read_stores-stores.result.notices.items in
    let read : IsRead mount told f back pages =
    subst (λ n. IsRead mount told f back (cut mount.page_size (pages_of mount n) out)) c.as_file-stores.ensures.file (ok-fact c.read_stores-stores.result.outcome c.in-Ok.field-0 _ c.in-Ok.is c.read_stores-stores.ensures.read) in
    let long : length out ≡ c.args.room.bytes.len = c.read_stores-stores.auto.bytes ∙ c.deref_mut.ensures.len in
    let bytes : c.deref-in-Ok.result.now ≡ out = c.deref-in-Ok.ensures.value ∙ with_items_is c.args.room.bytes out long in
    let prints : PrintsPages mount pages lost old new c.print_pages.result =
    subst (λ (b : List ℕ). PrintsPages mount (cut mount.page_size (pages_of mount c.args.file) b) lost old new c.print_pages.result) bytes
    (subst (λ (l : List StoreKey). PrintsPages mount (cut mount.page_size (pages_of mount c.args.file) c.deref-in-Ok.result.now) l old new c.print_pages.result) c.deref-in-Ok-2.ensures.value c.print_pages.ensures) in
    let writes = subst (λ (t : List (Option Notice)). Writes heard hears (notice_lines mount c.args.file t) c.write_notices.result) c.deref.ensures.value c.write_notices.ensures in
    record {
      ended = λ before taken calm. record {
        notices = notice_lines mount c.args.file told;
        offered = offered heard hears (notice_lines mount c.args.file told) c.write_notices.result writes;
        written = dumps-read mount before after c.args.file told lost pages old new c.print_pages.result
            (turned-of mount before mid after c.args.file f back lost (λ x y. IsRead mount told x y pages) c.as_file-stores.ensures.file c.as_file-stores.ensures.is
            (subst (λ (l : List StoreSeen). AreOut mount before mid l) (sym c.as_file-stores.ensures.all) taken) calm c.read_stores-stores.ensures.lasts c.give_file.ensures read) prints;
      };
    }

pub returns : goal.returns
returns g c =
    let mount = c.args.mount.now in
    let f : FileSeen = c.as_file-stores.result in
    let back : FileSeen = c.read_stores-stores.result.stores in
    let lost : List StoreKey = c.give_file.new.lost.items in
    let stop : Stop = c.in-Err.stop in
    let mid = g.B.Bay.told c.args.bay.now in
    let after = g.B.Bay.told c.give_file.new.bay in
    let old = g.K.Sink.told c.args.sink.now in
    let new = g.K.Sink.told c.stopped.new.sink in
    let heard = g.N.Sink.told c.args.notices.now in
    let hears = g.N.Sink.told c.write_notices.new.sink in
    let told : List (Option Notice) = c.read_stores-stores.result.notices.items in
    let cause = err-part c.read_stores-stores.result.outcome stop _ c.in-Err.is c.read_stores-stores.ensures.cause in
    let writes = subst (λ (t : List (Option Notice)). Writes heard hears (notice_lines mount c.args.file t) c.write_notices.result) c.deref.ensures.value c.write_notices.ensures in
    record {
      ended = λ before taken calm. record {
        notices = notice_lines mount c.args.file told;
        offered = offered heard hears (notice_lines mount c.args.file told) c.write_notices.result writes;
        written = dumps-not mount before after c.args.file told lost stop old new c.stopped.result
            (turned-of mount before mid after c.args.file f back lost (λ x y. IsUnprinted mount told x y stop) c.as_file-stores.ensures.file c.as_file-stores.ensures.is
            (subst (λ (l : List StoreSeen). AreOut mount before mid l) (sym c.as_file-stores.ensures.all) taken) calm c.read_stores-stores.ensures.lasts c.give_file.ensures cause)
            (subst (λ (l : List StoreKey). Finishes old new (stop_text mount stop l) (stop_status stop) c.stopped.result) c.deref-in-Err.ensures.value c.stopped.ensures);
      };
    }
