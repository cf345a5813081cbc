use Rattle.std.proofs.Common.{◌≡◌, length, ap, ◌∙◌, sym, subst}
use Rattle.file_stores.specs.Files.{FileSeen, IsFile}
use Rattle.file_stores.proofs.KeyedLaws.{length-stores, suits-keyed}
use Rattle.file_stores.proofs.AloneLaws.{refused-alone}
use Rattle.file_stores.proofs.ManyLaws.{plan-many, some-many, opened-many, refused-many, keys-many}
use Rattle.file_stores.proofs.opening.open_in.Goals as goal

pub open-requires-clause-suits : goal.open-requires-clause-suits
open-requires-clause-suits g c κs within =
    let is = subst (λ (f : FileSeen). IsFile c.args.mount.now f) (sym c.stores.view_is) c.requires.file in
    rw c.shape_of-shape.ensures.shape (suits-keyed g.S.Store.size g.S.Store.number g.S.Store.content g.S.Store.faults c.args.mount.now c.stores.inside.file c.stores.inside.stores.items is)

pub returns-in-Err-clause-refused : goal.returns-in-Err-clause-refused
returns-in-Err-clause-refused g c =
    rw (← c.stores.view_is, c.refused.ensures)
    (refused-alone g.S.Store.size g.S.Store.number g.S.Store.content g.S.Store.faults c.args.mount.now c.stores.inside.file c.stores.inside.stores.items c.in-Err.refused.stores.items c.in-Err.refused.why (rw c.shape_of-shape.ensures.shape at c.in-Err.ensures.refused))

pub open-requires-2-clause-plan : goal.open-requires-2-clause-plan
open-requires-2-clause-plan g c κs within =
    let is = subst (λ (f : FileSeen). IsFile c.args.mount.now f) (sym c.stores.view_is) c.requires.file in
    rw c.ground.ensures.value (plan-many g.S.Store.size g.S.Store.number g.S.Store.content g.S.Store.faults c.args.mount.now c.stores.inside.file c.stores.inside.stores.items is)

pub open-requires-2-clause-suits : goal.open-requires-2-clause-suits
open-requires-2-clause-suits g c κs within =
    let is = subst (λ (f : FileSeen). IsFile c.args.mount.now f) (sym c.stores.view_is) c.requires.file in
    rw c.shape_of-shape.ensures.shape (suits-keyed g.S.Store.size g.S.Store.number g.S.Store.content g.S.Store.faults c.args.mount.now c.stores.inside.file c.stores.inside.stores.items is)

pub returns-in-Ok-open-clause-opened : goal.returns-in-Ok-open-clause-opened
returns-in-Ok-open-clause-opened g c =
    let is = subst (λ (f : FileSeen). IsFile c.args.mount.now f) (sym c.stores.view_is) c.requires.file in
    let some = some-many g.S.Store.size g.S.Store.number g.S.Store.content g.S.Store.faults c.args.mount.now c.stores.inside.file c.stores.inside.stores.items is (λ e. c.if-as_slice-eq1.false (ap (λ l. length l) c.as_slice.ensures.value ∙ e)) in
    rw (← c.stores.view_is)
    (opened-many g.S.Store.size g.S.Store.number g.S.Store.content g.S.Store.faults c.args.mount.now c.stores.inside.file c.stores.inside.stores.items c.open-2.new.came c.in-Ok-open.mirrors some (rw (c.shape_of-shape.ensures.shape, c.ground.ensures.value) at c.in-Ok-open.ensures.opened))

pub returns-in-Err-open-clause-keys : goal.returns-in-Err-open-clause-keys
returns-in-Err-open-clause-keys g c =
    let is = subst (λ (f : FileSeen). IsFile c.args.mount.now f) (sym c.stores.view_is) c.requires.file in
    rw (← c.stores.view_is)
    (keys-many g.S.Store.size g.S.Store.number g.S.Store.content g.S.Store.faults c.args.mount.now c.stores.inside.file c.stores.inside.stores.items c.in-Err-open.refused.stores.items c.in-Err-open.refused.why is (rw (c.shape_of-shape.ensures.shape, c.ground.ensures.value) at c.in-Err-open.ensures.refused))

pub returns-in-Err-open-clause-refused : goal.returns-in-Err-open-clause-refused
returns-in-Err-open-clause-refused g c =
    let is = subst (λ (f : FileSeen). IsFile c.args.mount.now f) (sym c.stores.view_is) c.requires.file in
    let some = some-many g.S.Store.size g.S.Store.number g.S.Store.content g.S.Store.faults c.args.mount.now c.stores.inside.file c.stores.inside.stores.items is (λ e. c.if-as_slice-eq1.false (ap (λ l. length l) c.as_slice.ensures.value ∙ e)) in
    rw (← c.stores.view_is, c.refused_by.ensures)
    (refused-many g.S.Store.size g.S.Store.number g.S.Store.content g.S.Store.faults c.args.mount.now c.stores.inside.file c.stores.inside.stores.items c.in-Err-open.refused.stores.items c.in-Err-open.refused.why some
    (rw (c.shape_of-shape.ensures.shape, c.ground.ensures.value) at c.in-Err-open.ensures.refused))

pub open-requires-2-clause-came : goal.open-requires-2-clause-came
open-requires-2-clause-came g c κs within =
    let room : length c.args.opened.now ≡ length c.args.stores.stores = c.requires.room in
    subst (λ (f : FileSeen). length c.args.opened.now ≡ length f.stores) (sym c.stores.view_is) room ∙ length-stores g.S.Store.size g.S.Store.number g.S.Store.content g.S.Store.faults c.stores.inside.file 0 c.stores.inside.stores.items
