use Rattle.std.proofs.Common.{length, arith, ap, ◌∙◌}
use Rattle.std.proofs.lemmas.List.{length-take, length-drop}
use Rattle.disk_format.proofs.ShapeLaws.{shape_fits}
use Rattle.disk_format.proofs.EntryLaws.{length-entries_in}
use Rattle.disk_format.proofs.version_1.read_map.Goals as goal

pub read_entries-requires : goal.read_entries-requires
read_entries-requires c = let f = shape_fits c.args.shape.now c.requires.shape in omega (arith, f.room)

pub wrong_entry-requires-clause-many : goal.wrong_entry-requires-clause-many
wrong_entry-requires-clause-many c = ap length (c.deref.ensures.value ∙ c.in_ok-entries.ensures) ∙ length-entries_in c.args.shape.now.pages c.args.map.now

pub repeated_entry-requires-clause-many : goal.repeated_entry-requires-clause-many
repeated_entry-requires-clause-many c = ap length (c.deref-2.ensures.value ∙ c.in_ok-entries.ensures) ∙ length-entries_in c.args.shape.now.pages c.args.map.now

pub slice_bounds-nonzero_place-count : goal.slice_bounds-nonzero_place-count
slice_bounds-nonzero_place-count c = let f = shape_fits c.args.shape.now c.requires.shape in omega (arith, f.room)

pub slice_bounds-nonzero_place-start : goal.slice_bounds-nonzero_place-start
slice_bounds-nonzero_place-start c = let f = shape_fits c.args.shape.now c.requires.shape in omega (arith, f.room)

pub nonzero_place-requires : goal.nonzero_place-requires
nonzero_place-requires c =
    let f = shape_fits c.args.shape.now c.requires.shape in
    let front = f.front in
    let split = f.split in
    let few = f.few in
    let high = f.sized.high in
    simp (length-take, length-drop) (omega arith)
