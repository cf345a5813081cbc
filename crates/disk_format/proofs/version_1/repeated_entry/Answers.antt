use Rattle.std.proofs.Common.{◌≡◌, ◌+◌, ◌-◌, ◌<◌, Bool, true, false, length, get_or, set, sym, ap, ◌∙◌, arith, subst, Vec, Global}
use Rattle.disk_format.specs.Shape.{first_data}
use Rattle.std.proofs.lemmas.List.{get_or_read}
use Rattle.disk_format.proofs.SeenLaws.{Looked, named-at, looked-hole, looked-entry, looked-again}
use Rattle.disk_format.proofs.version_1.repeated_entry.Goals as goal
use Rattle.disk_format.proofs.version_1.repeated_entry.Goals.{then-entry-ne0+else-index, else-entry-ne0}

pub overflow_sub-block : goal.overflow_sub-block
overflow_sub-block c =
    let n = named-at c.args.shape.now c.loop-page.page c.args.entries.now c.requires.entries c.loop-page-test.true c.if-entry-ne0.true in
    omega (arith, n.low, c.map_blocks-data.ensures.blocks)

pub index-requires : goal.index-requires
index-requires c =
    let n = named-at c.args.shape.now c.loop-page.page c.args.entries.now c.requires.entries c.loop-page-test.true c.if-entry-ne0.true in
    omega (arith, n.low, n.high, c.map_blocks-data.ensures.blocks, c.loop-page.invariant.1.many, c.loop-page.used.ok.0)

pub index_mut-requires : goal.index_mut-requires
index_mut-requires c =
    let n = named-at c.args.shape.now c.loop-page.page c.args.entries.now c.requires.entries c.loop-page-test.true c.if-entry-ne0.true in
    omega (arith, n.low, n.high, c.map_blocks-data.ensures.blocks, c.loop-page.invariant.1.many, c.loop-page.used.ok.0)

pub returns-then-index : goal.returns-then-index
returns-then-index c =
    let n = named-at c.args.shape.now c.loop-page.page c.args.entries.now c.requires.entries c.loop-page-test.true c.if-entry-ne0.true in
    let e = c.map_blocks-data.ensures.blocks in
    let used = c.loop-page.used.items in
    let entry = get_or c.args.entries.now c.loop-page.page 0 in
    let within : entry - (1 + c.map_blocks-data.result) < length used = omega (arith, n.low, n.high, e, c.loop-page.invariant.1.many) in
    let read = get_or_read used (entry - (1 + c.map_blocks-data.result)) c.index.result.now within c.index.ensures false in
    looked-again c.args.shape.now c.loop-page.page c.args.entries.now used c.loop-page-test.true c.if-entry-ne0.true n c.loop-page.invariant.1
    (ap (λ v. get_or used (entry - (1 + v)) false) (sym e) ∙ sym read ∙ c.if-index.true)

pub loop-page-preserved : goal.loop-page-preserved
loop-page-preserved c = elim c.if-entry-ne0.branch [
  | then-entry-ne0+else-index w ↦
      let n = named-at c.args.shape.now c.loop-page.page c.args.entries.now c.requires.entries c.loop-page-test.true w.if-entry-ne0.true in
      let e = c.map_blocks-data.ensures.blocks in
      let used = c.loop-page.used.items in
      let entry = get_or c.args.entries.now c.loop-page.page 0 in
      let within : entry - (1 + c.map_blocks-data.result) < length used = omega (arith, n.low, n.high, e, c.loop-page.invariant.1.many) in
      let read = get_or_read used (entry - (1 + c.map_blocks-data.result)) w.index.result.now within w.index.ensures false in
      let l = looked-entry c.args.shape.now c.loop-page.page c.args.entries.now used c.loop-page-test.true w.if-entry-ne0.true n c.loop-page.invariant.1
      (ap (λ v. get_or used (entry - (1 + v)) false) (sym e) ∙ sym read ∙ w.if-index.false) in
      let same : c.if-entry-ne0.used.items ≡ set used (entry - first_data c.args.shape.now) true =
      ap (λ (u : Vec Bool Global). u.items) w.used-is ∙ ap (λ v. set used (entry - (1 + v)) true) e in
      (c.loop-page.invariant.0, rw same l)
  | else-entry-ne0 w ↦ (c.loop-page.invariant.0, subst (λ u. Looked c.args.shape.now (c.loop-page.page + 1) c.args.entries.now u.items) (sym w.used-is) (looked-hole c.args.shape.now c.loop-page.page c.args.entries.now c.loop-page.used.items c.loop-page-test.true w.if-entry-ne0.false c.loop-page.invariant.1))
]
