use Rattle.std.proofs.Common.{◌+◌, ◌<◌, replicate, ap, ◌∙◌, arith}
use Rattle.spr_io.specs.Content.{written}
use Rattle.disk_format.specs.Shape.{map_blocks}
use Rattle.disk_format.proofs.ShapeLaws.{shape_fits}
use Rattle.disk_layer.proofs.BlockLaws.{laid-part, keeps-from, some-map}
use Rattle.disk_layer.proofs.fresh.write_map.Goals as goal

pub loop-part-preserved : goal.loop-part-preserved
loop-part-preserved g c =
    let i = c.loop-part.invariant in
    let e = c.in_ok-write.ensures in
    let shape = c.args.shape.now in
    let n = c.loop-part.part in
    let s0 = c.args.store.now in
    let s1 = c.loop-part.store in
    let s2 = c.write.new.self in
    let lt : n < map_blocks shape = omega (arith, c.loop-part-test.true, c.map_blocks-part-end.ensures.blocks) in
    record {
      content = e.ok ∙ (ap (λ x. written (1 + n) x (g.S.Store.content s1)) c.requires.zeros ∙ (ap (λ k. written (1 + n) (replicate shape.page_size 0) k) i.content ∙ laid-part shape n (g.S.Store.content s0) lt));
      size = e.shape.same_size ∙ i.size;
      number = e.shape.same_number ∙ i.number;
      calm = e.calm ∙ i.calm;
      shaped = λ _. keeps-from (g.S.Store.size s0) (g.S.Store.number s0) (g.S.Store.size s1) (g.S.Store.number s1) (g.S.Store.size s2) (g.S.Store.number s2) (g.S.Store.content s2) i.size i.number e.shape;
      fits = λ _. e.cause.fits;
    }

pub returns-clause-shape : goal.returns-clause-shape
returns-clause-shape g c =
    let shape = c.args.shape.now in
    let f = shape_fits shape c.requires.shape in
    let some = some-map (map_blocks shape) shape.page_size shape.pages f.some f.room in
    c.loop-part.invariant.shaped (omega (arith, some, c.loop-part-test.false, c.map_blocks-part-end.ensures.blocks))

pub returns-clause-cause : goal.returns-clause-cause
returns-clause-cause g c =
    let shape = c.args.shape.now in
    let f = shape_fits shape c.requires.shape in
    let some = some-map (map_blocks shape) shape.page_size shape.pages f.some f.room in
    let calm = c.loop-part.invariant.calm in
    record {
      later = omega (arith, calm);
      rose = λ q. cc;
      fits = c.loop-part.invariant.fits (omega (arith, some, c.loop-part-test.false, c.map_blocks-part-end.ensures.blocks));
    }
