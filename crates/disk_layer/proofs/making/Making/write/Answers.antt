use Rattle.std.proofs.Common.{subst}
use Rattle.spr_io.specs.Content.{IsShaped}
use Rattle.disk_format.specs.declared.shape.ImageShape.{ImageShape}
use Rattle.disk_format.specs.Shape.{blocks_of}
use Rattle.disk_format.proofs.ShapeLaws.{size_low}
use Rattle.disk_layer.specs.Making.{Making, StaysBlank}
use Rattle.disk_layer.proofs.MappedLaws.{mapped-shaped}
use Rattle.disk_layer.proofs.MakingLaws.{stays-blank}
use Rattle.disk_layer.proofs.making.Making.write.Goals as goal

pub returns-in-Err-clause-blank : goal.returns-in-Err-clause-blank
returns-in-Err-clause-blank g c =
    let f = c.self.inside.front in
    let f2 = c.write_page.new.front in
    let s0 = c.self.inside.store in
    let s2 = c.write_page.new.store in
    let e = c.write_page.ensures in
    let before = g.S.Store.content s0 in
    let after = g.S.Store.content s2 in
    let shaped : IsShaped f.shape.page_size (blocks_of f.shape) after =
    subst (λ (v : ImageShape). IsShaped v.page_size (blocks_of v) after) e.shape (mapped-shaped f2 (g.S.Store.size s2) (g.S.Store.number s2) after e.mapped) in
    subst (λ (v : Making). StaysBlank v.shape v.content after) c.self.view_is (stays-blank f.shape before after (size_low f.shape c.self.invariant.map.fit) shaped e.first)

pub returns-clause-blank : goal.returns-clause-blank
returns-clause-blank g c =
    let f = c.self.inside.front in
    let f2 = c.write_page.new.front in
    let s0 = c.self.inside.store in
    let s2 = c.write_page.new.store in
    let e = c.write_page.ensures in
    let before = g.S.Store.content s0 in
    let after = g.S.Store.content s2 in
    let shaped : IsShaped f.shape.page_size (blocks_of f.shape) after =
    subst (λ (v : ImageShape). IsShaped v.page_size (blocks_of v) after) e.shape (mapped-shaped f2 (g.S.Store.size s2) (g.S.Store.number s2) after e.mapped) in
    subst (λ (v : Making). StaysBlank v.shape v.content after) c.self.view_is (stays-blank f.shape before after (size_low f.shape c.self.invariant.map.fit) shaped e.first)
