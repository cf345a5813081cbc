use Rattle.std.proofs.Common.{◌≡◌, replicate, IfSome, sym, ap, ◌∙◌, subst, arith}
use Rattle.disk_format.specs.declared.shape.ImageShape.{ImageShape}
use Rattle.disk_format.specs.Shape.{map_blocks}
use Rattle.disk_format.proofs.ShapeLaws.{size_low}
use Rattle.disk_layer.specs.Disk.{Suits, formatted, pages_named, first_in}
use Rattle.disk_layer.specs.Making.{StaysBlank}
use Rattle.disk_layer.proofs.MappedLaws.{keeps-suits, mapped-fresh}
use Rattle.disk_layer.proofs.MakingLaws.{stays-blank, first-formatted, fresh-pages}
use Rattle.disk_layer.proofs.fresh.write_holes.Goals as goal

pub returns-in-Ok-clause-ok : goal.returns-in-Ok-clause-ok
returns-in-Ok-clause-ok g c =
    let e = c.fresh.view_is in
    let s0 = c.args.store.now in
    let s2 = c.write_map.new.store in
    let before = g.S.Store.content s0 in (
      e,
      mapped-fresh c.fresh.inside.front (g.S.Store.size s0) (g.S.Store.number s0) (g.S.Store.size s2) (g.S.Store.number s2) before (g.S.Store.content s2)
          c.fresh.invariant.0 (subst (λ v. Suits v (g.S.Store.size s0) (g.S.Store.number s0)) (sym e) c.requires.suits) c.in-Ok.ensures.shape
          (c.in-Ok.ensures.ok ∙ ap (λ v. formatted v (map_blocks v) before) c.shape-shape.ensures.shape),
    )

pub returns-in-Ok-clause-pages : goal.returns-in-Ok-clause-pages
returns-in-Ok-clause-pages g c =
    let f = c.fresh.inside.front in
    let after = g.S.Store.content c.write_map.new.store in
    subst (λ (v : ImageShape). IfSome (pages_named f after) (λ ps. ps ≡ replicate v.pages (replicate v.page_size 0))) c.fresh.view_is (fresh-pages f after c.fresh.invariant.0)

pub returns-in-Ok-clause-blank : goal.returns-in-Ok-clause-blank
returns-in-Ok-clause-blank g c =
    let e = c.fresh.view_is in
    let f = c.fresh.inside.front in
    let s0 = c.args.store.now in
    let s2 = c.write_map.new.store in
    let before = g.S.Store.content s0 in
    let after = g.S.Store.content s2 in
    let k = keeps-suits f (g.S.Store.size s0) (g.S.Store.number s0) (g.S.Store.size s2) (g.S.Store.number s2) after
    (subst (λ v. Suits v (g.S.Store.size s0) (g.S.Store.number s0)) (sym e) c.requires.suits) c.in-Ok.ensures.shape in
    let shape = c.shape-shape.result in
    subst (λ v. StaysBlank v before after) e
    (stays-blank f.shape before after (size_low f.shape c.fresh.invariant.0.map.fit) k.told (ap first_in c.in-Ok.ensures.ok ∙ first-formatted shape (map_blocks shape) before (omega arith)))

pub returns-in-Err-clause-blank : goal.returns-in-Err-clause-blank
returns-in-Err-clause-blank g c =
    let e = c.fresh.view_is in
    let f = c.fresh.inside.front in
    let s0 = c.args.store.now in
    let s2 = c.write_map.new.store in
    let before = g.S.Store.content s0 in
    let after = g.S.Store.content s2 in
    let k = keeps-suits f (g.S.Store.size s0) (g.S.Store.number s0) (g.S.Store.size s2) (g.S.Store.number s2) after
    (subst (λ v. Suits v (g.S.Store.size s0) (g.S.Store.number s0)) (sym e) c.requires.suits) c.in-Err.ensures.shape in
    let left = c.in-Err.ensures.err in
    subst (λ v. StaysBlank v before after) e
    (stays-blank f.shape before after (size_low f.shape c.fresh.invariant.0.map.fit) k.told (ap first_in left.2 ∙ first-formatted c.shape-shape.result left.0 before (omega (arith, left.1))))
