use Rattle.std.proofs.Common.{◌≡◌, ◌⊎◌, ℕ, ◌≤◌, replicate, sym, ap, ◌∙◌, subst}
use Rattle.spr_io.specs.Content.{flushed, written}
use Rattle.disk_format.specs.declared.shape.ImageShape.{ImageShape}
use Rattle.disk_format.specs.Shape.{first_data}
use Rattle.disk_layer.specs.Disk.{Suits, formatted}
use Rattle.disk_layer.specs.Calls.{IsNone, IsNoneOrFresh}
use Rattle.disk_layer.proofs.DiskLaws.{sound-fresh}
use Rattle.disk_layer.proofs.MappedLaws.{keeps-suits}
use Rattle.disk_layer.proofs.RenewLaws.{none-or-fresh, over-told}
use Rattle.disk_layer.proofs.fresh.renew.Goals as goal

pub returns-in-Ok-clause-ok : goal.returns-in-Ok-clause-ok
returns-in-Ok-clause-ok g c =
    let e = c.fresh.view_is in
    let before = g.S.Store.content c.args.store.now in
    let after = g.S.Store.content c.write_over.new.store in (
      e,
      sound-fresh c.fresh.inside.front (g.S.Store.size c.args.store.now) (g.S.Store.number c.args.store.now) (g.S.Store.size c.write_over.new.store) (g.S.Store.number c.write_over.new.store) before after
          c.fresh.invariant.0 (subst (λ v. Suits v (g.S.Store.size c.args.store.now) (g.S.Store.number c.args.store.now)) (sym e) c.requires.suits) c.in-Ok.ensures.shape
          (c.in-Ok.ensures.ok ∙ ap (λ v. flushed (formatted v (first_data v) before)) c.shape-shape.ensures.shape),
    )

pub returns-in-Err-clause-none : goal.returns-in-Err-clause-none
returns-in-Err-clause-none g c =
    let e = c.fresh.view_is in
    let f = c.fresh.inside.front in
    let before = g.S.Store.content c.args.store.now in
    let after = g.S.Store.content c.write_over.new.store in
    let k = keeps-suits f (g.S.Store.size c.args.store.now) (g.S.Store.number c.args.store.now) (g.S.Store.size c.write_over.new.store) (g.S.Store.number c.write_over.new.store) after
    (subst (λ v. Suits v (g.S.Store.size c.args.store.now) (g.S.Store.number c.args.store.now)) (sym e) c.requires.suits) c.in-Err.ensures.shape in
    let over = subst (λ (v : ImageShape). (after ≡ before) ⊎ ((n : ℕ) × (n ≤ first_data v) × (after ≡ formatted v n (written 0 (replicate v.page_size 0) before)))) c.shape-shape.ensures.shape c.in-Err.ensures.err in
    subst (λ v. IsNone v before → IsNoneOrFresh v after) e (none-or-fresh f before after c.fresh.invariant.0 k.told over)

pub returns-in-Err-clause-told : goal.returns-in-Err-clause-told
returns-in-Err-clause-told g c = over-told c.shape-shape.result (g.S.Store.content c.args.store.now) (g.S.Store.content c.write_over.new.store) c.in-Err.ensures.err
