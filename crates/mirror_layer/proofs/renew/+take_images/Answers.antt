use Rattle.std.proofs.Common.{◌≡◌, length, sym, subst}
use Rattle.disk_format.specs.declared.shape.ImageShape.{ImageShape}
use Rattle.mirror_rules.specs.Tree.{seats}
use Rattle.mirror_rules.specs.Claims.{Every}
use Rattle.mirror_layer.specs.View.{tree_of}
use Rattle.mirror_layer.proofs.RenewSteps.{every-push, many-both}
use Rattle.mirror_layer.proofs.renew.+take_images.Goals as goal

pub returns-in_ok-push-in-Shut-clause-shapes : goal.returns-in_ok-push-in-Shut-clause-shapes
returns-in_ok-push-in-Shut-clause-shapes g t c h = subst (λ v. Every (λ (f : ImageShape). f ≡ c.args.shape.now) v) (sym c.in_ok-push-in-Shut.ensures.items) (every-push h c.in_ok-new-in-Shut.ensures)

pub returns-in_ok-take_images-in-Mirror-clause-many : goal.returns-in_ok-take_images-in-Mirror-clause-many
returns-in_ok-take_images-in-Mirror-clause-many g t c = rw c.in-Mirror.is
    (many-both c.take_images-in-Mirror-2.result (length c.args.images.now.items) (length c.take_images-in-Mirror.new.images.items) (length c.take_images-in-Mirror-2.new.images.items) (seats (tree_of c.in-Mirror.left.value)) (seats (tree_of c.in-Mirror.right.value))
    (rw c.deref-in-Mirror.ensures at c.in_ok-take_images-in-Mirror.ensures.many) (rw c.deref-in-Mirror-2.ensures at c.take_images-in-Mirror-2.ensures.many))
