use Rattle.std.proofs.Common.{◌≡◌, sym, subst}
use Rattle.disk_format.specs.declared.shape.ImageShape.{ImageShape}
use Rattle.mirror_rules.specs.Claims.{Every, every_none}
use Rattle.mirror_layer.proofs.renew.images_for.Goals as goal

pub returns-clause-shapes : goal.returns-clause-shapes
returns-clause-shapes g c = c.take_images.ensures.shapes (subst (λ v. Every (λ (f : ImageShape). f ≡ c.args.shape.now) v) (sym c.new-images.ensures.items) every_none)
