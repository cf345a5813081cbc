use Rattle.std.proofs.Common.{◌≡◌, ℕ, ◌&&◌, ◌==◌, Bool, true, sym, ap, ◌∙◌}
use Rattle.std.proofs.lemmas.Bool.{and_parts, eqb-true}
use Rattle.disk_format.specs.declared.shape.ImageShape.{ImageShape}
use Rattle.disk_format.specs.Shape.{blocks_of}
use Rattle.disk_layer.specs.Disk.{Suits}
use Rattle.trial_parts.proofs.disks.disk.Goals as goal

-- a store of the shape's blocks of 64 bytes suits the shape
suits_shape : (shape : ImageShape) (pages size number blocks : ℕ) (t : Bool) → shape ≡ record { page_size = 64; pages = pages } → blocks ≡ blocks_of shape → t ≡ ((size == 64) && (number == blocks)) → t ≡ true → Suits shape size number
suits_shape shape pages size number blocks t e counted answer h =
    let p = and_parts (size == 64) (number == blocks) (sym answer ∙ h) in
    record {
      size = eqb-true size 64 p.0 ∙ sym (ap (λ (s : ImageShape). s.page_size) e);
      number = eqb-true number blocks p.1 ∙ counted;
    }

pub format-requires-clause-suits : goal.format-requires-clause-suits
format-requires-clause-suits c κs =
    suits_shape _ _ _ _ _ _ c.shape_of-shape.ensures.shape c.blocks-blocks.ensures c.has_shape.ensures.answer c.if-not-has_shape.false
