use Rattle.std.proofs.Common.{◌≡◌, ℕ, ◌&&◌, ◌==◌, Bool, true, sym, ◌∙◌, length}
use Rattle.std.proofs.lemmas.Bool.{and_parts, eqb-true}
use Rattle.disk_format.specs.Shape.{map_blocks}
use Rattle.disk_layer.specs.Disk.{Suits}
use Rattle.trial_disks.proofs.shape.fits.Goals as goal

-- four blocks of 64 bytes suit two pages
suits-small : (size number : ℕ) (t : Bool) → t ≡ ((size == 64) && (number == 4)) → t ≡ true → Suits (record { page_size = 64; pages = 2 }) size number
unfolding map_blocks
suits-small size number t answer h =
    let p = and_parts (size == 64) (number == 4) (sym answer ∙ h) in
    record { size = eqb-true size 64 p.0; number = eqb-true number 4 p.1 }

pub returns : goal.returns
returns c h = suits-small c.args.store.now.size (length c.args.store.now.content.blocks) c.has_shape.result c.has_shape.ensures.answer h
