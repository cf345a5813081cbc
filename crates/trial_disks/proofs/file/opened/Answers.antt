use Rattle.std.proofs.Common.{◌≡◌, ℕ, refl, sym, ap, ◌∙◌}
use Rattle.disk_format.specs.declared.shape.ImageShape.{ImageShape}
use Rattle.script_meaning.specs.Stack.{pages_of}
use Rattle.file_stores.specs.Files.{FileSeen}
use Rattle.file_stores.specs.Under.{Under, One, Many, seen_under}
use Rattle.file_stores.specs.Reading.{shape_under}
use Rattle.image_commands.proofs.FileLaws.{shape-opened}
use Rattle.trial_disks.proofs.file.opened.Goals as goal

-- what lies under a file tells the shape of its image
seen-size : (u : Under) → (seen_under u).page_size ≡ (shape_under u).page_size
seen-size (One d) = refl
seen-size (Many g) = refl

seen-number : (u : Under) → (seen_under u).number ≡ (shape_under u).pages
seen-number (One d) = refl
seen-number (Many g) = refl

pub invariant_of-result-clause-size : goal.invariant_of-result-clause-size
invariant_of-result-clause-size c =
    seen-size c.in-Ok.under ∙ (ap (λ (s : ImageShape). s.page_size) (shape-opened c.args.mount.now c.args.stores c.in-Ok.came.items c.in-Ok.under c.requires.file c.in-Ok.ensures.opened) ∙ c.requires.size)

pub invariant_of-result-clause-many : goal.invariant_of-result-clause-many
invariant_of-result-clause-many c =
    seen-number c.in-Ok.under ∙ (ap (λ (s : ImageShape). s.pages) (shape-opened c.args.mount.now c.args.stores c.in-Ok.came.items c.in-Ok.under c.requires.file c.in-Ok.ensures.opened) ∙ (ap (λ (f : FileSeen). pages_of c.args.mount.now f.file) (sym c.stores.view_is) ∙ sym c.pages_of-pages.ensures))
