use Rattle.std.proofs.Common.{ap, subst}
use Rattle.disk_format.specs.declared.shape.ImageShape.{ImageShape}
use Rattle.disk_format.specs.Shape.{IsShape}
use Rattle.page_messages.specs.declared.paged.PagedFile.{PagedFile}
use Rattle.run_files.proofs.HeldLaws.{paged-of}
use Rattle.run_files.proofs.held.paged_file.Goals as goal

pub returns-clause-paged : goal.returns-clause-paged
returns-clause-paged c =
    let file = c.args.file in
    let is = c.shape_of-shape.ensures.shape in
    paged-of c.args.mount.now file _ c.shape_of-shape.ensures.sound c.requires.file (subst IsShape is c.shape_of-shape.ensures.within)
    (ap (λ (s : ImageShape). let f : PagedFile = record { number = file; page_size = s.page_size; pages = s.pages } in f) is)
