-- What holds of where calls go.
use Rattle.std.specs.Prelude.{◌+◌, ◌<◌, ◌≤◌, length}
use Rattle.script_gen.specs.declared.shape.Shape.{Shape}
use Rattle.script_gen.specs.declared.aim.Aim.{Aim}
use Rattle.script_gen.specs.Shape.{pages_of}

-- four bytes within one page of a file
pub record IsWithin (shape : Shape) (aim : Aim) : Type 0 where
  pub file : aim.file < length shape.files
  pub page : aim.page < pages_of shape aim.file
  pub off : aim.off + 4 ≤ shape.page_size
