-- What a generated script is made for.
use Rattle.std.specs.Prelude.{ℕ, ◌≤◌, ◌%◌, [], length, slice_index_or, false}
use Rattle.std.specs.List.{AllByRecursion}
use Rattle.hist_plain.specs.declared.TheConstants.{MAX_PAGES}
use Rattle.hist_plain.specs.Plain.{IsPageSize}
use Rattle.text_words.specs.Words.{IsName}
use Rattle.script_gen.specs.declared.TheConstants.{MAX_FILES}
use Rattle.script_gen.specs.declared.shape.Shape.{Shape}
use Rattle.script_gen.specs.declared.shape.ShapeFile.{ShapeFile}
use Rattle.script_gen.specs.declared.shape.ShapeSeat.{ShapeSeat}

pub record IsFile (file : ShapeFile) : Type 0 where
  pub name : IsName file.name
  pub some : 1 ≤ file.pages
  pub few : file.pages ≤ MAX_PAGES

pub record IsSeat (seat : ShapeSeat) : Type 0 where
  pub view : IsName seat.view
  pub machine : IsName seat.machine

-- a shape within the limits of a stack
pub record IsShape (shape : Shape) : Type 0 where
  pub page_size : IsPageSize shape.page_size
  pub some_file : 1 ≤ length shape.files
  pub few_files : length shape.files ≤ MAX_FILES
  pub files : AllByRecursion IsFile shape.files
  pub some_seat : 1 ≤ length shape.seats
  pub seats : AllByRecursion IsSeat shape.seats

abbrev pub no_file : ShapeFile
no_file = record { name = []; pages = 0 }

abbrev pub no_seat : ShapeSeat
no_seat = record { view = []; machine = []; maps = false }

-- how many pages the file of a number has
abbrev pub pages_of : Shape → ℕ → ℕ
pages_of shape file = (slice_index_or shape.files file no_file).pages

-- the seat of a client: the seats in order, and from the first again
abbrev pub seat_of : Shape → ℕ → ShapeSeat
seat_of shape client = slice_index_or shape.seats (client % length shape.seats) no_seat
