-- What a user is told of the disks of a file in mirrors.
use Rattle.std.specs.Prelude.{◌≡◌, ℕ, ◌<◌, List, [], ◌∷◌, get_or, length, codes, Option, Some, None}
use Rattle.std.specs.List.{flat_map, range_with_len}
use Rattle.text_words.specs.Lines.{line_of}
use Rattle.stack_accept.specs.Mount.{Mount}
use Rattle.script_meaning.specs.Stack.{disk_name, file_name}
use Rattle.mirror_layer.specs.declared.came.Notice.{Notice}
use Rattle.mirror_layer.specs.Notices.{at_close, notice_word}
use Rattle.mirror_layer.specs.Came.{is_live_in}
use Rattle.file_stores.specs.Under.{Under, One, Many}

-- what is told of one disk when its file is closed, by what the opening made of it: nothing, if the file lies on that disk alone
abbrev pub notice_at : Under → ℕ → Option Notice → Option Notice
notice_at (One a) disk opened = None
notice_at (Many g) disk opened = at_close opened (is_live_in g.row disk)

-- the same of all its disks, by their numbers
pub record AreAtClose (under : Under) (made notices : List (Option Notice)) : Type 0 where
  pub many : length notices ≡ length made
  pub each : (disk : ℕ) → disk < length made → get_or notices disk None ≡ notice_at under disk (get_or made disk None)

-- the line of a disk, if anything is told of it
abbrev pub notice_line : Mount → ℕ → ℕ → Option Notice → List ℕ
notice_line mount file disk None = []
notice_line mount file disk (Some notice) = line_of (codes "mirror" ∷ file_name mount file ∷ disk_name mount disk ∷ notice_word notice ∷ [])

-- the lines of the disks of a file, in order
abbrev pub notice_lines : Mount → ℕ → List (Option Notice) → List ℕ
notice_lines mount file notices = flat_map (λ disk. notice_line mount file disk (get_or notices disk None)) (range_with_len 0 (length mount.disks))

-- the lines of the disks of each file, by file and then by disk
abbrev pub all_notices : Mount → List (List (Option Notice)) → List ℕ
all_notices mount told = flat_map (λ file. notice_lines mount file (get_or told file [])) (range_with_len 0 (length mount.files))

-- nothing is told of any disk
abbrev pub NothingTold : List (Option Notice) → Type 0
NothingTold told = (disk : ℕ) → get_or told disk None ≡ None
