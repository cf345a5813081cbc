-- Where a call of the second phase goes.
use Rattle.std.specs.Prelude.{ℕ, ◌+◌, ◌-◌, ◌*◌, ◌/◌, ◌%◌, ◌&&◌, nat_lt, ◌==◌, length, Bool, if◌then◌else◌}
use Rattle.script_gen.specs.declared.shape.Shape.{Shape}
use Rattle.script_gen.specs.declared.aim.Aim.{Aim}
use Rattle.script_gen.specs.Shape.{pages_of}
use Rattle.script_gen.specs.Draw.{draw}

-- The pages of a client in a file: its own number, and each eighth from there. Here: how many there are.
abbrev pub own_pages : ℕ → ℕ → ℕ
own_pages pages client = (pages - client + 7) / 8

-- one of the client's own pages; if the file has none, any page
unfoldable pub page_by : ℕ → ℕ → ℕ → ℕ
page_by pages client drawn = if nat_lt client pages then client + 8 * (drawn % own_pages pages client) else drawn % pages

-- four bytes of a page, at a place that four divides
unfoldable pub offset_by : ℕ → ℕ → ℕ
offset_by page_size drawn = 4 * (drawn % (page_size / 4))

abbrev pub file_by : Shape → ℕ → ℕ
file_by shape drawn = drawn % length shape.files

-- where a client goes with three draws: the first gives the file, the second the page, the third the place
abbrev pub aim_by : Shape → ℕ → ℕ → ℕ → ℕ → Aim
aim_by shape client file page off = record { file = file_by shape file; page = page_by (pages_of shape (file_by shape file)) client page; off = offset_by shape.page_size off }

abbrev pub aim_at : Shape → ℕ → ℕ → Aim
aim_at shape client state = aim_by shape client (draw state 1) (draw state 2) (draw state 3)

-- in each fourth round of the clients those write that have pages of their own
unfoldable pub is_turn : ℕ → Bool
is_turn number = (number / 8) % 4 == 3

abbrev pub writes : Shape → ℕ → ℕ → Aim → Bool
writes shape client number aim = is_turn number && nat_lt client (pages_of shape aim.file)
