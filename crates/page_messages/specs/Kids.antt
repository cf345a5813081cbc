-- What each child of a node may do with a page.
use Rattle.std.specs.Prelude.{ℕ, ◌==◌, if◌then◌else◌}
use Rattle.std.specs.Int.{bit_at}
use Rattle.tower_core.specs.declared.right.Right.{Right}
use Rattle.page_messages.specs.declared.kids.Kids.{Kids}

-- who is in the first set has Write, and who is in the second has Read
abbrev pub kid_in : ℕ → ℕ → Right
kid_in writes reads = if writes == 1 then Right.Write else (if reads == 1 then Right.Read else Right.Nothing)

abbrev pub right_in : Kids → ℕ → Right
right_in kids child = kid_in (bit_at kids.writers child) (bit_at kids.readers child)
