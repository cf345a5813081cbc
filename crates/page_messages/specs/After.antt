-- What a frame makes of a page of a table.
use Rattle.std.specs.Prelude.{ℕ, Option, Some, None}
use Rattle.layer_laws.specs.Side.{Side, own_after, kid_after}
use Rattle.pager_channel.specs.Seen.{FrameSeen}
use Rattle.page_messages.specs.Kinds.{right_of, bytes_up, bytes_down}

-- a frame of the pager's
abbrev pub after_pager : ℕ → FrameSeen → Side → Side
after_pager page_size f s = own_after (right_of f.head.access) (bytes_down page_size f) s

-- a frame of a child's
abbrev pub after_child : ℕ → FrameSeen → Side → Side
after_child child f s = kid_after child (right_of f.head.access) (bytes_up f) s

-- a frame of the child's, or else of the pager's
abbrev pub page_after : Option ℕ → ℕ → FrameSeen → Side → Side
page_after (Some child) page_size f s = after_child child f s
page_after None page_size f s = after_pager page_size f s
