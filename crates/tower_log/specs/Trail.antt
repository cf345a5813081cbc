-- What contracts see of a trail that is kept.
use Rattle.std.specs.Prelude.{ℕ, List}
use Rattle.tower_log.specs.declared.logged.Logged.{Logged}

pub record TrailSeen : Type 0 where
  -- the size of a page, in bytes
  pub page_size : ℕ
  -- the events and notes, in order
  pub log : List Logged
  -- how many reads may still be entered for which nothing has to be taken
  pub spare : ℕ
  -- for how many more entries, beside those, there is room
  pub room : ℕ
