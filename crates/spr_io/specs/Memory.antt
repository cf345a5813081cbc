-- A store in memory.
use Rattle.std.specs.Prelude.{ℕ, List, Bool, length, ◌==◌, ◌&&◌, slice_set, if◌then◌else◌}
use Rattle.spr_io.specs.Calls.{Calls, fails, one_more, no_calls, count_after}
use Rattle.spr_io.specs.Content.{Content, zeros}

-- its block size, its blocks as read and as kept, its calls so far, and its count of faults
pub record Mem : Type 0 where
  pub size : ℕ
  pub content : Content
  pub reads : Calls
  pub writes : Calls
  pub flushes : Calls
  pub count : ℕ

-- a store of zeros of which some calls are to fail
abbrev pub new_store : ℕ → ℕ → List ℕ → List ℕ → List ℕ → Mem
new_store size blocks reads writes flushes = record { size = size; content = zeros size blocks; reads = no_calls reads; writes = no_calls writes; flushes = no_calls flushes; count = 0 }

-- the store after a read, which changes no block
abbrev pub after_read : Mem → Mem
after_read s = record s { reads = one_more s.reads; count = count_after s.reads s.count }

-- the store after a write of a block, which changes none if it fails
abbrev pub after_write : ℕ → List ℕ → Mem → Mem
after_write block bytes s = record s {
  content = if fails s.writes s.count then s.content else record s.content { blocks = slice_set s.content.blocks block bytes };
  writes = one_more s.writes;
  count = count_after s.writes s.count;
}

-- the store after a flush, which keeps nothing more if it fails
abbrev pub after_flush : Mem → Mem
after_flush s = record s {
  content = if fails s.flushes s.count then s.content else record s.content { kept = s.content.blocks };
  flushes = one_more s.flushes;
  count = count_after s.flushes s.count;
}

-- whether a store has this block size and number of blocks
abbrev pub fits_shape : ℕ → ℕ → Mem → Bool
fits_shape size blocks store = (store.size == size) && (length store.content.blocks == blocks)
