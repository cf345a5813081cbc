-- What the fields of a log's blocks stand for.
use Rattle.std.specs.Prelude.{◌≡◌, ◌+◌, ◌-◌, ◌*◌, ◌≤◌, length, All, vec_len, vec_capacity}
use Rattle.tower_log.specs.declared.blocks.Blocks.TheInside.{Inside}
use Rattle.tower_log.specs.declared.blocks.TheConstants.{BLOCK_LEN}
use Rattle.tower_log.specs.Blocks.{BlocksSeen, entries_in, AreFilled, IsFresh}

-- there is room in the last block and in those in reserve
abbrev pub blocks_seen : Inside → BlocksSeen
blocks_seen b = record {
  entries = entries_in b.blocks.items;
  room = BLOCK_LEN * (vec_len b.blocks + vec_len b.fresh) - length (entries_in b.blocks.items);
}

-- the blocks are filled in order, those in reserve are fresh, and the list of blocks has a place for each of these
pub record AreBlocks (b : Inside) : Type 0 where
  pub len : b.len ≡ length (entries_in b.blocks.items)
  pub filled : AreFilled b.blocks.items
  pub fresh : All IsFresh b.fresh.items
  pub places : vec_len b.blocks + vec_len b.fresh ≤ vec_capacity b.blocks
