-- The disk alone under a file, told with all that its store holds.
use Rattle.std.specs.Prelude.{◌≡◌, ℕ, ◌≤◌, List, [], ◌∷◌, Bool, true, false, ltb, Some, None, Result, Ok, Err}
use Rattle.std.specs.Option.{option_map}
use Rattle.spr_io.specs.Content.{Content}
use Rattle.page_ground.specs.Seen.{Imaged}
use Rattle.disk_layer.specs.Disk.{Disk, headed, held_on, kept_on, pages_on, settled}
use Rattle.page_ground.specs.declared.fault.StoreFault.{StoreFault}
use Rattle.page_ground.specs.Seen.{DiskSeen, Seen}
use Rattle.mirror_rules.specs.Tree.{limit, next}
use Rattle.mirror_layer.specs.Ground.{due_of}

-- a disk alone as a ground: whether it owes a raise, and the ground's generation, which is that of the disk when it was opened, and then that of
-- the last raise that was taken
pub record Alone : Type 0 where
  pub disk : Disk
  pub owed : Bool
  pub generation : ℕ

-- the disk's own generation is that of the ground, or the next one if a raise was refused; and if nothing is owed it is that
pub record IsAlone (a : Alone) : Type 0 where
  pub low : a.generation ≤ a.disk.generation
  pub high : a.disk.generation ≤ next a.generation
  pub even : a.owed ≡ false → a.disk.generation ≡ a.generation
  pub within : a.generation ≤ limit

-- it was just opened: a raise is owed above generation 1, since the disk may be one side of a mirror that is run alone
pub record IsFirst (a : Alone) : Type 0 where
  pub level : a.generation ≡ a.disk.generation
  pub owes : a.owed ≡ ltb 1 a.generation

-- ONE RAISE of a disk alone: it wrote the next number, all is kept, and no fault happened. Or it was refused; then the ground keeps its number,
-- whatever stands on the disk
abbrev pub IsRaised : Alone → Result (Unit {0}) StoreFault → Alone → Type 0
IsRaised a (Ok u) b = b ≡ record { disk = settled (headed (next a.generation) a.disk); owed = a.owed; generation = next a.generation }
IsRaised a (Err fault) b = (b.owed ≡ a.owed) × (b.generation ≡ a.generation)

-- blocks of a disk's store, if they are told, as if a disk had kept them that is not live
abbrev pub beside : Disk → (Content → List (List ℕ)) → DiskSeen
beside d blocks = record {
  disk = d.disk;
  live = false;
  up = false;
  holds = None;
  kept = option_map {T = Content} (λ c. let all : Imaged = record { generation = 0; pages = blocks c } in Some all) d.content;
  faults = d.faults;
  opened = d.opened;
}

-- the disk as the one under a file, and beside it its store's blocks, as they are read and as they were kept
abbrev pub seen_whole : Alone → Seen
seen_whole a = record {
  page_size = a.disk.shape.page_size;
  number = a.disk.shape.pages;
  pages = pages_on a.disk;
  generation = a.generation;
  due = due_of a.owed a.generation;
  disks = record { disk = a.disk.disk; live = true; up = true; holds = held_on a.disk; kept = kept_on a.disk; faults = a.disk.faults; opened = a.disk.opened }
      ∷ beside a.disk (λ c. c.blocks) ∷ beside a.disk (λ c. c.kept) ∷ [];
}
