-- What lies under a file: its disk, or its disks in mirrors.
use Rattle.std.specs.Prelude.{◌≤◌}
use Rattle.disk_layer.specs.Disk.{HasImage}
use Rattle.page_ground.specs.Seen.{Seen}
use Rattle.mirror_layer.specs.Ground.{Ground, IsGround, seen_of}
use Rattle.mirror_layer.specs.Stores.{Numbered}
use Rattle.file_stores.specs.declared.ground.Either.{Either}
use Rattle.file_stores.specs.declared.ground.Either.TheVariants as either
use Rattle.file_stores.specs.WholeDisk.{Alone, IsAlone, seen_whole}

-- a disk, or disks in mirrors
pub data Under : Type 0 where
  One : Alone → Under
  Many : Ground → Under

-- what a file asks of it
abbrev pub seen_under : Under → Seen
seen_under (One a) = seen_whole a
seen_under (Many g) = seen_of g

-- the one or the other
abbrev pub under_in : {S : Type 0} → Either S → Under
under_in (either.One a) = One a
under_in (either.Many g) = Many g

-- what is true of each: a disk has an image, and no fewer faults than when it was opened, and its generation is near the ground's
abbrev pub IsSound : Under → Type 0
IsSound (One a) = HasImage a.disk × (a.disk.opened ≤ a.disk.faults) × IsAlone a
IsSound (Many g) = IsGround g × Numbered g.beside
