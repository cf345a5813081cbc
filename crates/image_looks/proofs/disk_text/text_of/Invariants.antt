use Rattle.std.proofs.Common.{◌≡◌, ◌++◌, drop}
use Rattle.std.specs.List.{flat_map}
use Rattle.image_looks.specs.Disks.{disk_line}
use Rattle.image_looks.proofs.disk_text.text_of.Given as goal

-- the lines that are written, and those that are left to write
abbrev pub invariant-loop-look : goal.invariant-loop-look
invariant-loop-look l = l.out.items ++ flat_map (disk_line l.mount l.looks) (drop l.look-index l.looks) ≡ flat_map (disk_line l.mount l.looks) l.looks
