-- What holds of every tree whose disks have their stores, over plain variables.
use Rattle.std.proofs.Common.{◌≤◌, refl}
use Rattle.std.proofs.lemmas.Bool.{eq-eqb}
use Rattle.disk_layer.specs.Disk.{Disk}
use Rattle.disk_layer.specs.Disk as disk_layer
use Rattle.page_ground.specs.Seen.{Keeps}
use Rattle.mirror_rules.specs.Tree.{Out}
use Rattle.mirror_rules.specs.Claims.{Pairs, pairs_none, pairs_more}
use Rattle.std.proofs.Common.{[], ◌∷◌}
use Rattle.mirror_layer.specs.declared.node.Mark.{Mark}
use Rattle.mirror_layer.specs.declared.node.Mark.TheVariants as mark
use Rattle.mirror_layer.specs.Shut.{ShutSeen}
use Rattle.mirror_layer.specs.View.{beside_of, beside_of_shut, cell_of, seat_of, why_of, store_of}
use Rattle.mirror_layer.specs.Ground.{Counted, counted}

pub disk-since : (d : Disk) → Keeps (disk_layer.seen_of d) (disk_layer.seen_of d) → d.opened ≤ d.faults
disk-since d k = rw (eq-eqb d.disk d.disk refl) at (k.since d.disk)

pub opened-counted : (m : Mark) (d : Disk) → Keeps (disk_layer.seen_of d) (disk_layer.seen_of d) → Pairs Counted (beside_of d ∷ []) (seat_of m (cell_of d) ∷ [])
opened-counted mark.Live d k = pairs_more (counted refl (disk-since d k)) pairs_none
opened-counted mark.Left d k = pairs_more (counted refl (disk-since d k)) pairs_none
opened-counted mark.Down d k = pairs_more (counted refl (disk-since d k)) pairs_none

pub shut-counted : (s : ShutSeen) → s.opened ≤ s.faults → Pairs Counted (beside_of_shut s ∷ []) (Out (why_of s) (store_of s) ∷ [])
shut-counted s l = pairs_more (counted refl l) pairs_none
