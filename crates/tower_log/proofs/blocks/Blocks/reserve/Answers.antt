use Rattle.std.proofs.Common.{refl, ap, arith}
use Rattle.tower_log.specs.Blocks.{BlocksSeen}
use Rattle.tower_log.proofs.BlockLaws.{entries-most, entries-least, open-places}
use Rattle.tower_log.proofs.blocks.Blocks.reserve.Goals as goal

pub loop-fresh-init : goal.loop-fresh-init
loop-fresh-init c =
    let blocks = c.self.inside.blocks in
    let most = entries-most blocks.items c.self.invariant.filled in
    let least = entries-least blocks.items c.self.invariant.filled in
    let sized = blocks.ok in
    let free = open-places c.self.inside.len blocks.len (omega arith) (omega arith) in
    let room = ap (λ (b : BlocksSeen). b.room) c.self.view_is in
    record { entries = refl; room = omega arith; kept = omega arith }
