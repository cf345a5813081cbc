use Rattle.std.proofs.Common.{List, length, ap, arith}
use Rattle.tower_log.specs.declared.logged.Entry.{Entry}
use Rattle.tower_log.specs.Blocks.{BlocksSeen, entries_in}
use Rattle.tower_log.proofs.BlockLaws.{entries-most}
use Rattle.tower_log.proofs.blocks.Blocks.add_block.Goals as goal

pub returns-clause-ok : goal.returns-clause-ok
returns-clause-ok c =
    let most = entries-most c.self.inside.blocks.items c.self.invariant.filled in
    let len = ap (λ (bs : List (List Entry)). length (entries_in bs)) c.reserve.ensures.items in
    let room = ap (λ (b : BlocksSeen). b.room) c.self.view_is in
    let sized = c.self.inside.blocks.ok in
    omega (arith, c.in_ok-push.ensures.len)
