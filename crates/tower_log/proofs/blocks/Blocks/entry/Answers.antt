use Rattle.std.proofs.Common.{◌∙◌, ap, sym, arith}
use Rattle.std.specs.List.{slice_get}
use Rattle.tower_log.specs.Blocks.{BlocksSeen}
use Rattle.tower_log.proofs.BlockLaws.{entries-most, entry-in, place-in}
use Rattle.tower_log.proofs.blocks.Blocks.entry.Goals as goal

pub index-block-requires : goal.index-block-requires
index-block-requires c =
    let most = entries-most c.self.inside.blocks.items c.self.invariant.filled in
    omega (arith, c.self.inside.blocks.ok)

pub entry-requires : goal.entry-requires
entry-requires c =
    place-in c.self.inside.blocks.items c.args.place c.index-block.result.now c.self.invariant.filled (omega arith) c.index-block.ensures

pub returns : goal.returns
returns c =
    sym (ap (λ (b : BlocksSeen). slice_get b.entries c.args.place) (sym c.self.view_is)
    ∙ (entry-in c.self.inside.blocks.items c.args.place c.index-block.result.now c.self.invariant.filled (omega arith) c.index-block.ensures ∙ c.entry.ensures))
