use Rattle.std.proofs.Common.{◌-◌, ◌++◌, ◌∷◌, ◌∙◌, [], length, length-append, ap, arith}
use Rattle.tower_log.specs.Blocks.{BlocksSeen, entries_in}
use Rattle.tower_log.proofs.BlockLaws.{entries-most, last-open, block-extended}
use Rattle.tower_log.proofs.blocks.Blocks.extend_block.Goals as goal

pub push-requires : goal.push-requires
push-requires c =
    let most = entries-most c.self.inside.blocks.items c.self.invariant.filled in
    let sized = c.self.inside.blocks.ok in
    let view = ap (λ (b : BlocksSeen). length b.entries) c.self.view_is in
    let begun = c.requires.begun in
    last-open c.self.inside.blocks.items (c.len-last.result - 1) c.index_mut-block.result.now c.self.invariant.filled (omega arith) c.index_mut-block.ensures.value (omega arith)

pub invariant_of-self : goal.invariant_of-self
invariant_of-self c =
    let most = entries-most c.self.inside.blocks.items c.self.invariant.filled in
    let sized = c.self.inside.blocks.ok in
    let view = ap (λ (b : BlocksSeen). length b.entries) c.self.view_is in
    let begun = c.requires.begun in
    let grown = block-extended c.self.inside.blocks.items (c.len-last.result - 1) c.index_mut-block.result.now c.push.new.self c.args.entry c.self.invariant.filled (omega arith) (omega arith) c.index_mut-block.ensures.value c.push.ensures in
    let len = ap length grown.1 in
    let more = length-append (entries_in c.self.inside.blocks.items) (c.args.entry ∷ []) in
    record { len = omega arith; filled = grown.0; fresh = c.self.invariant.fresh; places = c.self.invariant.places }

pub returns-clause-entries : goal.returns-clause-entries
returns-clause-entries c =
    let most = entries-most c.self.inside.blocks.items c.self.invariant.filled in
    let sized = c.self.inside.blocks.ok in
    let view = ap (λ (b : BlocksSeen). length b.entries) c.self.view_is in
    let begun = c.requires.begun in
    let grown = block-extended c.self.inside.blocks.items (c.len-last.result - 1) c.index_mut-block.result.now c.push.new.self c.args.entry c.self.invariant.filled (omega arith) (omega arith) c.index_mut-block.ensures.value c.push.ensures in
    grown.1 ∙ ap (λ (b : BlocksSeen). b.entries ++ c.args.entry ∷ []) c.self.view_is

pub returns-clause-room : goal.returns-clause-room
returns-clause-room c =
    let most = entries-most c.self.inside.blocks.items c.self.invariant.filled in
    let sized = c.self.inside.blocks.ok in
    let view = ap (λ (b : BlocksSeen). length b.entries) c.self.view_is in
    let begun = c.requires.begun in
    let grown = block-extended c.self.inside.blocks.items (c.len-last.result - 1) c.index_mut-block.result.now c.push.new.self c.args.entry c.self.invariant.filled (omega arith) (omega arith) c.index_mut-block.ensures.value c.push.ensures in
    let len = ap length grown.1 in
    let more = length-append (entries_in c.self.inside.blocks.items) (c.args.entry ∷ []) in
    let room = ap (λ (b : BlocksSeen). b.room) c.self.view_is in
    omega arith
