use Rattle.std.proofs.Common.{◌≡◌, ◌++◌, ◌∷◌, ◌∙◌, [], length, length-append, Some, ap, arith}
use Rattle.std.proofs.lemmas.List.Elements.{All-pop}
use Rattle.tower_log.specs.Blocks.{BlocksSeen, entries_in, IsFresh}
use Rattle.tower_log.proofs.BlockLaws.{entries-most, entries-least, block-begun}
use Rattle.tower_log.proofs.blocks.Blocks.begin_block.Goals as goal

pub take_last-block-requires : goal.take_last-block-requires
take_last-block-requires c =
    let least = entries-least c.self.inside.blocks.items c.self.invariant.filled in
    let most = entries-most c.self.inside.blocks.items c.self.invariant.filled in
    let sized = c.self.inside.blocks.ok in
    let room = ap (λ (b : BlocksSeen). b.room) c.self.view_is in
    let full = ap (λ (b : BlocksSeen). length b.entries) c.self.view_is in
    let h = c.requires.full in
    omega arith

pub push-requires : goal.push-requires
push-requires c =
    let none : c.take_last-block.result ≡ [] = (All-pop IsFresh c.self.inside.fresh.items c.take_last-block.new.self.items (Some c.take_last-block.result) c.take_last-block.ensures.items c.self.invariant.fresh).1 in
    let len = ap length none in
    omega arith

pub invariant_of-self : goal.invariant_of-self
invariant_of-self c =
    let rest = All-pop IsFresh c.self.inside.fresh.items c.take_last-block.new.self.items (Some c.take_last-block.result) c.take_last-block.ensures.items c.self.invariant.fresh in
    let view = ap (λ (b : BlocksSeen). length b.entries) c.self.view_is in
    let full = c.requires.full in
    let begun = block-begun c.self.inside.blocks.items c.push_reserved.new.self.items c.take_last-block.result c.push.new.self c.args.entry c.self.invariant.filled (omega arith) rest.1 c.push.ensures c.push_reserved.ensures.items in
    let len = ap length begun.1 in
    let more = length-append (entries_in c.self.inside.blocks.items) (c.args.entry ∷ []) in
    let some = c.take_last-block.ensures.len in
    record { len = omega arith; filled = begun.0; fresh = rest.0; places = omega arith }

pub returns-clause-entries : goal.returns-clause-entries
returns-clause-entries c =
    let rest = All-pop IsFresh c.self.inside.fresh.items c.take_last-block.new.self.items (Some c.take_last-block.result) c.take_last-block.ensures.items c.self.invariant.fresh in
    let view = ap (λ (b : BlocksSeen). length b.entries) c.self.view_is in
    let full = c.requires.full in
    let begun = block-begun c.self.inside.blocks.items c.push_reserved.new.self.items c.take_last-block.result c.push.new.self c.args.entry c.self.invariant.filled (omega arith) rest.1 c.push.ensures c.push_reserved.ensures.items in
    begun.1 ∙ ap (λ (b : BlocksSeen). b.entries ++ c.args.entry ∷ []) c.self.view_is

pub returns-clause-room : goal.returns-clause-room
returns-clause-room c =
    let rest = All-pop IsFresh c.self.inside.fresh.items c.take_last-block.new.self.items (Some c.take_last-block.result) c.take_last-block.ensures.items c.self.invariant.fresh in
    let view = ap (λ (b : BlocksSeen). length b.entries) c.self.view_is in
    let full = c.requires.full in
    let begun = block-begun c.self.inside.blocks.items c.push_reserved.new.self.items c.take_last-block.result c.push.new.self c.args.entry c.self.invariant.filled (omega arith) rest.1 c.push.ensures c.push_reserved.ensures.items in
    let len = ap length begun.1 in
    let more = length-append (entries_in c.self.inside.blocks.items) (c.args.entry ∷ []) in
    let most = entries-most c.self.inside.blocks.items c.self.invariant.filled in
    let sized = c.self.inside.blocks.ok in
    let room = ap (λ (b : BlocksSeen). b.room) c.self.view_is in
    omega (arith, c.requires.room)
