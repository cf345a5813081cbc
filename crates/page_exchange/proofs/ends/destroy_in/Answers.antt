use Rattle.page_exchange.proofs.Ending as ending
use Rattle.page_exchange.proofs.Pairs as pairs
use Rattle.page_exchange.proofs.ends.destroy_in.Goals as goal

pub call_below-requires-clause-pair : goal.call_below-requires-clause-pair
call_below-requires-clause-pair c =
    let two = pairs.two_parted c.args.tree.now c.args.pages 0 c.args.nodes.now c.args.node c.index-high-0.result c.index-low-above.result c.index-high-0.result c.in-Layer.upper c.in-Layer.upper c.requires.tables c.requires.upper c.split_at_mut-low.ensures.front c.split_at_mut-low.ensures.back c.in-Layer.is c.parent-above.ensures.value c.parent-above.ensures.below in
    pairs.pair_is c.args.tree.now _ _ c.args.node _ _ _ _ two c.args.pages 0 c.requires.tables c.requires.upper c.requires.above

pub unreachable-requires : goal.unreachable-requires
unreachable-requires c =
    pairs.no_leaf_above c.args.tree.now c.args.pages 0 c.args.nodes.now c.args.node c.index-low-above.result c.in-Leaf.leaf c.requires.tables c.parent-above.ensures.tree c.requires.upper c.split_at_mut-low.ensures.front c.in-Leaf.is c.parent-above.ensures.value c.parent-above.ensures.below

pub call_below-requires-clause-may : goal.call_below-requires-clause-may
call_below-requires-clause-may c =
    let two = pairs.two_parted c.args.tree.now c.args.pages 0 c.args.nodes.now c.args.node c.index-high-0.result c.index-low-above.result c.index-high-0.result c.in-Layer.upper c.in-Layer.upper c.requires.tables c.requires.upper c.split_at_mut-low.ensures.front c.split_at_mut-low.ensures.back c.in-Layer.is c.parent-above.ensures.value c.parent-above.ensures.below in
    ending.end_calls c.args.tree.now _ _ c.args.node _ _ _ _ two c.args.pages c.requires.tables c.requires.upper c.requires.above c.requires.may

pub call_below-requires-clause-obeys : goal.call_below-requires-clause-obeys
call_below-requires-clause-obeys c =
    let two = pairs.two_parted c.args.tree.now c.args.pages 0 c.args.nodes.now c.args.node c.index-high-0.result c.index-low-above.result c.index-high-0.result c.in-Layer.upper c.in-Layer.upper c.requires.tables c.requires.upper c.split_at_mut-low.ensures.front c.split_at_mut-low.ensures.back c.in-Layer.is c.parent-above.ensures.value c.parent-above.ensures.below in
    ending.end_obeys c.args.tree.now _ _ c.args.node _ _ _ _ two c.args.pages c.requires.tables c.requires.may c.requires.unused

pub returns-clause-left : goal.returns-clause-left
returns-clause-left c =
    let two = pairs.two_parted c.args.tree.now c.args.pages 0 c.args.nodes.now c.args.node c.index-high-0.result c.index-low-above.result c.call_below.new.own c.in-Layer.upper c.call_below.new.above c.requires.tables c.requires.upper c.split_at_mut-low.ensures.front c.split_at_mut-low.ensures.back c.in-Layer.is c.parent-above.ensures.value c.parent-above.ensures.below in
    ending.end_still c.args.tree.now _ _ c.args.node _ _ _ _ two c.args.pages c.requires.tables _ _ _ _ c.call_below.ensures.own c.call_below.ensures.above

pub returns-clause-tables : goal.returns-clause-tables
returns-clause-tables c =
    λ file tables.
    let two = pairs.two_parted c.args.tree.now c.args.pages 0 c.args.nodes.now c.args.node c.index-high-0.result c.index-low-above.result c.call_below.new.own c.in-Layer.upper c.call_below.new.above c.requires.tables c.requires.upper c.split_at_mut-low.ensures.front c.split_at_mut-low.ensures.back c.in-Layer.is c.parent-above.ensures.value c.parent-above.ensures.below in
    pairs.stay c.args.tree.now _ _ c.args.node _ _ _ _ two file c.call_below.ensures.own.same c.call_below.ensures.above.same tables

pub returns-clause-went : goal.returns-clause-went
returns-clause-went c =
    λ file tables.
    let two = pairs.two_parted c.args.tree.now c.args.pages 0 c.args.nodes.now c.args.node c.index-high-0.result c.index-low-above.result c.call_below.new.own c.in-Layer.upper c.call_below.new.above c.requires.tables c.requires.upper c.split_at_mut-low.ensures.front c.split_at_mut-low.ensures.back c.in-Layer.is c.parent-above.ensures.value c.parent-above.ensures.below in
    ending.end_over c.args.tree.now _ _ c.args.node _ _ _ _ two c.args.pages c.requires.tables c.call_below.new.self _ c.call_below.ensures.went file tables
