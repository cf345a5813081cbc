use Rattle.page_exchange.proofs.Ending as ending
use Rattle.page_exchange.proofs.Pairs as pairs
use Rattle.page_exchange.proofs.ends.done_in.Goals as goal

pub ask_knowing-requires-clause-pair : goal.ask_knowing-requires-clause-pair
ask_knowing-requires-clause-pair c =
    let two = pairs.two_parted c.args.tree.now c.args.pages 0 c.args.nodes.now c.args.node c.index-high-0.result c.index-low-above.result c.index-high-0.result c.in-Layer.upper c.in-Layer.upper c.requires.tables c.requires.upper c.split_at_mut-low.ensures.front c.split_at_mut-low.ensures.back c.in-Layer.is c.parent-above.ensures.value c.parent-above.ensures.below in
    pairs.pair_is c.args.tree.now _ _ c.args.node _ _ _ _ two c.args.pages 0 c.requires.tables c.requires.upper c.requires.above

pub unreachable-requires : goal.unreachable-requires
unreachable-requires c =
    pairs.no_leaf_above c.args.tree.now c.args.pages 0 c.args.nodes.now c.args.node c.index-low-above.result c.in-Leaf.leaf c.requires.tables c.parent-above.ensures.tree c.requires.upper c.split_at_mut-low.ensures.front c.in-Leaf.is c.parent-above.ensures.value c.parent-above.ensures.below

pub ask_knowing-requires-clause-may : goal.ask_knowing-requires-clause-may
ask_knowing-requires-clause-may c =
    let two = pairs.two_parted c.args.tree.now c.args.pages 0 c.args.nodes.now c.args.node c.index-high-0.result c.index-low-above.result c.index-high-0.result c.in-Layer.upper c.in-Layer.upper c.requires.tables c.requires.upper c.split_at_mut-low.ensures.front c.split_at_mut-low.ensures.back c.in-Layer.is c.parent-above.ensures.value c.parent-above.ensures.below in
    ending.end_asks c.args.tree.now _ _ c.args.node _ _ _ _ two c.args.pages c.requires.tables c.requires.may c.requires.unused

pub ask_knowing-requires-clause-serves : goal.ask_knowing-requires-clause-serves
ask_knowing-requires-clause-serves c =
    let two = pairs.two_parted c.args.tree.now c.args.pages 0 c.args.nodes.now c.args.node c.index-high-0.result c.index-low-above.result c.index-high-0.result c.in-Layer.upper c.in-Layer.upper c.requires.tables c.requires.upper c.split_at_mut-low.ensures.front c.split_at_mut-low.ensures.back c.in-Layer.is c.parent-above.ensures.value c.parent-above.ensures.below in
    ending.end_serves c.args.tree.now _ _ c.args.node _ _ _ _ two c.args.pages c.requires.tables c.requires.above c.requires.may

pub ask_knowing-requires-clause-known : goal.ask_knowing-requires-clause-known
ask_knowing-requires-clause-known c =
    let two = pairs.two_parted c.args.tree.now c.args.pages 0 c.args.nodes.now c.args.node c.index-high-0.result c.index-low-above.result c.index-high-0.result c.in-Layer.upper c.in-Layer.upper c.requires.tables c.requires.upper c.split_at_mut-low.ensures.front c.split_at_mut-low.ensures.back c.in-Layer.is c.parent-above.ensures.value c.parent-above.ensures.below in
    ending.end_knows c.args.tree.now _ _ c.args.node _ _ _ _ two c.args.pages c.requires.tables c.requires.above c.requires.may

pub returns-clause-left : goal.returns-clause-left
returns-clause-left c =
    let two = pairs.two_parted c.args.tree.now c.args.pages 0 c.args.nodes.now c.args.node c.index-high-0.result c.index-low-above.result c.ask_knowing.new.own c.in-Layer.upper c.ask_knowing.new.above c.requires.tables c.requires.upper c.split_at_mut-low.ensures.front c.split_at_mut-low.ensures.back c.in-Layer.is c.parent-above.ensures.value c.parent-above.ensures.below in
    pairs.either_way c.ask_knowing.result (λ o u. ending.end_still c.args.tree.now _ _ c.args.node _ _ _ _ two c.args.pages c.requires.tables _ _ _ _ o u) (λ o u. pairs.still c.args.tree.now _ _ c.args.node _ _ _ _ two o u)
    c.ask_knowing.ensures.own c.ask_knowing.ensures.above c.ask_knowing.ensures.own_left c.ask_knowing.ensures.above_left

pub returns-clause-tables : goal.returns-clause-tables
returns-clause-tables c =
    λ file tables.
    let two = pairs.two_parted c.args.tree.now c.args.pages 0 c.args.nodes.now c.args.node c.index-high-0.result c.index-low-above.result c.ask_knowing.new.own c.in-Layer.upper c.ask_knowing.new.above c.requires.tables c.requires.upper c.split_at_mut-low.ensures.front c.split_at_mut-low.ensures.back c.in-Layer.is c.parent-above.ensures.value c.parent-above.ensures.below in
    pairs.either_way c.ask_knowing.result (λ o u. pairs.stay c.args.tree.now _ _ c.args.node _ _ _ _ two file o.same u.same tables) (λ o u. pairs.stay c.args.tree.now _ _ c.args.node _ _ _ _ two file o.same u.same tables)
    c.ask_knowing.ensures.own c.ask_knowing.ensures.above c.ask_knowing.ensures.own_left c.ask_knowing.ensures.above_left

pub returns-clause-went : goal.returns-clause-went
returns-clause-went c =
    λ file tables.
    let two = pairs.two_parted c.args.tree.now c.args.pages 0 c.args.nodes.now c.args.node c.index-high-0.result c.index-low-above.result c.ask_knowing.new.own c.in-Layer.upper c.ask_knowing.new.above c.requires.tables c.requires.upper c.split_at_mut-low.ensures.front c.split_at_mut-low.ensures.back c.in-Layer.is c.parent-above.ensures.value c.parent-above.ensures.below in
    ending.end_over c.args.tree.now _ _ c.args.node _ _ _ _ two c.args.pages c.requires.tables c.ask_knowing.new.self _ c.ask_knowing.ensures.went file tables
