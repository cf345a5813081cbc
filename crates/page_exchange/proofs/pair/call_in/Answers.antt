use Rattle.page_exchange.proofs.Pairs as pairs
use Rattle.page_exchange.proofs.pair.call_in.Goals as goal

pub call_below-requires-clause-pair : goal.call_below-requires-clause-pair
call_below-requires-clause-pair c =
    let two = pairs.two_parted c.args.tree.now c.args.pages c.args.page c.args.nodes.now c.args.node c.index-high-0.result c.index-low-above.result c.index-high-0.result c.in-Layer.upper c.in-Layer.upper c.requires.tables c.requires.upper c.split_at_mut-low.ensures.front c.split_at_mut-low.ensures.back c.in-Layer.is c.parent-above.ensures.value c.parent-above.ensures.below in
    pairs.pair_is c.args.tree.now _ _ c.args.node _ _ _ _ two c.args.pages c.args.page c.requires.tables c.requires.upper c.requires.above

pub unreachable-requires : goal.unreachable-requires
unreachable-requires c = pairs.no_leaf_above c.args.tree.now c.args.pages c.args.page c.args.nodes.now c.args.node c.index-low-above.result c.in-Leaf.leaf c.requires.tables c.parent-above.ensures.tree c.requires.upper c.split_at_mut-low.ensures.front c.in-Leaf.is c.parent-above.ensures.value c.parent-above.ensures.below

pub call_below-requires-clause-may : goal.call_below-requires-clause-may
call_below-requires-clause-may c =
    let two = pairs.two_parted c.args.tree.now c.args.pages c.args.page c.args.nodes.now c.args.node c.index-high-0.result c.index-low-above.result c.index-high-0.result c.in-Layer.upper c.in-Layer.upper c.requires.tables c.requires.upper c.split_at_mut-low.ensures.front c.split_at_mut-low.ensures.back c.in-Layer.is c.parent-above.ensures.value c.parent-above.ensures.below in
    pairs.may_call c.args.tree.now _ _ c.args.node _ _ _ _ two c.args.pages c.args.page c.requires.tables c.requires.upper c.requires.above c.args.what c.requires.about_page c.requires.may

pub call_below-requires-clause-obeys : goal.call_below-requires-clause-obeys
call_below-requires-clause-obeys c =
    let two = pairs.two_parted c.args.tree.now c.args.pages c.args.page c.args.nodes.now c.args.node c.index-high-0.result c.index-low-above.result c.index-high-0.result c.in-Layer.upper c.in-Layer.upper c.requires.tables c.requires.upper c.split_at_mut-low.ensures.front c.split_at_mut-low.ensures.back c.in-Layer.is c.parent-above.ensures.value c.parent-above.ensures.below in
    pairs.may_obey c.args.tree.now _ _ c.args.node _ _ _ _ two c.args.pages c.args.page c.requires.tables c.args.what c.requires.about_page c.requires.may

pub returns-clause-moved : goal.returns-clause-moved
returns-clause-moved c =
    let two = pairs.two_parted c.args.tree.now c.args.pages c.args.page c.args.nodes.now c.args.node c.index-high-0.result c.index-low-above.result c.call_below.new.own c.in-Layer.upper c.call_below.new.above c.requires.tables c.requires.upper c.split_at_mut-low.ensures.front c.split_at_mut-low.ensures.back c.in-Layer.is c.parent-above.ensures.value c.parent-above.ensures.below in
    pairs.called_moved c.args.tree.now _ _ c.args.node _ _ _ _ two c.args.page c.args.what c.requires.about_page c.call_below.ensures.own c.call_below.ensures.above

pub returns-clause-tables : goal.returns-clause-tables
returns-clause-tables c = λ file tables.
    let two = pairs.two_parted c.args.tree.now c.args.pages c.args.page c.args.nodes.now c.args.node c.index-high-0.result c.index-low-above.result c.call_below.new.own c.in-Layer.upper c.call_below.new.above c.requires.tables c.requires.upper c.split_at_mut-low.ensures.front c.split_at_mut-low.ensures.back c.in-Layer.is c.parent-above.ensures.value c.parent-above.ensures.below in
    pairs.stay c.args.tree.now _ _ c.args.node _ _ _ _ two file c.call_below.ensures.own.same c.call_below.ensures.above.same tables

pub returns-clause-follows : goal.returns-clause-follows
returns-clause-follows c =
    let two = pairs.two_parted c.args.tree.now c.args.pages c.args.page c.args.nodes.now c.args.node c.index-high-0.result c.index-low-above.result c.call_below.new.own c.in-Layer.upper c.call_below.new.above c.requires.tables c.requires.upper c.split_at_mut-low.ensures.front c.split_at_mut-low.ensures.back c.in-Layer.is c.parent-above.ensures.value c.parent-above.ensures.below in
    pairs.called_follows c.args.tree.now _ _ c.args.node _ _ _ _ two c.args.pages c.args.page c.requires.tables c.args.what c.call_below.ensures.own

pub returns-clause-went : goal.returns-clause-went
returns-clause-went c =
    let two = pairs.two_parted c.args.tree.now c.args.pages c.args.page c.args.nodes.now c.args.node c.index-high-0.result c.index-low-above.result c.call_below.new.own c.in-Layer.upper c.call_below.new.above c.requires.tables c.requires.upper c.split_at_mut-low.ensures.front c.split_at_mut-low.ensures.back c.in-Layer.is c.parent-above.ensures.value c.parent-above.ensures.below in
    pairs.called_frames c.args.tree.now _ _ c.args.node _ _ _ _ two c.call_below.new.self c.args.page c.args.what c.call_below.ensures.went
