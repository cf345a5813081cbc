use Rattle.page_exchange.proofs.Pairs as pairs
use Rattle.page_exchange.proofs.pair.ask_in.Goals as goal

pub ask_knowing-requires-clause-pair : goal.ask_knowing-requires-clause-pair
ask_knowing-requires-clause-pair c =
    let two = pairs.two_parted c.args.tree.now c.args.pages c.args.page c.args.nodes.now c.args.node c.index-high-0.result c.index-low-above.result c.index-high-0.result c.in-Layer.upper c.in-Layer.upper c.requires.tables c.requires.upper c.split_at_mut-low.ensures.front c.split_at_mut-low.ensures.back c.in-Layer.is c.parent-above.ensures.value c.parent-above.ensures.below in
    pairs.pair_is c.args.tree.now _ _ c.args.node _ _ _ _ two c.args.pages c.args.page c.requires.tables c.requires.upper c.requires.above

pub unreachable-requires : goal.unreachable-requires
unreachable-requires c = pairs.no_leaf_above c.args.tree.now c.args.pages c.args.page c.args.nodes.now c.args.node c.index-low-above.result c.in-Leaf.leaf c.requires.tables c.parent-above.ensures.tree c.requires.upper c.split_at_mut-low.ensures.front c.in-Leaf.is c.parent-above.ensures.value c.parent-above.ensures.below

pub ask_knowing-requires-clause-may : goal.ask_knowing-requires-clause-may
ask_knowing-requires-clause-may c =
    let two = pairs.two_parted c.args.tree.now c.args.pages c.args.page c.args.nodes.now c.args.node c.index-high-0.result c.index-low-above.result c.index-high-0.result c.in-Layer.upper c.in-Layer.upper c.requires.tables c.requires.upper c.split_at_mut-low.ensures.front c.split_at_mut-low.ensures.back c.in-Layer.is c.parent-above.ensures.value c.parent-above.ensures.below in
    pairs.may_ask c.args.tree.now _ _ c.args.node _ _ _ _ two c.args.pages c.args.page c.requires.tables c.args.what c.requires.about_page c.requires.may.own c.requires.frames

pub ask_knowing-requires-clause-serves : goal.ask_knowing-requires-clause-serves
ask_knowing-requires-clause-serves c =
    let two = pairs.two_parted c.args.tree.now c.args.pages c.args.page c.args.nodes.now c.args.node c.index-high-0.result c.index-low-above.result c.index-high-0.result c.in-Layer.upper c.in-Layer.upper c.requires.tables c.requires.upper c.split_at_mut-low.ensures.front c.split_at_mut-low.ensures.back c.in-Layer.is c.parent-above.ensures.value c.parent-above.ensures.below in
    pairs.may_serve c.args.tree.now _ _ c.args.node _ _ _ _ two c.args.pages c.args.page c.requires.tables c.requires.upper c.requires.above c.args.what c.requires.about_page c.requires.may

pub ask_knowing-requires-clause-known : goal.ask_knowing-requires-clause-known
ask_knowing-requires-clause-known c =
    let two = pairs.two_parted c.args.tree.now c.args.pages c.args.page c.args.nodes.now c.args.node c.index-high-0.result c.index-low-above.result c.index-high-0.result c.in-Layer.upper c.in-Layer.upper c.requires.tables c.requires.upper c.split_at_mut-low.ensures.front c.split_at_mut-low.ensures.back c.in-Layer.is c.parent-above.ensures.value c.parent-above.ensures.below in
    pairs.known_is c.args.tree.now _ _ c.args.node _ _ _ _ two c.args.page c.requires.known

pub returns-clause-ok : goal.returns-clause-ok
returns-clause-ok c =
    let two = pairs.two_parted c.args.tree.now c.args.pages c.args.page c.args.nodes.now c.args.node c.index-high-0.result c.index-low-above.result c.ask_knowing.new.own c.in-Layer.upper c.ask_knowing.new.above c.requires.tables c.requires.upper c.split_at_mut-low.ensures.front c.split_at_mut-low.ensures.back c.in-Layer.is c.parent-above.ensures.value c.parent-above.ensures.below in
    pairs.on_both_ok c.ask_knowing.result (pairs.asked_moved c.args.tree.now _ _ c.args.node _ _ _ _ two c.args.page c.args.what c.requires.about_page) c.ask_knowing.ensures.own c.ask_knowing.ensures.above

pub returns-clause-memory : goal.returns-clause-memory
returns-clause-memory c =
    let two = pairs.two_parted c.args.tree.now c.args.pages c.args.page c.args.nodes.now c.args.node c.index-high-0.result c.index-low-above.result c.ask_knowing.new.own c.in-Layer.upper c.ask_knowing.new.above c.requires.tables c.requires.upper c.split_at_mut-low.ensures.front c.split_at_mut-low.ensures.back c.in-Layer.is c.parent-above.ensures.value c.parent-above.ensures.below in
    pairs.on_both_err c.ask_knowing.result (λ lacks left. pairs.lacks_room c.args.tree.now _ _ c.args.node _ _ _ _ two c.args.page lacks) c.ask_knowing.ensures.memory c.ask_knowing.ensures.own_left

pub returns-clause-left : goal.returns-clause-left
returns-clause-left c =
    let two = pairs.two_parted c.args.tree.now c.args.pages c.args.page c.args.nodes.now c.args.node c.index-high-0.result c.index-low-above.result c.ask_knowing.new.own c.in-Layer.upper c.ask_knowing.new.above c.requires.tables c.requires.upper c.split_at_mut-low.ensures.front c.split_at_mut-low.ensures.back c.in-Layer.is c.parent-above.ensures.value c.parent-above.ensures.below in
    pairs.on_both_err c.ask_knowing.result (pairs.still c.args.tree.now _ _ c.args.node _ _ _ _ two) c.ask_knowing.ensures.own_left c.ask_knowing.ensures.above_left

pub returns-clause-tables : goal.returns-clause-tables
returns-clause-tables c = λ file tables.
    let two = pairs.two_parted c.args.tree.now c.args.pages c.args.page c.args.nodes.now c.args.node c.index-high-0.result c.index-low-above.result c.ask_knowing.new.own c.in-Layer.upper c.ask_knowing.new.above c.requires.tables c.requires.upper c.split_at_mut-low.ensures.front c.split_at_mut-low.ensures.back c.in-Layer.is c.parent-above.ensures.value c.parent-above.ensures.below in
    pairs.either_way c.ask_knowing.result (λ o u. pairs.stay c.args.tree.now _ _ c.args.node _ _ _ _ two file o.same u.same tables) (λ o u. pairs.stay c.args.tree.now _ _ c.args.node _ _ _ _ two file o.same u.same tables)
    c.ask_knowing.ensures.own c.ask_knowing.ensures.above c.ask_knowing.ensures.own_left c.ask_knowing.ensures.above_left

pub returns-clause-follows : goal.returns-clause-follows
returns-clause-follows c =
    let two = pairs.two_parted c.args.tree.now c.args.pages c.args.page c.args.nodes.now c.args.node c.index-high-0.result c.index-low-above.result c.ask_knowing.new.own c.in-Layer.upper c.ask_knowing.new.above c.requires.tables c.requires.upper c.split_at_mut-low.ensures.front c.split_at_mut-low.ensures.back c.in-Layer.is c.parent-above.ensures.value c.parent-above.ensures.below in
    pairs.on_both_ok c.ask_knowing.result (λ own above. pairs.asked_follows c.args.tree.now _ _ c.args.node _ _ _ _ two c.args.pages c.args.page c.requires.tables c.args.what own) c.ask_knowing.ensures.own c.ask_knowing.ensures.above

pub returns-clause-went : goal.returns-clause-went
returns-clause-went c = λ file tables.
    let two = pairs.two_parted c.args.tree.now c.args.pages c.args.page c.args.nodes.now c.args.node c.index-high-0.result c.index-low-above.result c.ask_knowing.new.own c.in-Layer.upper c.ask_knowing.new.above c.requires.tables c.requires.upper c.split_at_mut-low.ensures.front c.split_at_mut-low.ensures.back c.in-Layer.is c.parent-above.ensures.value c.parent-above.ensures.below in
    pairs.asked_frames c.args.tree.now _ _ c.args.node _ _ _ _ two c.ask_knowing.new.self c.args.page c.args.what c.ask_knowing.ensures.went file tables
