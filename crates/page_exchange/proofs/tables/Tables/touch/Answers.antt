use Rattle.page_exchange.proofs.Singles as singles
use Rattle.page_exchange.proofs.tables.Tables.touch.Goals as goal

pub invariant_of-self-clause-tables : goal.invariant_of-self-clause-tables
invariant_of-self-clause-tables c =
    let one = singles.one_is c.args.self.now.tree c.args.self.now.file c.args.self.now.nodes.items c.args.node c.index_mut-own.result.now c.touch.new.self c.args.self.now.tables c.requires.upper c.index_mut-own.ensures.value in
    singles.stay c.args.self.now.tree c.args.self.now.file _ _ c.args.node _ _ c.args.self.now.tables one c.touch.ensures.same

pub returns-clause-sides : goal.returns-clause-sides
returns-clause-sides c =
    let one = singles.one_is c.args.self.now.tree c.args.self.now.file c.args.self.now.nodes.items c.args.node c.index_mut-own.result.now c.touch.new.self c.args.self.now.tables c.requires.upper c.index_mut-own.ensures.value in
    singles.used_sides c.args.self.now.tree c.args.self.now.file _ _ c.args.node _ _ c.args.self.now.tables one c.args.page c.touch.ensures

pub returns-clause-follows : goal.returns-clause-follows
returns-clause-follows c =
    let one = singles.one_is c.args.self.now.tree c.args.self.now.file c.args.self.now.nodes.items c.args.node c.index_mut-own.result.now c.touch.new.self c.args.self.now.tables c.requires.upper c.index_mut-own.ensures.value in
    singles.read_follows c.args.self.now.tree c.args.self.now.file _ _ c.args.node _ _ c.args.self.now.tables one c.args.page c.touch.ensures
