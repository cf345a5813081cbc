use Rattle.std.proofs.Common.{replicate, subst}
use Rattle.page_messages.specs.declared.paged.PagedFile.{PagedFile}
use Rattle.page_exchange.specs.Table.{IsWritten}
use Rattle.page_exchange.proofs.Singles as singles
use Rattle.page_exchange.proofs.tables.Tables.blank.Goals as goal

pub invariant_of-self-clause-tables : goal.invariant_of-self-clause-tables
invariant_of-self-clause-tables c =
    let one = singles.one_is c.args.self.now.tree c.args.self.now.file c.args.self.now.nodes.items c.args.node c.index_mut-own.result.now c.blank.new.self c.args.self.now.tables c.requires.upper c.index_mut-own.ensures.value in
    singles.stay c.args.self.now.tree c.args.self.now.file _ _ c.args.node _ _ c.args.self.now.tables one c.blank.ensures.same

pub returns-clause-written : goal.returns-clause-written
returns-clause-written c =
    let one = singles.one_is c.args.self.now.tree c.args.self.now.file c.args.self.now.nodes.items c.args.node c.index_mut-own.result.now c.blank.new.self c.args.self.now.tables c.requires.upper c.index_mut-own.ensures.value in
    singles.wrote c.args.self.now.tree c.args.self.now.file _ _ c.args.node _ _ c.args.self.now.tables one c.args.page _ (subst (λ (f : PagedFile). IsWritten c.index_mut-own.result.now c.blank.new.self c.args.page (replicate f.page_size 0)) (singles.file_is c.args.self.now.tree c.args.self.now.file _ _ c.args.node _ _ c.args.self.now.tables one) c.blank.ensures)

pub returns-clause-follows : goal.returns-clause-follows
returns-clause-follows c =
    let one = singles.one_is c.args.self.now.tree c.args.self.now.file c.args.self.now.nodes.items c.args.node c.index_mut-own.result.now c.blank.new.self c.args.self.now.tables c.requires.upper c.index_mut-own.ensures.value in
    singles.write_follows c.args.self.now.tree c.args.self.now.file _ _ c.args.node _ _ c.args.self.now.tables one c.args.page _ c.blank.ensures
