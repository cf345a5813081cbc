use Rattle.std.proofs.Common.{sym, ap, Option}
use Rattle.page_exchange.specs.declared.table.Table.{Table}
use Rattle.page_exchange.specs.Listed.{side_seen, uses_seen}
use Rattle.page_exchange.proofs.Singles as singles
use Rattle.page_exchange.proofs.tables.Tables.table.Goals as goal

pub returns-clause-file : goal.returns-clause-file
returns-clause-file c = (c.args.self.now.tables.each c.args.node c.index.result.now (singles.there c.args.self.now.tree c.args.self.now.file c.args.self.now.nodes.items c.args.node c.index.result.now c.args.self.now.tables c.requires c.index.ensures)).file_is

pub returns-clause-sides : goal.returns-clause-sides
returns-clause-sides c = λ page. sym (ap (λ (o : Option Table). side_seen o page) (singles.there c.args.self.now.tree c.args.self.now.file c.args.self.now.nodes.items c.args.node c.index.result.now c.args.self.now.tables c.requires c.index.ensures))

pub returns-clause-uses : goal.returns-clause-uses
returns-clause-uses c = sym (ap uses_seen (singles.there c.args.self.now.tree c.args.self.now.file c.args.self.now.nodes.items c.args.node c.index.result.now c.args.self.now.tables c.requires c.index.ensures))
