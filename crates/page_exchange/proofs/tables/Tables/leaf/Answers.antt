use Rattle.std.specs.Prelude.{slice_get}
use Rattle.std.proofs.Common.{◌≡◌, sym, ap, subst, Option, Some}
use Rattle.page_exchange.specs.declared.table.Table.{Table}
use Rattle.page_exchange.specs.declared.table.Table.TheVariants.{Layer, Leaf}
use Rattle.page_exchange.specs.Listed.{side_seen, uses_seen}
use Rattle.page_exchange.proofs.Singles as singles
use Rattle.page_exchange.proofs.tables.Tables.leaf.Goals as goal

pub unreachable-requires : goal.unreachable-requires
unreachable-requires c =
    c.requires.leaf (sym (c.args.self.now.tables.each c.args.node (Layer c.in-Layer.node) (subst (λ (t : Table). slice_get c.args.self.now.nodes.items c.args.node ≡ Some t) c.in-Layer.is (singles.there c.args.self.now.tree c.args.self.now.file c.args.self.now.nodes.items c.args.node c.index.result.now c.args.self.now.tables c.requires.upper c.index.ensures))).frames)

pub returns-clause-file : goal.returns-clause-file
returns-clause-file c = (c.args.self.now.tables.each c.args.node (Leaf c.in-Leaf.leaf) (subst (λ (t : Table). slice_get c.args.self.now.nodes.items c.args.node ≡ Some t) c.in-Leaf.is (singles.there c.args.self.now.tree c.args.self.now.file c.args.self.now.nodes.items c.args.node c.index.result.now c.args.self.now.tables c.requires.upper c.index.ensures))).file_is

pub returns-clause-sides : goal.returns-clause-sides
returns-clause-sides c = λ page. sym (ap (λ (o : Option Table). side_seen o page) (subst (λ (t : Table). slice_get c.args.self.now.nodes.items c.args.node ≡ Some t) c.in-Leaf.is (singles.there c.args.self.now.tree c.args.self.now.file c.args.self.now.nodes.items c.args.node c.index.result.now c.args.self.now.tables c.requires.upper c.index.ensures)))

pub returns-clause-uses : goal.returns-clause-uses
returns-clause-uses c = sym (ap uses_seen (subst (λ (t : Table). slice_get c.args.self.now.nodes.items c.args.node ≡ Some t) c.in-Leaf.is (singles.there c.args.self.now.tree c.args.self.now.file c.args.self.now.nodes.items c.args.node c.index.result.now c.args.self.now.tables c.requires.upper c.index.ensures)))
