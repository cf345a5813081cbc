use Rattle.std.proofs.Common.{◌+◌, ◌≤◌, length, subst, sym}
use Rattle.hist_plain.specs.Plain.{overwritten}
use Rattle.page_messages.specs.declared.paged.PagedFile.{PagedFile}
use Rattle.layer_laws.specs.Side.{Side}
use Rattle.page_exchange.specs.Table.{IsWritten}
use Rattle.page_exchange.proofs.Singles as singles
use Rattle.page_exchange.proofs.tables.Tables.change.Goals as goal

pub invariant_of-self-clause-tables : goal.invariant_of-self-clause-tables
invariant_of-self-clause-tables c =
    let one = singles.one_is c.args.self.now.tree c.args.self.now.file c.args.self.now.nodes.items c.args.node c.index_mut-own.result.now c.change.new.self c.args.self.now.tables c.requires.upper c.index_mut-own.ensures.value in
    singles.stay c.args.self.now.tree c.args.self.now.file _ _ c.args.node _ _ c.args.self.now.tables one c.change.ensures.same

pub returns-clause-written : goal.returns-clause-written
returns-clause-written c =
    let one = singles.one_is c.args.self.now.tree c.args.self.now.file c.args.self.now.nodes.items c.args.node c.index_mut-own.result.now c.change.new.self c.args.self.now.tables c.requires.upper c.index_mut-own.ensures.value in
    singles.wrote c.args.self.now.tree c.args.self.now.file _ _ c.args.node _ _ c.args.self.now.tables one c.args.page _ (subst (λ (s : Side). IsWritten c.index_mut-own.result.now c.change.new.self c.args.page (overwritten s.copy c.args.off c.args.bytes.now)) (sym (singles.at_own c.args.self.now.tree c.args.self.now.file _ _ c.args.node _ _ c.args.self.now.tables one c.args.page)) c.change.ensures)

pub returns-clause-follows : goal.returns-clause-follows
returns-clause-follows c =
    let one = singles.one_is c.args.self.now.tree c.args.self.now.file c.args.self.now.nodes.items c.args.node c.index_mut-own.result.now c.change.new.self c.args.self.now.tables c.requires.upper c.index_mut-own.ensures.value in
    singles.write_follows c.args.self.now.tree c.args.self.now.file _ _ c.args.node _ _ c.args.self.now.tables one c.args.page _ c.change.ensures

pub change-requires-clause-range : goal.change-requires-clause-range
change-requires-clause-range c =
    let one = singles.one_is c.args.self.now.tree c.args.self.now.file c.args.self.now.nodes.items c.args.node c.index_mut-own.result.now c.index_mut-own.result.now c.args.self.now.tables c.requires.upper c.index_mut-own.ensures.value in
    subst (λ (f : PagedFile). c.args.off + length c.args.bytes.now ≤ f.page_size) (sym (singles.own_file c.args.self.now.tree c.args.self.now.file _ _ c.args.node _ _ c.args.self.now.tables one)) c.requires.range
