use Rattle.std.proofs.Common.{subst, sym}
use Rattle.page_exchange.specs.Listed.{AreTablesOf}
use Rattle.page_exchange.proofs.Lent as lent
use Rattle.page_exchange.proofs.tables.Tables.done_at_node.Goals as goal

pub invariant_of-self-clause-tables : goal.invariant_of-self-clause-tables
invariant_of-self-clause-tables c = lent.tables_back c.args.self.now.tree c.args.self.now.file c.args.self.now.nodes.items c.deref_mut.result.now c.done_in.new.nodes c.args.self.now.nodes.len c.args.self.now.tables c.args.self.now.nodes.ok.0 c.deref_mut.ensures.value c.done_in.ensures.tables

pub returns-clause-left : goal.returns-clause-left
returns-clause-left c = let s = lent.left_back c.args.self.now.tree c.args.self.now.file c.args.self.now.nodes.items c.deref_mut.result.now c.done_in.new.nodes c.args.self.now.nodes.len c.args.self.now.tables c.args.self.now.nodes.ok.0 c.deref_mut.ensures.value c.done_in.ensures.tables c.done_in.ensures.left in record { sides = s.sides; uses = s.uses }

pub returns-clause-went : goal.returns-clause-went
returns-clause-went c = c.done_in.ensures.went c.args.self.now.file (subst (AreTablesOf c.args.self.now.tree c.args.self.now.file) (sym c.deref_mut.ensures.value) c.args.self.now.tables)
