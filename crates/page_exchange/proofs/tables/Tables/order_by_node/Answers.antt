use Rattle.page_exchange.specs.Steps.{step_called}
use Rattle.page_exchange.proofs.Lent as lent
use Rattle.page_exchange.proofs.Sending as sending
use Rattle.page_exchange.proofs.tables.Tables.order_by_node.Goals as goal

pub invariant_of-self-clause-tables : goal.invariant_of-self-clause-tables
invariant_of-self-clause-tables c = lent.tables_back c.args.self.now.tree c.args.self.now.file c.args.self.now.nodes.items c.deref_mut.result.now c.call_in.new.nodes c.args.self.now.nodes.len c.args.self.now.tables c.args.self.now.nodes.ok.0 c.deref_mut.ensures.value c.call_in.ensures.tables

pub returns-clause-sent : goal.returns-clause-sent
returns-clause-sent c = lent.called_back c.args.self.now.tree c.args.self.now.file c.args.self.now.nodes.items c.deref_mut.result.now c.call_in.new.nodes c.args.self.now.nodes.len c.args.self.now.tables c.args.self.now.nodes.ok.0 c.deref_mut.ensures.value c.call_in.ensures.tables c.args.page c.args.node c.call_in.ensures.apart c.args.what c.requires.about_page c.call_in.ensures.moved

pub returns-clause-follows : goal.returns-clause-follows
returns-clause-follows c = lent.follows_back c.args.self.now.tree c.args.self.now.file c.args.self.now.nodes.items c.deref_mut.result.now c.call_in.new.nodes c.args.self.now.nodes.len c.args.self.now.tables c.args.self.now.nodes.ok.0 c.deref_mut.ensures.value c.call_in.ensures.tables c.args.page c.args.node c.call_in.ensures.apart (step_called c.args.what c.args.node) c.call_in.ensures.follows

pub returns-clause-ground : goal.returns-clause-ground
returns-clause-ground c = sending.called_none _ c.args.node c.args.what _ c.requires.above

pub returns-clause-went : goal.returns-clause-went
returns-clause-went c = lent.called_frames_back c.args.self.now.tree c.args.self.now.file c.args.self.now.nodes.items c.deref_mut.result.now c.call_in.new.nodes c.args.self.now.nodes.len c.args.self.now.tables c.args.self.now.nodes.ok.0 c.deref_mut.ensures.value c.call_in.ensures.tables c.args.page c.args.node c.call_in.ensures.apart c.call_in.new.wire c.args.what c.call_in.ensures.went
