use Rattle.page_exchange.specs.Steps.{step_asked}
use Rattle.page_exchange.proofs.Lent as lent
use Rattle.page_exchange.proofs.Sending as sending
use Rattle.page_exchange.proofs.tables.Tables.ask_node.Goals as goal

pub invariant_of-self-clause-tables : goal.invariant_of-self-clause-tables
invariant_of-self-clause-tables c = lent.tables_back c.args.self.now.tree c.args.self.now.file c.args.self.now.nodes.items c.deref_mut.result.now c.ask_in.new.nodes c.args.self.now.nodes.len c.args.self.now.tables c.args.self.now.nodes.ok.0 c.deref_mut.ensures.value c.ask_in.ensures.tables

pub returns-in-Ok-clause-sent : goal.returns-in-Ok-clause-sent
returns-in-Ok-clause-sent c =
    lent.asked_back c.args.self.now.tree c.args.self.now.file c.args.self.now.nodes.items c.deref_mut.result.now c.ask_in.new.nodes c.args.self.now.nodes.len c.args.self.now.tables c.args.self.now.nodes.ok.0 c.deref_mut.ensures.value c.ask_in.ensures.tables c.args.page c.args.node c.ask_in.ensures.apart c.args.what c.requires.about_page c.requires.may.own c.requires.above c.in-Ok.ensures.ok

pub returns-in-Ok-clause-follows : goal.returns-in-Ok-clause-follows
returns-in-Ok-clause-follows c = lent.follows_back c.args.self.now.tree c.args.self.now.file c.args.self.now.nodes.items c.deref_mut.result.now c.ask_in.new.nodes c.args.self.now.nodes.len c.args.self.now.tables c.args.self.now.nodes.ok.0 c.deref_mut.ensures.value c.ask_in.ensures.tables c.args.page c.args.node c.ask_in.ensures.apart (step_asked c.args.what c.args.node) c.in-Ok.ensures.follows

pub returns-in-Ok-clause-ground : goal.returns-in-Ok-clause-ground
returns-in-Ok-clause-ground c = sending.asked_none _ c.args.node c.args.what _ c.requires.above

pub returns-in-Err-clause-ground : goal.returns-in-Err-clause-ground
returns-in-Err-clause-ground c = sending.asked_none _ c.args.node c.args.what _ c.requires.above

pub returns-in-Err-clause-left : goal.returns-in-Err-clause-left
returns-in-Err-clause-left c = let s = lent.left_back c.args.self.now.tree c.args.self.now.file c.args.self.now.nodes.items c.deref_mut.result.now c.ask_in.new.nodes c.args.self.now.nodes.len c.args.self.now.tables c.args.self.now.nodes.ok.0 c.deref_mut.ensures.value c.ask_in.ensures.tables c.in-Err.ensures.left in record { sides = s.sides; uses = s.uses }

pub returns-in-Ok-clause-went : goal.returns-in-Ok-clause-went
returns-in-Ok-clause-went c =
    lent.asked_frames_back c.args.self.now.tree c.args.self.now.file c.args.self.now.nodes.items c.deref_mut.result.now c.ask_in.new.nodes c.args.self.now.nodes.len c.args.self.now.tables c.args.self.now.nodes.ok.0 c.deref_mut.ensures.value c.ask_in.ensures.tables c.args.page c.args.node c.ask_in.ensures.apart c.ask_in.new.wire c.args.what c.requires.above c.in-Ok.ensures.ok c.ask_in.ensures.went
