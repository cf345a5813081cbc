use Rattle.page_exchange.proofs.Fresh as fresh
use Rattle.page_exchange.proofs.tables.Tables.new.Goals as goal

pub returns-clause-bare : goal.returns-clause-bare
returns-clause-bare c = fresh.all_bare c.in_ok-nodes.nodes.items c.in_ok-nodes.ensures.fresh

pub returns-clause-unused : goal.returns-clause-unused
returns-clause-unused c = fresh.none_used c.in_ok-nodes.nodes.items c.in_ok-nodes.ensures.fresh
