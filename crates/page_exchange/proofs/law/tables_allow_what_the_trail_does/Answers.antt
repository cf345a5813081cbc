use Rattle.page_exchange.proofs.Allowed as allowed
use Rattle.page_exchange.proofs.law.tables_allow_what_the_trail_does.Goals as goal

pub returns-clause-known : goal.returns-clause-known
returns-clause-known c = allowed.known

pub returns-clause-reads : goal.returns-clause-reads
returns-clause-reads c = allowed.reads

pub returns-clause-writes : goal.returns-clause-writes
returns-clause-writes c = allowed.writes

pub returns-clause-grants : goal.returns-clause-grants
returns-clause-grants c = allowed.grants

pub returns-clause-denies : goal.returns-clause-denies
returns-clause-denies c = allowed.denies

pub returns-clause-pushes : goal.returns-clause-pushes
returns-clause-pushes c = allowed.pushes

pub returns-clause-flushes : goal.returns-clause-flushes
returns-clause-flushes c = allowed.flushes

pub returns-clause-deletes : goal.returns-clause-deletes
returns-clause-deletes c = allowed.deletes

pub returns-clause-pages_out : goal.returns-clause-pages_out
returns-clause-pages_out c = allowed.pages_out

pub returns-clause-ends : goal.returns-clause-ends
returns-clause-ends c = allowed.ends
