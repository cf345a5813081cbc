use Rattle.page_exchange.proofs.Moved as moved
use Rattle.page_exchange.proofs.law.exchange_is_of_two_tables.Goals as goal

pub returns-clause-between : goal.returns-clause-between
returns-clause-between c = moved.exchanged_between

pub returns-clause-ground : goal.returns-clause-ground
returns-clause-ground c = moved.exchanged_with_ground
