use Rattle.page_exchange.proofs.Telling as telling
use Rattle.page_exchange.proofs.law.ground_tells_its_pages.Goals as goal

pub returns-clause-read : goal.returns-clause-read
returns-clause-read c = telling.told_read

pub returns-clause-given : goal.returns-clause-given
returns-clause-given c = telling.told_given
