use Rattle.layer_laws.proofs.Ranges.{range_in, page_in-own, page_in-cleared, page_in-other}
use Rattle.layer_laws.proofs.pages.range_is_of_its_page.Goals as goal

pub returns-clause-read : goal.returns-clause-read
returns-clause-read c = range_in

pub returns-clause-write : goal.returns-clause-write
returns-clause-write c = page_in-own

pub returns-clause-clear : goal.returns-clause-clear
returns-clause-clear c = page_in-cleared

pub returns-clause-others : goal.returns-clause-others
returns-clause-others c = λ size page other off bytes new d within fits. page_in-other size page other off bytes new d within fits
