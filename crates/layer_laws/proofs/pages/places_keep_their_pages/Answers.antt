use Rattle.layer_laws.proofs.Newest.{shown-earlier, page_at-newest}
use Rattle.layer_laws.proofs.pages.places_keep_their_pages.Goals as goal

pub returns-clause-earlier : goal.returns-clause-earlier
returns-clause-earlier c = shown-earlier

pub returns-clause-newest : goal.returns-clause-newest
returns-clause-newest c = page_at-newest
