use Rattle.client_objects.proofs.FoundLaws as laws
use Rattle.client_objects.proofs.laws.found_leads.Goals as goal

pub returns : goal.returns
returns c = laws.found_leads
