use Rattle.client_objects.proofs.ReceivedLaws as laws
use Rattle.client_objects.proofs.laws.received_leads.Goals as goal

pub returns : goal.returns
returns c = laws.received_leads
