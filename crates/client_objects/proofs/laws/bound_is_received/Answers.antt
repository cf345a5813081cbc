use Rattle.client_objects.proofs.ReceivedLaws as laws
use Rattle.client_objects.proofs.laws.bound_is_received.Goals as goal

pub returns-clause-bound : goal.returns-clause-bound
returns-clause-bound c = laws.bound_is_received
