use Rattle.sub_replicon.proofs.SentLaws as sent
use Rattle.sub_replicon.proofs.laws.routes_arrive.Goals as goal

pub returns : goal.returns
returns c = sent.routes_arrive
