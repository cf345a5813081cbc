use Rattle.run_laws.proofs.LastingLaws.{dumps-show, runs-show, sittings-are-chains}
use Rattle.run_laws.proofs.sittings.synced_pages_outlast_sittings.Goals as goal

pub returns-clause-chains : goal.returns-clause-chains
returns-clause-chains c = sittings-are-chains

pub returns-clause-runs : goal.returns-clause-runs
returns-clause-runs c = runs-show

pub returns-clause-dumps : goal.returns-clause-dumps
returns-clause-dumps c = dumps-show
