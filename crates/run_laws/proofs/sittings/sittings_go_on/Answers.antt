use Rattle.run_laws.proofs.SittingLaws.{closed-are-seen, each-sync-is-dumped, runs-are-seen, sittings-go-on}
use Rattle.run_laws.proofs.sittings.sittings_go_on.Goals as goal

pub returns-clause-sittings : goal.returns-clause-sittings
returns-clause-sittings c = sittings-go-on

pub returns-clause-closed : goal.returns-clause-closed
returns-clause-closed c = closed-are-seen

pub returns-clause-seen : goal.returns-clause-seen
returns-clause-seen c = runs-are-seen

pub returns-clause-dumps : goal.returns-clause-dumps
returns-clause-dumps c = each-sync-is-dumped
