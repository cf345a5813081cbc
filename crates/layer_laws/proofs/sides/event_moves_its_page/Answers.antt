use Rattle.layer_laws.proofs.TrailLaws.{moves_page, moves_nothing}
use Rattle.layer_laws.proofs.sides.event_moves_its_page.Goals as goal

pub returns-clause-page : goal.returns-clause-page
returns-clause-page c = moves_page

pub returns-clause-nothing : goal.returns-clause-nothing
returns-clause-nothing c = moves_nothing
