use Rattle.sub_core.proofs.Objects.{arrives}
use Rattle.sub_core.proofs.laws.sent_arrives.Goals as goal

pub returns : goal.returns
returns g c = arrives g.S.Subcontract.form g.S.Subcontract.route
