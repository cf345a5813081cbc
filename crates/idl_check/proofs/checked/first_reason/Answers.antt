use Rattle.idl_check.proofs.Least.{first_place}
use Rattle.idl_check.proofs.checked.first_reason.Goals as goal

pub returns : goal.returns
returns c text decls is e verdict place h = first_place text decls is e place verdict h
