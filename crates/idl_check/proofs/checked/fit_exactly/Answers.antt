use Rattle.idl_check.proofs.Exactly.{fits_of_none, none_of_fits, reason_found, found_by}
use Rattle.idl_check.proofs.checked.fit_exactly.Goals as goal

pub returns-clause-fit : goal.returns-clause-fit
returns-clause-fit c decls = (fits_of_none decls, none_of_fits decls)

pub returns-clause-reason : goal.returns-clause-reason
returns-clause-reason c decls e is = reason_found decls e (found_by decls e is)
