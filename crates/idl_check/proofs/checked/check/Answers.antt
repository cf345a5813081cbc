use Rattle.std.proofs.Common.{rules}
use Rattle.std.proofs.lemmas.Result.{err_from_is_err_and}
use Rattle.idl_reader.specs.Tree.{idl_tree}
use Rattle.idl_check.proofs.Exactly.{fits_of_none, told_reason, not_fit}
use Rattle.idl_check.proofs.checked.check.Goals as goal

pub returns-in_err-rows-clause-unfit : goal.returns-in_err-rows-clause-unfit
returns-in_err-rows-clause-unfit c =
    let p = err_from_is_err_and c.from_residual.result c.from_residual.ensures.1 in
    let e = c.in_err-rows.field-0.0 in
    rw (p.1, p.2) (λ known. not_fit (idl_tree c.args.idl.now) e (told_reason (idl_tree c.args.idl.now) e (search rules) known))

pub returns-in_err-rows-clause-reason : goal.returns-in_err-rows-clause-reason
returns-in_err-rows-clause-reason c =
    let p = err_from_is_err_and c.from_residual.result c.from_residual.ensures.1 in
    let e = c.in_err-rows.field-0.0 in
    rw (p.1, p.2) (λ known. told_reason (idl_tree c.args.idl.now) e (search rules) known)

pub invariant_of-result : goal.invariant_of-result
invariant_of-result c = record { said = c.requires; fits = fits_of_none (idl_tree c.args.idl.now) (search rules); ranked = search rules }

pub returns-clause-fit : goal.returns-clause-fit
returns-clause-fit c = fits_of_none (idl_tree c.args.idl.now) (search rules)
