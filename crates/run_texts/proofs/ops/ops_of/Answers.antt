use Rattle.std.proofs.Common.{◌++◌}
use Rattle.std.proofs.lemmas.Result.{err_from_is_err_and}
use Rattle.run_texts.specs.declared.ops.TheConstants.{PAGER, CACHE, FILE}
use Rattle.run_texts.proofs.Missing.{missing_in_front, missing_behind, are_there}
use Rattle.run_texts.proofs.OwnNumbers.{pager_differ, cache_differ, file_differ}
use Rattle.run_texts.proofs.ops.ops_of.Goals as goal

pub returns-in_err-pager-clause-err : goal.returns-in_err-pager-clause-err
returns-in_err-pager-clause-err c =
    let told = err_from_is_err_and c.from_residual.result c.from_residual.ensures.1 in
    rw (told.1, told.2) (missing_in_front c.args.tables.now c.in_err-pager.field-0.0 PAGER (CACHE ++ FILE) c.in_err-pager.ensures.err)

pub returns-in_err-cache-clause-err : goal.returns-in_err-cache-clause-err
returns-in_err-cache-clause-err c =
    let told = err_from_is_err_and c.from_residual-in_err-cache.result c.from_residual-in_err-cache.ensures.1 in
    let pager = are_there c.args.tables.now PAGER c.in_ok-pager.pager c.in_ok-pager.ensures.ok in
    rw (told.1, told.2)
    (missing_behind c.args.tables.now c.in_err-cache.field-0.0 PAGER (CACHE ++ FILE) pager (missing_in_front c.args.tables.now c.in_err-cache.field-0.0 CACHE FILE c.in_err-cache.ensures.err))

pub returns-in_err-file-clause-err : goal.returns-in_err-file-clause-err
returns-in_err-file-clause-err c =
    let told = err_from_is_err_and c.from_residual-in_err-file.result c.from_residual-in_err-file.ensures.1 in
    let pager = are_there c.args.tables.now PAGER c.in_ok-pager.pager c.in_ok-pager.ensures.ok in
    let cache = are_there c.args.tables.now CACHE c.in_ok-cache.cache c.in_ok-cache.ensures.ok in
    rw (told.1, told.2)
    (missing_behind c.args.tables.now c.in_err-file.field-0.0 PAGER (CACHE ++ FILE) pager (missing_behind c.args.tables.now c.in_err-file.field-0.0 CACHE FILE cache c.in_err-file.ensures.err))

pub new-requires-clause-pager : goal.new-requires-clause-pager
new-requires-clause-pager c = pager_differ c.args.tables.now c.idl-idl.ensures.tabled c.in_ok-pager.pager c.in_ok-pager.ensures.ok

pub new-requires-clause-cache : goal.new-requires-clause-cache
new-requires-clause-cache c = cache_differ c.args.tables.now c.idl-idl.ensures.tabled c.in_ok-cache.cache c.in_ok-cache.ensures.ok

pub new-requires-clause-file : goal.new-requires-clause-file
new-requires-clause-file c = file_differ c.args.tables.now c.idl-idl.ensures.tabled c.in_ok-file.file c.in_ok-file.ensures.ok
