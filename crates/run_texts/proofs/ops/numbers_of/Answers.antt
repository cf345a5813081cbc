use Rattle.std.proofs.Common.{rules, arith}
use Rattle.std.proofs.lemmas.Result.{err_from_is_err_and}
use Rattle.pager_channel.specs.declared.operation.Operation.{Operation}
use Rattle.run_texts.proofs.SoFar.{one_more, first_missing, all_numbered}
use Rattle.run_texts.proofs.ops.numbers_of.Goals as goal

pub returns-in_err-numbers-clause-err : goal.returns-in_err-numbers-clause-err
returns-in_err-numbers-clause-err g c =
    let long = c.told-operations in
    let low = c.loop-place-test.true in
    let missing = c.in_err-numbers.ensures.err in
    let told = err_from_is_err_and c.from_residual.result c.from_residual.ensures.1 in
    rw (told.1, told.2)
    (first_missing c.args.tables.now c.args.operations.now c.loop-place.numbers c.loop-place.place Operation.PageIn c.loop-place.invariant.1 c.in_err-numbers.field-0.0 (omega arith) missing.0 missing.1)

pub loop-place-preserved : goal.loop-place-preserved
loop-place-preserved g c =
    let long = c.told-operations in
    let wide = c.loop-place.invariant.0 in
    let low = c.loop-place-test.true in
    (search rules, one_more c.args.tables.now c.args.operations.now c.loop-place.numbers c.loop-place.place Operation.PageIn c.loop-place.invariant.1 c.in_ok-numbers.field-0 (omega arith) c.in_ok-numbers.ensures.ok)

pub returns-clause-ok : goal.returns-clause-ok
returns-clause-ok g c =
    let long = c.told-operations in
    let done = c.loop-place-test.false in
    all_numbered c.args.tables.now c.args.operations.now c.loop-place.numbers c.loop-place.place Operation.PageIn c.loop-place.invariant.1 c.loop-place.invariant.0 (omega arith)
