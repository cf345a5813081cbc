use Rattle.run_texts.proofs.Missing.{not_found}
use Rattle.run_texts.proofs.ops.number_of.Goals as goal

pub returns-clause-err : goal.returns-clause-err
returns-clause-err c =
    not_found c.args.tables.now c.args.which c.op_number.result c.called.result.0.now c.called.result.1.now c.called.ensures.interface c.called.ensures.name (λ n. (c.op_number.ensures n).1) c.ok_or.result c.ok_or.ensures.value
