use Rattle.marshal_value.proofs.Texts.{utf8_test, no_utf8_test}
use Rattle.marshal_value.proofs.plain.text_of.Goals as goal

pub returns-in-Ok-clause-utf8 : goal.returns-in-Ok-clause-utf8
returns-in-Ok-clause-utf8 c = utf8_test c.args.bytes.now c.in-Ok.ensures.cases.1

pub returns-in-Err-clause-none : goal.returns-in-Err-clause-none
returns-in-Err-clause-none c = no_utf8_test c.args.bytes.now c.in-Err.ensures.cases.0
