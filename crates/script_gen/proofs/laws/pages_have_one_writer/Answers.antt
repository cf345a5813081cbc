use Rattle.script_gen.proofs.DrawLaws.{one-writer}
use Rattle.script_gen.proofs.laws.pages_have_one_writer.Goals as goal

pub returns : goal.returns
returns c = one-writer
