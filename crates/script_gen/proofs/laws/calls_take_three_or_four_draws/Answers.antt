use Rattle.script_gen.proofs.DrawLaws.{draws-taken}
use Rattle.script_gen.proofs.laws.calls_take_three_or_four_draws.Goals as goal

pub returns : goal.returns
returns c = draws-taken
