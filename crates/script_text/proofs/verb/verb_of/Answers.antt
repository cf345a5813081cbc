use Rattle.std.proofs.Common.{ap, ◌∙◌}
use Rattle.script_text.specs.Reading.{verb_at}
use Rattle.script_text.proofs.CallAgain.{verb_again}
use Rattle.script_text.proofs.verb.verb_of.Goals as goal

pub returns-in-Some : goal.returns-in-Some
returns-in-Some c = ap verb_at c.in-Some.ensures ∙ verb_again c.in-Some.verb
