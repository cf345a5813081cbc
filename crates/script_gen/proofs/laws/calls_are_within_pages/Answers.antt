use Rattle.script_gen.specs.Made.{client_of, state_before}
use Rattle.script_gen.proofs.AimLaws.{aim-within}
use Rattle.script_gen.proofs.laws.calls_are_within_pages.Goals as goal

pub returns : goal.returns
returns c = λ shape seed number is. aim-within shape (client_of number) (state_before shape seed number) is
