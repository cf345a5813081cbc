use Rattle.link_lossy.proofs.Turns.{answers_its, counts_rise, numbers_rise}
use Rattle.link_lossy.proofs.law.calls_in_turn.Goals as goal

pub returns-clause-served : goal.returns-clause-served
returns-clause-served g c = λ wire calls begins are. numbers_rise g.F.Serve.served wire calls begins are

pub returns-clause-own : goal.returns-clause-own
returns-clause-own g c = λ call is known enough. answers_its g.F.Serve.served call is known enough

pub returns-clause-counts : goal.returns-clause-counts
returns-clause-counts g c = λ wire calls begins are. counts_rise g.F.Serve.served wire calls begins are
