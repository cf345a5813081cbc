use Rattle.std.proofs.Common.{rules}
use Rattle.script_gen.proofs.AimLaws.{aim-within}
use Rattle.script_gen.proofs.aim.aim_at.Goals as goal

pub returns-clause-within : goal.returns-clause-within
returns-clause-within c = search (rules, aim-within c.args.shape.now c.args.client c.args.state.now c.requires)
