use Rattle.std.proofs.Common.{rules, ◌==◌, not}
use Rattle.std.proofs.lemmas.Fn.{filter_same}
use Rattle.stack_engine.specs.declared.turns.Turn.{Turn}
use Rattle.stack_engine.proofs.turns.give_up_turns.Goals as goal

pub returns : goal.returns
returns c = filter_same _ (λ (turn : Turn). not (turn.caller == c.args.caller)) _ (λ x b f' k. search rules) _ _ c.retain.ensures.filtered
