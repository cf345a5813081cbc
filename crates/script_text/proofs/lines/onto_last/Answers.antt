use Rattle.script_text.proofs.Phases.{onto_last_step}
use Rattle.script_text.proofs.lines.onto_last.Goals as goal

pub returns : goal.returns
returns c = onto_last_step c.args.line c.args.phases c.into_vec-phases.result.items c.pop.new.self.items c.push-2.new.self.items c.from_vec-2.result c.in-Some.last c.push.new.self c.into_vec-phases.ensures c.in-Some.ensures.items c.in_ok-push.ensures.ok c.in_ok-push-2.ensures.items c.from_vec-2.ensures
