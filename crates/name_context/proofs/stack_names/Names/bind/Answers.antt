use Rattle.std.proofs.Common.{Some}
use Rattle.name_context.specs.declared.entry.NameCall.TheVariants as calls
use Rattle.name_context.proofs.StoryLaws.{called-answered}
use Rattle.name_context.proofs.stack_names.Names.bind.Goals as goal

pub returns-in-Ok-Some-clause-answer : goal.returns-in-Ok-Some-clause-answer
returns-in-Ok-Some-clause-answer c =
    called-answered c.args.caller calls.Bind (Some c.args.path.now) (Some c.args.object) c.args.self.now c.make.new.self (Some c.in-Ok-Some.err)
    (rw c.in-Ok-Some.field-0-is at c.in-Ok-Some.ensures.ok)
