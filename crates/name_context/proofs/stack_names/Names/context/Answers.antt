use Rattle.std.proofs.Common.{Some, None}
use Rattle.name_context.specs.declared.entry.NameCall.TheVariants as calls
use Rattle.name_context.specs.Calls.{refused_by}
use Rattle.name_context.proofs.StoryLaws.{answered-by}
use Rattle.name_context.proofs.stack_names.Names.context.Goals as goal

pub returns-in-Ok : goal.returns-in-Ok
returns-in-Ok c =
    answered-by c.args.caller calls.Context (Some c.args.path.now) None c.args.self.now c.make.new.self c.in-Ok.refused (refused_by c.done_unless.result) c.done_unless.ensures c.in-Ok.ensures.ok
