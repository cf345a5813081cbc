use Rattle.std.proofs.Common.{None, Some, ap}
use Rattle.name_context.specs.declared.entry.NameCall.TheVariants as names_calls
use Rattle.spr_volume.proofs.NamesStories.{story_given}
use Rattle.spr_volume.proofs.names_calls.context.Goals as goal

pub returns-clause-story : goal.returns-clause-story
returns-clause-story g c =
    story_given c.args.caller names_calls.Context (Some c.args.path.now) None c.take-names.result c.context-result.new.self _ c.args.lock.now.part c.give.new.seat.seen c.context-result.ensures c.take-names.ensures.part (ap (λ k. k.seen) c.give.ensures) c.sound.ensures
