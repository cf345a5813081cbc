use Rattle.std.proofs.Common.{None, Some, ap}
use Rattle.name_context.specs.declared.entry.NameCall.TheVariants as names_calls
use Rattle.spr_volume.proofs.NamesStories.{story_given}
use Rattle.spr_volume.proofs.names_calls.resolve.Goals as goal

pub returns-clause-story : goal.returns-clause-story
returns-clause-story g c =
    story_given c.args.caller names_calls.Resolve (Some c.args.path.now) None c.take-names.result c.resolve-result.new.self _ c.args.lock.now.part c.give.new.seat.seen c.resolve-result.ensures.answer c.take-names.ensures.part (ap (λ k. k.seen) c.give.ensures) c.sound.ensures
