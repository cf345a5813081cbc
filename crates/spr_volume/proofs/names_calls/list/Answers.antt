use Rattle.std.proofs.Common.{None, ap}
use Rattle.std.specs.Option.{option_copied}
use Rattle.name_context.specs.declared.entry.NameCall.TheVariants as names_calls
use Rattle.spr_volume.proofs.NamesStories.{story_given}
use Rattle.spr_volume.proofs.names_calls.list.Goals as goal

pub returns-clause-story : goal.returns-clause-story
returns-clause-story g c =
    story_given c.args.caller names_calls.List (option_copied c.args.path) None c.take-names.result c.list-result.new.self _ c.args.lock.now.part c.give.new.seat.seen c.list-result.ensures.answer c.take-names.ensures.part (ap (λ k. k.seen) c.give.ensures) c.sound.ensures
