use Rattle.std.proofs.Common.{Some, ap}
use Rattle.name_context.specs.declared.entry.NameCall.TheVariants as names_calls
use Rattle.spr_volume.proofs.NamesStories.{story_given}
use Rattle.spr_volume.proofs.names_calls.bind.Goals as goal

pub returns-clause-story : goal.returns-clause-story
returns-clause-story g c =
    story_given c.args.caller names_calls.Bind (Some c.args.path.now) (Some c.args.object) c.take-names.result c.bind-result.new.self _ c.args.lock.now.part c.give.new.seat.seen c.bind-result.ensures.answer c.take-names.ensures.part (ap (λ k. k.seen) c.give.ensures) c.sound.ensures
