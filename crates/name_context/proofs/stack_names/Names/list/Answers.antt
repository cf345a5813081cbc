use Rattle.std.proofs.Common.{None, refl}
use Rattle.std.specs.Option.{option_copied}
use Rattle.name_context.specs.declared.entry.NameCall.TheVariants as calls
use Rattle.name_context.specs.Calls.{refused_by}
use Rattle.name_context.proofs.StoryLaws.{history-entered, call-kept, call-called, answered-by, list-same}
use Rattle.name_context.proofs.stack_names.Names.list.Goals as goal

pub invariant_of-self-2 : goal.invariant_of-self-2
invariant_of-self-2 c =
    let more = history-entered c.args.caller calls.List calls.List (option_copied c.args.path) c.in_ok-asked.asked.path None c.in_ok-asked.asked.refused c.self.inside.story.entries c.ask.new.story.entries c.enter.new.self.entries
    c.enter.ensures c.in_ok-asked.ensures.same refl c.in_ok-asked.ensures.path in
    call-kept c.self.inside.began.value c.self.inside.tree c.self.inside.tree c.self.inside.story.entries c.enter.new.self.entries c.args.caller calls.List (option_copied c.args.path) None c.in_ok-asked.asked.refused
    c.self.invariant more c.in_ok-asked.ensures.refused c.requires refl (list-same c.self.inside.tree (option_copied c.args.path) c.in_ok-asked.asked.refused)

pub returns-clause-answer : goal.returns-clause-answer
returns-clause-answer c =
    let more = history-entered c.args.caller calls.List calls.List (option_copied c.args.path) c.in_ok-asked.asked.path None c.in_ok-asked.asked.refused c.self.inside.story.entries c.ask.new.story.entries c.enter.new.self.entries
    c.enter.ensures c.in_ok-asked.ensures.same refl c.in_ok-asked.ensures.path in
    answered-by c.args.caller calls.List (option_copied c.args.path) None c.args.self.now _ c.in_ok-asked.asked.refused (refused_by c.in_ok-answer.answer) c.in_ok-answer.ensures.told
    (call-called c.self.inside.began.value c.self.inside.tree c.self.inside.story.entries c.enter.new.self.entries c.args.self.now c.args.caller calls.List (option_copied c.args.path) None None c.in_ok-asked.asked.refused
    c.self.invariant c.self.view_is more c.in_ok-asked.ensures.refused refl)
