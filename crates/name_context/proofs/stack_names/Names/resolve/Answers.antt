use Rattle.std.proofs.Common.{Some, None, refl, sym, ◌∙◌}
use Rattle.name_context.proofs.WalkLaws.{resolve-done}
use Rattle.name_context.specs.declared.entry.NameCall.TheVariants as calls
use Rattle.name_context.specs.Calls.{refused_by}
use Rattle.name_context.proofs.StoryLaws.{history-entered, call-kept, call-called, answered-by, resolve-same}
use Rattle.name_context.proofs.stack_names.Names.resolve.Goals as goal

pub object_unless-requires : goal.object_unless-requires
object_unless-requires c = λ none.
    resolve-done c.self.inside.tree c.args.path.now c.requires.some (sym c.in_ok-asked.ensures.refused ∙ none)

pub invariant_of-self-2 : goal.invariant_of-self-2
invariant_of-self-2 c =
    let more = history-entered c.args.caller calls.Resolve calls.Resolve (Some c.args.path.now) c.in_ok-asked.asked.path None c.in_ok-asked.asked.refused c.self.inside.story.entries c.ask.new.story.entries c.enter.new.self.entries
    c.enter.ensures c.in_ok-asked.ensures.same refl c.in_ok-asked.ensures.path in
    call-kept c.self.inside.began.value c.self.inside.tree c.self.inside.tree c.self.inside.story.entries c.enter.new.self.entries c.args.caller calls.Resolve (Some c.args.path.now) None c.in_ok-asked.asked.refused
    c.self.invariant more c.in_ok-asked.ensures.refused c.requires refl (resolve-same c.self.inside.tree c.args.path.now c.in_ok-asked.asked.refused)

pub returns-clause-answer : goal.returns-clause-answer
returns-clause-answer c =
    let more = history-entered c.args.caller calls.Resolve calls.Resolve (Some c.args.path.now) c.in_ok-asked.asked.path None c.in_ok-asked.asked.refused c.self.inside.story.entries c.ask.new.story.entries c.enter.new.self.entries
    c.enter.ensures c.in_ok-asked.ensures.same refl c.in_ok-asked.ensures.path in
    answered-by c.args.caller calls.Resolve (Some c.args.path.now) None c.args.self.now _ c.in_ok-asked.asked.refused (refused_by c.in_ok-answer.answer) c.in_ok-answer.ensures.told
    (call-called c.self.inside.began.value c.self.inside.tree c.self.inside.story.entries c.enter.new.self.entries c.args.self.now c.args.caller calls.Resolve (Some c.args.path.now) None None c.in_ok-asked.asked.refused
    c.self.invariant c.self.view_is more c.in_ok-asked.ensures.refused refl)
