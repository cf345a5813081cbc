use Rattle.std.proofs.Common.{Some, sym, ap, ◌∙◌}
use Rattle.std.specs.Option.{option_copied}
use Rattle.name_context.specs.declared.entry.NameCall.{NameCall}
use Rattle.name_context.specs.Refusal.{refusal}
use Rattle.name_context.specs.NamesView.{call_for}
use Rattle.name_context.proofs.WalkLaws.{make-free}
use Rattle.name_context.proofs.StoryLaws.{history-entered, call-kept, call-called, after_call-object, copy-has}
use Rattle.name_context.proofs.stack_names.Names.make.Goals as goal

pub put_unless-requires : goal.put_unless-requires
put_unless-requires c = λ none.
    make-free c.self.inside.tree (option_copied c.args.object) c.args.path.now c.requires.some
    (ap (λ (call : NameCall). refusal c.self.inside.tree call (Some c.args.path.now)) (sym c.call_of-call.ensures) ∙ (sym c.in_ok-asked.ensures.refused ∙ none))

pub invariant_of-self-2 : goal.invariant_of-self-2
invariant_of-self-2 c =
    let call = call_for (option_copied c.args.object) in
    let path = Some c.args.path.now in
    let more = history-entered c.args.caller call c.call_of-call.result path c.in_ok-asked.asked.path c.in_ok-copy.copy c.in_ok-asked.asked.refused c.self.inside.story.entries c.ask.new.story.entries c.enter.new.self.entries
    c.enter.ensures c.in_ok-asked.ensures.same c.call_of-call.ensures c.in_ok-asked.ensures.path in
    let reason = c.in_ok-asked.ensures.refused ∙ ap (λ (asked : NameCall). refusal c.self.inside.tree asked path) c.call_of-call.ensures in
    call-kept c.self.inside.began.value c.self.inside.tree c.put_unless.new.tree c.self.inside.story.entries c.enter.new.self.entries c.args.caller call path c.in_ok-copy.copy c.in_ok-asked.asked.refused
    c.self.invariant more reason c.requires (copy-has c.in_ok-copy.copy (option_copied c.args.object) c.in_ok-copy.ensures)
    (c.in_ok-put_unless.ensures.ok ∙ sym (after_call-object c.self.inside.tree call path c.in_ok-copy.copy (option_copied c.args.object) c.in_ok-asked.asked.refused c.in_ok-copy.ensures))

pub returns-clause-ok : goal.returns-clause-ok
returns-clause-ok c =
    let call = call_for (option_copied c.args.object) in
    let path = Some c.args.path.now in
    let more = history-entered c.args.caller call c.call_of-call.result path c.in_ok-asked.asked.path c.in_ok-copy.copy c.in_ok-asked.asked.refused c.self.inside.story.entries c.ask.new.story.entries c.enter.new.self.entries
    c.enter.ensures c.in_ok-asked.ensures.same c.call_of-call.ensures c.in_ok-asked.ensures.path in
    let reason = c.in_ok-asked.ensures.refused ∙ ap (λ (asked : NameCall). refusal c.self.inside.tree asked path) c.call_of-call.ensures in
    call-called c.self.inside.began.value c.self.inside.tree c.self.inside.story.entries c.enter.new.self.entries c.args.self.now c.args.caller call path (option_copied c.args.object) c.in_ok-copy.copy c.in_ok-asked.asked.refused
    c.self.invariant c.self.view_is more reason c.in_ok-copy.ensures
