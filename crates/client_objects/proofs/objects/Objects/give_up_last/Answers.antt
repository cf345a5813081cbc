use Rattle.std.proofs.Common.{List, sym, subst, ◌∙◌, ap}
use Rattle.client_objects.specs.declared.entry.Entry.{Entry}
use Rattle.client_objects.specs.Held.{seen, AreHeld}
use Rattle.client_objects.proofs.HeldLaws.{are_held-pop, seen-popped, seen-no_end}
use Rattle.client_objects.proofs.objects.Objects.give_up_last.Goals as goal

pub invariant_of-self : goal.invariant_of-self
invariant_of-self c =
    let held = subst (λ (es : List Entry). AreHeld c.self.inside.domain es) c.in-Some.ensures.items c.self.invariant in
    are_held-pop c.self.inside.domain c.give_up.new.domain c.pop.new.self.items c.in-Some.field-0 held c.give_up.ensures

pub returns-in-Some-clause-last : goal.returns-in-Some-clause-last
returns-in-Some-clause-last c objects name word target is =
    let held = subst (λ (es : List Entry). AreHeld c.self.inside.domain es) c.in-Some.ensures.items c.self.invariant in
    let old = ap (seen c.self.inside.domain) (sym c.in-Some.ensures.items) ∙ c.self.view_is ∙ is in
    seen-popped c.self.inside.domain c.give_up.new.domain c.pop.new.self.items c.in-Some.field-0 objects name word target held c.give_up.ensures old

pub returns-in-Some-clause-none : goal.returns-in-Some-clause-none
returns-in-Some-clause-none c none =
    seen-no_end c.self.inside.domain c.pop.new.self.items c.in-Some.field-0 (ap (seen c.self.inside.domain) (sym c.in-Some.ensures.items) ∙ c.self.view_is ∙ none)
