use Rattle.std.proofs.Common.{refl}
use Rattle.coherency_layer.proofs.TakenPages.{is_at, second_sized, accepted_all, changed, left, first_copies, for_ok, for_err}
use Rattle.coherency_layer.proofs.node.Node.take_second.Goals as goal

pub accept-requires-clause-sized : goal.accept-requires-clause-sized
accept-requires-clause-sized c = second_sized c.args.self.now c.args.child c.args.frame.now c.in-Some-Page.page c.index_mut-slot.result.now (is_at c.args.self.now c.args.frame.now c.in-Some-Page.page c.about.result c.in-Some-Page.field-0 c.in-Some-Page.is c.in-Some-Page.field-0-is c.about.ensures.is c.about.ensures.inside c.about.ensures.size c.about.ensures.sized) c.index_mut-slot.ensures.value c.requires.child c.requires.allowed

pub invariant_of-self-clause-kept : goal.invariant_of-self-clause-kept
invariant_of-self-clause-kept c = accepted_all c.args.self.now c.args.child c.args.frame.now c.in-Some-Page.page c.index_mut-slot.result.now (is_at c.args.self.now c.args.frame.now c.in-Some-Page.page c.about.result c.in-Some-Page.field-0 c.in-Some-Page.is c.in-Some-Page.field-0-is c.about.ensures.is c.about.ensures.inside c.about.ensures.size c.about.ensures.sized) c.index_mut-slot.ensures.value c.requires.child c.accept.result c.accept.new.self c.requires.allowed c.accept.ensures.ok c.accept.ensures.err

pub returns-in-Some-Page-clause-ok : goal.returns-in-Some-Page-clause-ok
returns-in-Some-Page-clause-ok c = for_ok c.accept.result _ _ (λ now. changed c.args.self.now c.args.child c.args.frame.now c.in-Some-Page.page c.index_mut-slot.result.now (is_at c.args.self.now c.args.frame.now c.in-Some-Page.page c.about.result c.in-Some-Page.field-0 c.in-Some-Page.is c.in-Some-Page.field-0-is c.about.ensures.is c.about.ensures.inside c.about.ensures.size c.about.ensures.sized) c.index_mut-slot.ensures.value c.requires.child c.accept.new.self now _ (record { file = refl; children = refl }) refl) c.accept.ensures.ok

pub returns-in-Some-Page-clause-memory : goal.returns-in-Some-Page-clause-memory
returns-in-Some-Page-clause-memory c = first_copies c.args.self.now c.args.child c.args.frame.now c.in-Some-Page.page c.index_mut-slot.result.now (is_at c.args.self.now c.args.frame.now c.in-Some-Page.page c.about.result c.in-Some-Page.field-0 c.in-Some-Page.is c.in-Some-Page.field-0-is c.about.ensures.is c.about.ensures.inside c.about.ensures.size c.about.ensures.sized) c.index_mut-slot.ensures.value c.requires.child c.accept.result c.requires.allowed c.accept.ensures.pager c.accept.ensures.bytes c.accept.ensures.room

pub returns-in-Some-Page-clause-err : goal.returns-in-Some-Page-clause-err
returns-in-Some-Page-clause-err c = for_err c.accept.result _ _ (λ now. left c.args.self.now c.args.child c.args.frame.now c.in-Some-Page.page c.index_mut-slot.result.now (is_at c.args.self.now c.args.frame.now c.in-Some-Page.page c.about.result c.in-Some-Page.field-0 c.in-Some-Page.is c.in-Some-Page.field-0-is c.about.ensures.is c.about.ensures.inside c.about.ensures.size c.about.ensures.sized) c.index_mut-slot.ensures.value c.requires.child c.accept.new.self now _ (record { file = refl; children = refl }) refl) c.accept.ensures.err
