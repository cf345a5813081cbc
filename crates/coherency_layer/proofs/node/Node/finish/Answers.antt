use Rattle.std.proofs.Common.{refl}
use Rattle.coherency_layer.proofs.TakenPages.{is_at, first_sized, first_bare, first_all, changed}
use Rattle.coherency_layer.proofs.node.Node.finish.Goals as goal

pub finish-requires-clause-sized : goal.finish-requires-clause-sized
finish-requires-clause-sized c = first_sized c.args.self.now c.args.child c.args.frame.now c.in-Some-Page.page c.index_mut-slot.result.now (is_at c.args.self.now c.args.frame.now c.in-Some-Page.page c.about.result c.in-Some-Page.field-0 c.in-Some-Page.is c.in-Some-Page.field-0-is c.about.ensures.is c.about.ensures.inside c.about.ensures.size c.about.ensures.sized) c.index_mut-slot.ensures.value c.requires.child c.requires.allowed

pub invariant_of-self-clause-kept : goal.invariant_of-self-clause-kept
invariant_of-self-clause-kept c =
    let bare = first_bare c.args.self.now c.args.child c.args.frame.now c.in-Some-Page.page c.index_mut-slot.result.now (is_at c.args.self.now c.args.frame.now c.in-Some-Page.page c.about.result c.in-Some-Page.field-0 c.in-Some-Page.is c.in-Some-Page.field-0-is c.about.ensures.is c.about.ensures.inside c.about.ensures.size c.about.ensures.sized) c.index_mut-slot.ensures.value c.requires.child c.requires.allowed in
    first_all c.args.self.now c.args.child c.args.frame.now c.in-Some-Page.page c.index_mut-slot.result.now (is_at c.args.self.now c.args.frame.now c.in-Some-Page.page c.about.result c.in-Some-Page.field-0 c.in-Some-Page.is c.in-Some-Page.field-0-is c.about.ensures.is c.about.ensures.inside c.about.ensures.size c.about.ensures.sized) c.index_mut-slot.ensures.value c.requires.child c.finish.new.self (c.finish.ensures c.args.self.now.file.page_size bare) c.requires.allowed

pub returns-in-Some-Page : goal.returns-in-Some-Page
returns-in-Some-Page c =
    let bare = first_bare c.args.self.now c.args.child c.args.frame.now c.in-Some-Page.page c.index_mut-slot.result.now (is_at c.args.self.now c.args.frame.now c.in-Some-Page.page c.about.result c.in-Some-Page.field-0 c.in-Some-Page.is c.in-Some-Page.field-0-is c.about.ensures.is c.about.ensures.inside c.about.ensures.size c.about.ensures.sized) c.index_mut-slot.ensures.value c.requires.child c.requires.allowed in
    changed c.args.self.now c.args.child c.args.frame.now c.in-Some-Page.page c.index_mut-slot.result.now (is_at c.args.self.now c.args.frame.now c.in-Some-Page.page c.about.result c.in-Some-Page.field-0 c.in-Some-Page.is c.in-Some-Page.field-0-is c.about.ensures.is c.about.ensures.inside c.about.ensures.size c.about.ensures.sized) c.index_mut-slot.ensures.value c.requires.child c.finish.new.self (c.finish.ensures c.args.self.now.file.page_size bare) _ (record { file = refl; children = refl }) refl
