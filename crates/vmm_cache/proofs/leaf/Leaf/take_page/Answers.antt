use Rattle.std.proofs.Common.{subst, sym, ◌∙◌, refl}
use Rattle.page_messages.specs.Slot.{side_of}
use Rattle.vmm_cache.specs.Frames.{IsFramed}
use Rattle.vmm_cache.specs.Leaf.{side}
use Rattle.vmm_cache.proofs.Taken.{filled_after, granted_framed, granted_same, changes_page, for_ok}
use Rattle.vmm_cache.proofs.leaf.Leaf.take_page.Goals as goal

pub accept-requires-clause-room : goal.accept-requires-clause-room
accept-requires-clause-room c = (c.new-slot.ensures.slot c.args.self.now.file.page_size 0).room

pub invariant_of-self-clause-framed : goal.invariant_of-self-clause-framed
invariant_of-self-clause-framed c =
    let bare = c.new-slot.ensures.slot c.args.self.now.file.page_size 0 in
    filled_after c.fill.result c.args.self.now.file c.args.self.now.held c.fill.new.held c.args.page (side_of c.accept.new.self) _ c.fill.ensures.ok c.fill.ensures.err c.args.self.now.framed
    (subst (IsFramed c.args.self.now.file c.args.page) (sym c.in_ok-accept.ensures.ok) (granted_framed c.args.self.now.file c.args.page c.args.frame.now c.requires.grants (side_of c.new-slot.result) bare))

pub returns-clause-ok : goal.returns-clause-ok
returns-clause-ok c =
    let bare = c.new-slot.ensures.slot c.args.self.now.file.page_size 0 in
    for_ok c.fill.result _ _ (λ change. changes_page c.args.self.now _ c.args.page _ (side_of c.accept.new.self) _ refl change
    (c.in_ok-accept.ensures.ok ∙ granted_same c.args.self.now.file c.args.page c.args.frame.now c.requires.grants (side_of c.new-slot.result) bare (side c.args.self.now c.args.page) (c.held-held.ensures.leaf.kids c.args.page))) c.fill.ensures.ok
