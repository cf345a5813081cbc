use Rattle.page_messages.proofs.NodeSets as masks
use Rattle.page_messages.proofs.kids.Kids.no_other_holds.Goals as goal

pub returns-then-without-eq0 : goal.returns-then-without-eq0
returns-then-without-eq0 c = (
  λ t. masks.no_other c.args.self.now c.args.child c.without.result c.without-then-without-eq0.result c.without.ensures c.without-then-without-eq0.ensures c.if-without-eq0.true (masks.zero_test c.without-then-without-eq0.result t),
  λ h. masks.test_zero c.without-then-without-eq0.result (masks.other_readers c.args.self.now c.args.child c.without-then-without-eq0.result c.without-then-without-eq0.ensures h),
)

pub returns-else-without-eq0 : goal.returns-else-without-eq0
returns-else-without-eq0 c = (
  λ t. absurd (c.if-without-eq0.false (masks.zero_test c.without.result t)),
  λ h. masks.test_zero c.without.result (masks.other_writers c.args.self.now c.args.child c.without.result c.without.ensures h),
)
