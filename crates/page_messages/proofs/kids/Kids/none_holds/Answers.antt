use Rattle.page_messages.proofs.NodeSets as masks
use Rattle.page_messages.proofs.kids.Kids.none_holds.Goals as goal

pub returns-then-self-eq0 : goal.returns-then-self-eq0
returns-then-self-eq0 c = (λ t. masks.none_holds c.args.self.now c.if-self-eq0.true (masks.zero_test c.args.self.now.readers t), λ h. masks.test_zero c.args.self.now.readers (masks.both_zero c.args.self.now h).1)

pub returns-else-self-eq0 : goal.returns-else-self-eq0
returns-else-self-eq0 c = (λ t. absurd (c.if-self-eq0.false (masks.zero_test c.args.self.now.writers t)), λ h. masks.test_zero c.args.self.now.writers (masks.both_zero c.args.self.now h).0)
