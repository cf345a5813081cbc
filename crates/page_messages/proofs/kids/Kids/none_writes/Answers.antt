use Rattle.page_messages.proofs.NodeSets as masks
use Rattle.page_messages.proofs.kids.Kids.none_writes.Goals as goal

pub returns : goal.returns
returns c = (λ t. masks.none_writes c.args.self.now (masks.zero_test c.args.self.now.writers t), λ h. masks.test_zero c.args.self.now.writers (masks.writers_zero c.args.self.now h))
