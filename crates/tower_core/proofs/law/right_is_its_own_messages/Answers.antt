use Rattle.tower_core.proofs.Messages.{right_of-messages}
use Rattle.tower_core.proofs.law.right_is_its_own_messages.Goals as goal

pub returns : goal.returns
returns c = right_of-messages
