use Rattle.page_exchange.proofs.Rooms.{leaf_room}
use Rattle.page_exchange.proofs.steps.obey_leaf.Goals as goal

pub returns-clause-room : goal.returns-clause-room
returns-clause-room c = leaf_room c.args.ops.now c.args.leaf.now c.args.frame.now c.args.buf.now c.clear.new.self c.serve_cache.new.buf c.requires.allowed c.requires.room c.clear.ensures.bytes c.clear.ensures.spare c.in-Ok.ensures.answered
