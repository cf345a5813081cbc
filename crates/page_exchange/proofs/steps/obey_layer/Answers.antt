use Rattle.page_exchange.proofs.Rooms.{reply_room}
use Rattle.page_exchange.proofs.steps.obey_layer.Goals as goal

pub returns-clause-room : goal.returns-clause-room
returns-clause-room c = reply_room c.args.ops.now c.args.node.now c.args.frame.now c.args.buf.now c.clear.new.self c.serve_cache.new.buf c.requires.allowed c.requires.room c.clear.ensures.bytes c.clear.ensures.spare c.in-Ok.ensures.answered
