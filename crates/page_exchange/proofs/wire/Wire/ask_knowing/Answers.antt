use Rattle.page_exchange.proofs.Exchanges as exchange
use Rattle.page_exchange.proofs.wire.Wire.ask_knowing.Goals as goal

pub returns-in-Ok-clause-went : goal.returns-in-Ok-clause-went
returns-in-Ok-clause-went c = exchange.agreed c.ask_above.new.self c.args.own.now c.args.above.now c.args.node c.args.page c.args.what c.requires.known c.ask_above.ensures.went
