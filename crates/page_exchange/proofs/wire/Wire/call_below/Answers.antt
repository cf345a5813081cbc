use Rattle.page_exchange.proofs.Exchanges as exchange
use Rattle.page_exchange.proofs.PacketLaws.{frame_few}
use Rattle.page_exchange.proofs.wire.Wire.call_below.Goals as goal

pub obey-requires-clause-allowed : goal.obey-requires-clause-allowed
obey-requires-clause-allowed c =
    exchange.obeyed c.self.inside.ops c.args.own.now c.args.above.now c.args.node c.args.page c.args.what c.call.new.buf.bytes c.sent-order.result c.requires.pair c.requires.may c.requires.obeys c.call.ensures.sent c.sent-order.ensures

pub sent-reply-requires-clause-sent : goal.sent-reply-requires-clause-sent
sent-reply-requires-clause-sent c =
    (_, exchange.reply_sent c.self.inside.ops c.args.own.now c.args.above.now c.args.node c.args.page c.args.what c.call.new.buf.bytes c.sent-order.result c.requires.pair c.requires.may c.requires.obeys c.call.ensures.sent c.sent-order.ensures c.obey.new.buf.bytes c.obey.ensures.sent)

pub hear-requires-clause-allowed : goal.hear-requires-clause-allowed
hear-requires-clause-allowed c =
    exchange.hears c.self.inside.ops c.args.own.now c.args.above.now c.args.node c.args.page c.args.what c.call.new.buf.bytes c.sent-order.result c.requires.pair c.requires.may c.requires.obeys c.call.ensures.sent c.sent-order.ensures c.obey.new.buf.bytes c.obey.ensures.sent c.sent-reply.result c.sent-reply.ensures

pub unreachable-requires : goal.unreachable-requires
unreachable-requires c =
    exchange.has_copy c.self.inside.ops c.args.own.now c.args.above.now c.args.node c.args.page c.args.what c.call.new.buf.bytes c.sent-order.result c.requires.pair c.requires.may c.requires.obeys c.call.ensures.sent c.sent-order.ensures c.obey.new.buf.bytes c.obey.ensures.sent c.sent-reply.result c.sent-reply.ensures c.in-Err.ensures.memory

pub finish-requires : goal.finish-requires
finish-requires c =
    exchange.obeyed c.self.inside.ops c.args.own.now c.args.above.now c.args.node c.args.page c.args.what c.call.new.buf.bytes c.sent-order.result c.requires.pair c.requires.may c.requires.obeys c.call.ensures.sent c.sent-order.ensures

pub returns-clause-own : goal.returns-clause-own
returns-clause-own c =
    exchange.obeyer_made c.self.inside.ops c.args.own.now c.args.above.now c.args.node c.args.page c.args.what c.call.new.buf.bytes c.sent-order.result c.requires.pair c.requires.may c.requires.obeys c.call.ensures.sent c.sent-order.ensures c.finish.new.self c.finish.ensures

pub returns-clause-above : goal.returns-clause-above
returns-clause-above c =
    exchange.caller_made c.self.inside.ops c.args.own.now c.args.above.now c.args.node c.args.page c.args.what c.call.new.buf.bytes c.sent-order.result c.requires.pair c.requires.may c.requires.obeys c.call.ensures.sent c.sent-order.ensures c.obey.new.buf.bytes c.obey.ensures.sent c.sent-reply.result c.sent-reply.ensures c.hear.new.node c.in-Ok.ensures.ok

pub returns-clause-went : goal.returns-clause-went
returns-clause-went c = record {
  asks = exchange.order_sent c.self.inside.ops c.args.own.now c.args.above.now c.args.node c.args.page c.args.what c.call.new.buf.bytes c.sent-order.result c.requires.pair c.requires.may c.requires.obeys c.call.ensures.sent c.sent-order.ensures;
  answers = exchange.reply_sent c.self.inside.ops c.args.own.now c.args.above.now c.args.node c.args.page c.args.what c.call.new.buf.bytes c.sent-order.result c.requires.pair c.requires.may c.requires.obeys c.call.ensures.sent c.sent-order.ensures c.obey.new.buf.bytes c.obey.ensures.sent;
}

pub pack-requires-clause-few : goal.pack-requires-clause-few
pack-requires-clause-few c = frame_few _ _ _ c.call.ensures.sent

pub pack-requires-2-clause-few : goal.pack-requires-2-clause-few
pack-requires-2-clause-few c = frame_few _ _ _ (exchange.reply_sent c.self.inside.ops c.args.own.now c.args.above.now c.args.node c.args.page c.args.what c.call.new.buf.bytes c.sent-order.result c.requires.pair c.requires.may c.requires.obeys c.call.ensures.sent c.sent-order.ensures c.obey.new.buf.bytes c.obey.ensures.sent)
