use Rattle.page_exchange.proofs.Exchanges as exchange
use Rattle.page_exchange.proofs.PacketLaws.{frame_few}
use Rattle.page_exchange.proofs.wire.Wire.ask_above.Goals as goal

pub serve-requires-clause-allowed : goal.serve-requires-clause-allowed
serve-requires-clause-allowed c =
    exchange.served c.self.inside.ops c.args.own.now c.args.above.now c.args.node c.args.page c.args.what c.ask.new.buf.bytes c.sent-question.result c.requires.pair c.requires.may c.requires.serves c.ask.ensures.sent c.sent-question.ensures

pub sent-answer-requires-clause-sent : goal.sent-answer-requires-clause-sent
sent-answer-requires-clause-sent c =
    (_, exchange.answer_sent c.self.inside.ops c.args.own.now c.args.above.now c.args.node c.args.page c.args.what c.ask.new.buf.bytes c.sent-question.result c.requires.pair c.requires.may c.requires.serves c.ask.ensures.sent c.sent-question.ensures c.serve.new.buf.bytes c.serve.ensures.sent)

pub returns-in_err-accept-clause-lack : goal.returns-in_err-accept-clause-lack
returns-in_err-accept-clause-lack c = λ known.
    exchange.on-refused c.from_residual.result _ _ c.from_residual.ensures.1 (exchange.lacked c.self.inside.ops c.args.own.now c.args.above.now c.args.node c.args.page c.args.what c.ask.new.buf.bytes c.sent-question.result c.requires.pair c.requires.may c.requires.serves c.ask.ensures.sent c.sent-question.ensures c.serve.new.buf.bytes c.serve.ensures.sent c.sent-answer.result c.sent-answer.ensures known _ c.in_err-accept.ensures.why)

pub returns-in_err-accept-clause-went : goal.returns-in_err-accept-clause-went
returns-in_err-accept-clause-went c = record {
  asks = c.ask.ensures.sent;
  answers = exchange.answer_sent c.self.inside.ops c.args.own.now c.args.above.now c.args.node c.args.page c.args.what c.ask.new.buf.bytes c.sent-question.result c.requires.pair c.requires.may c.requires.serves c.ask.ensures.sent c.sent-question.ensures c.serve.new.buf.bytes c.serve.ensures.sent;
}

pub finish-requires-clause-allowed : goal.finish-requires-clause-allowed
finish-requires-clause-allowed c =
    exchange.served c.self.inside.ops c.args.own.now c.args.above.now c.args.node c.args.page c.args.what c.ask.new.buf.bytes c.sent-question.result c.requires.pair c.requires.may c.requires.serves c.ask.ensures.sent c.sent-question.ensures

pub returns-clause-own : goal.returns-clause-own
returns-clause-own c = λ known.
    exchange.own_made c.self.inside.ops c.args.own.now c.args.above.now c.args.node c.args.page c.args.what c.ask.new.buf.bytes c.sent-question.result c.requires.pair c.requires.may c.requires.serves c.ask.ensures.sent c.sent-question.ensures c.serve.new.buf.bytes c.serve.ensures.sent c.sent-answer.result c.sent-answer.ensures known c.accept.new.self (c.in_ok-accept.ensures.ok)

pub returns-clause-above : goal.returns-clause-above
returns-clause-above c =
    exchange.above_made c.self.inside.ops c.args.own.now c.args.above.now c.args.node c.args.page c.args.what c.ask.new.buf.bytes c.sent-question.result c.requires.pair c.requires.may c.requires.serves c.ask.ensures.sent c.sent-question.ensures c.finish.new.self c.finish.ensures

pub returns-clause-went : goal.returns-clause-went
returns-clause-went c = record {
  asks = c.ask.ensures.sent;
  answers = exchange.answer_sent c.self.inside.ops c.args.own.now c.args.above.now c.args.node c.args.page c.args.what c.ask.new.buf.bytes c.sent-question.result c.requires.pair c.requires.may c.requires.serves c.ask.ensures.sent c.sent-question.ensures c.serve.new.buf.bytes c.serve.ensures.sent;
}

pub pack-requires-clause-few : goal.pack-requires-clause-few
pack-requires-clause-few c = frame_few _ _ _ c.ask.ensures.sent

pub pack-requires-2-clause-few : goal.pack-requires-2-clause-few
pack-requires-2-clause-few c = frame_few _ _ _ (exchange.answer_sent c.self.inside.ops c.args.own.now c.args.above.now c.args.node c.args.page c.args.what c.ask.new.buf.bytes c.sent-question.result c.requires.pair c.requires.may c.requires.serves c.ask.ensures.sent c.sent-question.ensures c.serve.new.buf.bytes c.serve.ensures.sent)
