use Rattle.std.proofs.Common.{◌∙◌, sym}
use Rattle.page_exchange.proofs.Grounds as grounds
use Rattle.page_exchange.proofs.PacketLaws.{frame_few}
use Rattle.page_exchange.proofs.wire.Wire.order_by_ground.Goals as goal

pub obey-requires-clause-allowed : goal.obey-requires-clause-allowed
obey-requires-clause-allowed g c =
    grounds.ground_obeyed c.self.inside.ops c.args.own.now c.args.page c.args.what c.order_of_ground.new.buf.bytes c.sent-order.result c.requires.page c.requires.obeys (grounds.order_of_own c.self.inside.ops c.args.own.now c.args.page c.args.what c.order_of_ground.new.buf.bytes c.file.result c.file.ensures.file c.order_of_ground.ensures.sent) c.sent-order.ensures

pub sent-reply-requires-clause-sent : goal.sent-reply-requires-clause-sent
sent-reply-requires-clause-sent g c =
    (_, grounds.ground_reply c.self.inside.ops c.args.own.now c.args.page c.args.what c.order_of_ground.new.buf.bytes c.sent-order.result c.requires.page c.requires.obeys (grounds.order_of_own c.self.inside.ops c.args.own.now c.args.page c.args.what c.order_of_ground.new.buf.bytes c.file.result c.file.ensures.file c.order_of_ground.ensures.sent) c.sent-order.ensures c.obey.new.buf.bytes c.obey.ensures.sent)

pub write_for-requires-clause-size : goal.write_for-requires-clause-size
write_for-requires-clause-size g c κs within =
    λ full. grounds.reply_is_page c.self.inside.ops c.args.own.now c.args.page c.args.what c.order_of_ground.new.buf.bytes c.sent-order.result c.requires.page c.requires.obeys (grounds.order_of_own c.self.inside.ops c.args.own.now c.args.page c.args.what c.order_of_ground.new.buf.bytes c.file.result c.file.ensures.file c.order_of_ground.ensures.sent) c.sent-order.ensures c.obey.new.buf.bytes c.obey.ensures.sent c.sent-reply.result c.sent-reply.ensures full ∙ sym c.requires.under.size

pub finish-requires : goal.finish-requires
finish-requires g c =
    grounds.ground_obeyed c.self.inside.ops c.args.own.now c.args.page c.args.what c.order_of_ground.new.buf.bytes c.sent-order.result c.requires.page c.requires.obeys (grounds.order_of_own c.self.inside.ops c.args.own.now c.args.page c.args.what c.order_of_ground.new.buf.bytes c.file.result c.file.ensures.file c.order_of_ground.ensures.sent) c.sent-order.ensures

pub returns-clause-own : goal.returns-clause-own
returns-clause-own g c =
    grounds.ordered_made c.self.inside.ops c.args.own.now c.args.page c.args.what c.order_of_ground.new.buf.bytes c.sent-order.result c.requires.page c.requires.obeys (grounds.order_of_own c.self.inside.ops c.args.own.now c.args.page c.args.what c.order_of_ground.new.buf.bytes c.file.result c.file.ensures.file c.order_of_ground.ensures.sent) c.sent-order.ensures c.finish.new.self c.finish.ensures

pub returns-clause-ground : goal.returns-clause-ground
returns-clause-ground g c =
    grounds.reply_given c.self.inside.ops c.args.own.now c.args.page c.args.what c.order_of_ground.new.buf.bytes c.sent-order.result c.requires.page c.requires.obeys (grounds.order_of_own c.self.inside.ops c.args.own.now c.args.page c.args.what c.order_of_ground.new.buf.bytes c.file.result c.file.ensures.file c.order_of_ground.ensures.sent) c.sent-order.ensures c.obey.new.buf.bytes c.obey.ensures.sent c.sent-reply.result c.sent-reply.ensures _ _ c.in_ok-write_for.ensures.ok

pub returns-in_err-write_for-clause-idle : goal.returns-in_err-write_for-clause-idle
returns-in_err-write_for-clause-idle g c =
    grounds.reply_idle c.self.inside.ops c.args.own.now c.args.page c.args.what c.order_of_ground.new.buf.bytes c.sent-order.result c.requires.page c.requires.obeys (grounds.order_of_own c.self.inside.ops c.args.own.now c.args.page c.args.what c.order_of_ground.new.buf.bytes c.file.result c.file.ensures.file c.order_of_ground.ensures.sent) c.sent-order.ensures c.obey.new.buf.bytes c.obey.ensures.sent c.sent-reply.result c.sent-reply.ensures _ _ c.in_err-write_for.ensures.idle

pub returns-clause-idle : goal.returns-clause-idle
returns-clause-idle g c =
    grounds.reply_idle c.self.inside.ops c.args.own.now c.args.page c.args.what c.order_of_ground.new.buf.bytes c.sent-order.result c.requires.page c.requires.obeys (grounds.order_of_own c.self.inside.ops c.args.own.now c.args.page c.args.what c.order_of_ground.new.buf.bytes c.file.result c.file.ensures.file c.order_of_ground.ensures.sent) c.sent-order.ensures c.obey.new.buf.bytes c.obey.ensures.sent c.sent-reply.result c.sent-reply.ensures _ _ c.in_ok-write_for.ensures.idle

pub returns-clause-went : goal.returns-clause-went
returns-clause-went g c = record {
  asks = (grounds.order_of_own c.self.inside.ops c.args.own.now c.args.page c.args.what c.order_of_ground.new.buf.bytes c.file.result c.file.ensures.file c.order_of_ground.ensures.sent);
  answers = grounds.ground_reply c.self.inside.ops c.args.own.now c.args.page c.args.what c.order_of_ground.new.buf.bytes c.sent-order.result c.requires.page c.requires.obeys (grounds.order_of_own c.self.inside.ops c.args.own.now c.args.page c.args.what c.order_of_ground.new.buf.bytes c.file.result c.file.ensures.file c.order_of_ground.ensures.sent) c.sent-order.ensures c.obey.new.buf.bytes c.obey.ensures.sent;
}

pub pack-requires-clause-few : goal.pack-requires-clause-few
pack-requires-clause-few g c = frame_few _ _ _ c.order_of_ground.ensures.sent

pub pack-requires-2-clause-few : goal.pack-requires-2-clause-few
pack-requires-2-clause-few g c = frame_few _ _ _ (grounds.ground_reply c.self.inside.ops c.args.own.now c.args.page c.args.what c.order_of_ground.new.buf.bytes c.sent-order.result c.requires.page c.requires.obeys (grounds.order_of_own c.self.inside.ops c.args.own.now c.args.page c.args.what c.order_of_ground.new.buf.bytes c.file.result c.file.ensures.file c.order_of_ground.ensures.sent) c.sent-order.ensures c.obey.new.buf.bytes c.obey.ensures.sent)
