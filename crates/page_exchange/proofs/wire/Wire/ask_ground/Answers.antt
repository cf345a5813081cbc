use Rattle.std.proofs.Common.{◌∙◌, sym}
use Rattle.page_exchange.proofs.Exchanges.{on-err}
use Rattle.page_exchange.proofs.Grounds as grounds
use Rattle.page_exchange.proofs.PacketLaws.{frame_few}
use Rattle.page_exchange.proofs.wire.Wire.ask_ground.Goals as goal

pub write_for-requires-clause-size : goal.write_for-requires-clause-size
write_for-requires-clause-size g c κs within =
    λ full. grounds.asked_sized c.self.inside.ops c.args.own.now c.args.page c.args.what c.ask.new.buf.bytes c.sent-question.result c.requires.may c.ask.ensures.sent c.sent-question.ensures full ∙ sym c.requires.under.size ∙ sym (grounds.once_size _ _ c.in_ok-read_for.ensures.call)

pub returns-in_err-write_for-clause-call : goal.returns-in_err-write_for-clause-call
returns-in_err-write_for-clause-call g c =
    grounds.asked_once c.self.inside.ops c.args.own.now c.args.page c.args.what c.ask.new.buf.bytes c.sent-question.result c.requires.may c.ask.ensures.sent c.sent-question.ensures _ _ _ c.in_ok-read_for.ensures.call c.in_ok-read_for.ensures.idle c.in_err-write_for.ensures.call c.in_err-write_for.ensures.idle

pub take-requires : goal.take-requires
take-requires g c =
    grounds.ground_taken c.self.inside.ops c.args.own.now c.args.page c.args.what c.ask.new.buf.bytes c.sent-question.result c.requires.may c.ask.ensures.sent c.sent-question.ensures c.read_for.new.scratch c.answer_of_ground.new.buf.bytes c.sent-answer.result (grounds.answer_of_own c.self.inside.ops c.args.own.now c.args.page c.args.what c.read_for.new.scratch c.answer_of_ground.new.buf.bytes c.file.result c.right.result c.file.ensures.file c.right.ensures c.answer_of_ground.ensures.sent) c.sent-answer.ensures

pub returns-in_err-take-clause-why : goal.returns-in_err-take-clause-why
returns-in_err-take-clause-why g c =
    grounds.memory_why c.from_residual-in_err-take.result _ _ c.args.own.now c.args.page c.from_residual-in_err-take.ensures.1 (grounds.ground_lacks c.self.inside.ops c.args.own.now c.args.page c.args.what c.ask.new.buf.bytes c.sent-question.result c.requires.may c.ask.ensures.sent c.sent-question.ensures c.read_for.new.scratch c.answer_of_ground.new.buf.bytes c.sent-answer.result (grounds.answer_of_own c.self.inside.ops c.args.own.now c.args.page c.args.what c.read_for.new.scratch c.answer_of_ground.new.buf.bytes c.file.result c.right.result c.file.ensures.file c.right.ensures c.answer_of_ground.ensures.sent) c.sent-answer.ensures c.in_err-take.ensures.memory)

pub returns-in_err-take-clause-ground_left : goal.returns-in_err-take-clause-ground_left
returns-in_err-take-clause-ground_left g c =
    on-err c.from_residual-in_err-take.result _ (grounds.ground_same c.self.inside.ops c.args.own.now c.args.page c.args.what c.ask.new.buf.bytes c.sent-question.result c.requires.may c.ask.ensures.sent c.sent-question.ensures c.read_for.new.scratch c.answer_of_ground.new.buf.bytes c.sent-answer.result (grounds.answer_of_own c.self.inside.ops c.args.own.now c.args.page c.args.what c.read_for.new.scratch c.answer_of_ground.new.buf.bytes c.file.result c.right.result c.file.ensures.file c.right.ensures c.answer_of_ground.ensures.sent) c.sent-answer.ensures _ _ _ c.in_ok-read_for.ensures.pages c.in_ok-write_for.ensures.ok c.in_err-take.ensures.memory)

pub returns-in_err-take-clause-call : goal.returns-in_err-take-clause-call
returns-in_err-take-clause-call g c =
    grounds.asked_once c.self.inside.ops c.args.own.now c.args.page c.args.what c.ask.new.buf.bytes c.sent-question.result c.requires.may c.ask.ensures.sent c.sent-question.ensures _ _ _ c.in_ok-read_for.ensures.call c.in_ok-read_for.ensures.idle c.in_ok-write_for.ensures.call c.in_ok-write_for.ensures.idle

pub returns-clause-own : goal.returns-clause-own
returns-clause-own g c =
    grounds.ground_answered c.self.inside.ops c.args.own.now c.args.page c.args.what c.ask.new.buf.bytes c.sent-question.result c.requires.may c.ask.ensures.sent c.sent-question.ensures c.read_for.new.scratch c.answer_of_ground.new.buf.bytes c.sent-answer.result (grounds.answer_of_own c.self.inside.ops c.args.own.now c.args.page c.args.what c.read_for.new.scratch c.answer_of_ground.new.buf.bytes c.file.result c.right.result c.file.ensures.file c.right.ensures c.answer_of_ground.ensures.sent) c.sent-answer.ensures _ c.take.new.self _ _ c.in_ok-read_for.ensures.size c.in_ok-read_for.ensures.ok c.in_ok-take.ensures.ok

pub returns-clause-ground : goal.returns-clause-ground
returns-clause-ground g c =
    grounds.asked_given c.self.inside.ops c.args.own.now c.args.page c.args.what c.ask.new.buf.bytes c.sent-question.result c.requires.may c.ask.ensures.sent c.sent-question.ensures _ _ _ c.in_ok-read_for.ensures.pages c.in_ok-write_for.ensures.ok

pub returns-clause-call : goal.returns-clause-call
returns-clause-call g c =
    grounds.asked_once c.self.inside.ops c.args.own.now c.args.page c.args.what c.ask.new.buf.bytes c.sent-question.result c.requires.may c.ask.ensures.sent c.sent-question.ensures _ _ _ c.in_ok-read_for.ensures.call c.in_ok-read_for.ensures.idle c.in_ok-write_for.ensures.call c.in_ok-write_for.ensures.idle

pub returns-in_err-take-clause-calm : goal.returns-in_err-take-clause-calm
returns-in_err-take-clause-calm g c =
    grounds.unless_memory c.from_residual-in_err-take.result _ c.from_residual-in_err-take.ensures.1 (grounds.asked_calm c.self.inside.ops c.args.own.now c.args.page c.args.what c.ask.new.buf.bytes c.sent-question.result c.requires.may c.ask.ensures.sent c.sent-question.ensures _ _ _ c.in_ok-read_for.ensures.calm c.in_ok-read_for.ensures.idle c.in_ok-write_for.ensures.calm c.in_ok-write_for.ensures.idle)

pub returns-clause-calm : goal.returns-clause-calm
returns-clause-calm g c =
    grounds.asked_calm c.self.inside.ops c.args.own.now c.args.page c.args.what c.ask.new.buf.bytes c.sent-question.result c.requires.may c.ask.ensures.sent c.sent-question.ensures _ _ _ c.in_ok-read_for.ensures.calm c.in_ok-read_for.ensures.idle c.in_ok-write_for.ensures.calm c.in_ok-write_for.ensures.idle

pub returns-in_err-write_for-clause-idle : goal.returns-in_err-write_for-clause-idle
returns-in_err-write_for-clause-idle g c =
    grounds.asked_idle c.self.inside.ops c.args.own.now c.args.page c.args.what c.ask.new.buf.bytes c.sent-question.result c.requires.may c.ask.ensures.sent c.sent-question.ensures _ _ _ c.in_ok-read_for.ensures.idle c.in_err-write_for.ensures.idle

pub returns-in_err-take-clause-idle : goal.returns-in_err-take-clause-idle
returns-in_err-take-clause-idle g c =
    grounds.asked_idle c.self.inside.ops c.args.own.now c.args.page c.args.what c.ask.new.buf.bytes c.sent-question.result c.requires.may c.ask.ensures.sent c.sent-question.ensures _ _ _ c.in_ok-read_for.ensures.idle c.in_ok-write_for.ensures.idle

pub returns-clause-idle : goal.returns-clause-idle
returns-clause-idle g c =
    grounds.asked_idle c.self.inside.ops c.args.own.now c.args.page c.args.what c.ask.new.buf.bytes c.sent-question.result c.requires.may c.ask.ensures.sent c.sent-question.ensures _ _ _ c.in_ok-read_for.ensures.idle c.in_ok-write_for.ensures.idle

pub pack-requires-clause-few : goal.pack-requires-clause-few
pack-requires-clause-few g c = frame_few _ _ _ c.ask.ensures.sent

pub pack-requires-2-clause-few : goal.pack-requires-2-clause-few
pack-requires-2-clause-few g c = frame_few _ _ _ c.answer_of_ground.ensures.sent
