use Rattle.page_messages.proofs.MeantLaws.{question_up, answer_down, order_down, reply_up}
use Rattle.page_messages.proofs.law.sent_brings_its_bytes.Goals as goal

pub returns-clause-question : goal.returns-clause-question
returns-clause-question c = question_up

pub returns-clause-answer : goal.returns-clause-answer
returns-clause-answer c = answer_down

pub returns-clause-order : goal.returns-clause-order
returns-clause-order c = order_down

pub returns-clause-reply : goal.returns-clause-reply
returns-clause-reply c = reply_up
