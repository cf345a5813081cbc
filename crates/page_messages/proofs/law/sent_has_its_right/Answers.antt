use Rattle.page_messages.proofs.MeantLaws.{question_right, answer_right, order_right, reply_right}
use Rattle.page_messages.proofs.law.sent_has_its_right.Goals as goal

pub returns-clause-question : goal.returns-clause-question
returns-clause-question c = question_right

pub returns-clause-answer : goal.returns-clause-answer
returns-clause-answer c = answer_right

pub returns-clause-order : goal.returns-clause-order
returns-clause-order c = order_right

pub returns-clause-reply : goal.returns-clause-reply
returns-clause-reply c = reply_right
