use Rattle.page_messages.proofs.MeantLaws.{question_is, answer_is, order_is, reply_is}
use Rattle.page_messages.proofs.law.sent_is_what_was_meant.Goals as goal

pub returns-clause-question : goal.returns-clause-question
returns-clause-question c = question_is

pub returns-clause-answer : goal.returns-clause-answer
returns-clause-answer c = answer_is

pub returns-clause-order : goal.returns-clause-order
returns-clause-order c = order_is

pub returns-clause-reply : goal.returns-clause-reply
returns-clause-reply c = reply_is
