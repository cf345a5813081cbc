use Rattle.std.proofs.Common.{◌≡◌, ◌+◌, ℕ, List, length, Bool, true, false, Some, None, Err, refl, sym, ap, subst, ◌∙◌, arith}
use Rattle.std.specs.Prelude.{not}
use Rattle.link_lossy.specs.declared.refusal.LinkErr.TheVariants as errs
use Rattle.link_lossy.specs.Forms.{reply_bytes}
use Rattle.link_lossy.specs.Reading.{reply_at}
use Rattle.link_lossy.specs.declared.serve.Served.{Served}
use Rattle.link_lossy.specs.declared.refusal.LinkErr.{LinkErr}
use Rattle.link_lossy.specs.Services.{is_memory, reply_of, result_of}
use Rattle.link_lossy.specs.Carriers.{Answers, CarrierSeen}
use Rattle.link_lossy.specs.Ends.{ServerSeen}
use Rattle.link_lossy.proofs.Carrying.{ends_back, ends_lost, has_none, has_reply, starves_is}
use Rattle.link_lossy.proofs.Replies.{reply_again}
use Rattle.link_lossy.proofs.Trying.{shown_so}
use Rattle.link_lossy.proofs.carrier.Carrier.answer.Goals as goal

pub returns-then-not-reply_comes : goal.returns-then-not-reply_comes
returns-then-not-reply_comes c = λ old arrived.
    let number = c.in-Some.number in
    let is : reply_of number c.args.asked.now.caller c.args.served.now c.args.out.now ≡ Some c.in-Some-reply_of.reply = sym c.reply_of.ensures.value ∙ c.in-Some-reply_of.is in
    let link = c.self.inside.link in
    ends_lost old c.args.self.now link.every link.given _ c.args.asked.now.tries c.reply_comes.new.link.every c.reply_comes.new.link.given c.args.served.now c.args.out.now _ c.reply_comes.result
    (has_reply number c.args.asked.now.caller c.args.served.now c.args.out.now c.in-Some-reply_of.reply is) c.self.view_is arrived c.reply_comes.ensures (let t = c.if-not-reply_comes.true in cc) (ap (λ n. Err (errs.Link n)) c.count.ensures)

pub unreachable-requires-in-None : goal.unreachable-requires-in-None
unreachable-requires-in-None c =
    let reply = c.in-Some-reply_of.reply in
    let bytes : c.reply-2.result.now ≡ reply_bytes reply = c.reply-2.ensures.bytes ∙ ap (λ (e : ServerSeen). e.reply) c.keep_reply.ensures in
    let read = ap reply_at bytes ∙ reply_again reply c.in-Some-reply_of.ensures.form in
    let answer = c.answer_of.ensures.answer reply read in
    let some = c.in-Some-reply_of.ensures.answer in
    cc (answer, some, c.in-None.is)

pub returns : goal.returns
returns c = λ old arrived.
    let number = c.in-Some.number in
    let reply = c.in-Some-reply_of.reply in
    let is : reply_of number c.args.asked.now.caller c.args.served.now c.args.out.now ≡ Some reply = sym c.reply_of.ensures.value ∙ c.in-Some-reply_of.is in
    let link = c.self.inside.link in
    let bytes : c.reply-2.result.now ≡ reply_bytes reply = c.reply-2.ensures.bytes ∙ ap (λ (e : ServerSeen). e.reply) c.keep_reply.ensures in
    let read = ap reply_at bytes ∙ reply_again reply c.in-Some-reply_of.ensures.form in
    let answer = c.answer_of.ensures.answer reply read in
    let some = c.in-Some-reply_of.ensures.answer in
    let out = c.answer_of.ensures.out reply read ∙ shown_so number c.args.asked.now.caller c.args.served.now c.args.out.now c.args.out.now reply is refl in
    ends_back old c.args.self.now link.every link.given _ c.args.asked.now.tries c.reply_comes.new.link.every c.reply_comes.new.link.given c.args.served.now c.args.out.now c.answer_of.new.out _ c.reply_comes.result
    (has_reply number c.args.asked.now.caller c.args.served.now c.args.out.now reply is) c.self.view_is arrived c.reply_comes.ensures (let t = c.if-not-reply_comes.false in cc) (cc (answer, some, c.in-Some-answer_of.is)) out

pub returns-in_default-reply_of : goal.returns-in_default-reply_of
returns-in_default-reply_of c = λ old arrived.
    let number = c.in-Some.number in
    let link = c.self.inside.link in
    let new : CarrierSeen = record { every = link.every; packets = link.given; waits = false } in
    let none : reply_of number c.args.asked.now.caller c.args.served.now c.args.out.now ≡ None = (let e = c.reply_of.ensures.value in let f = c.in_default-reply_of.is in cc) in
    let starved : is_memory c.args.served.now ≡ true = has_none number c.args.asked.now.caller c.args.served.now c.args.out.now none in
    subst (λ (b : Bool). Answers b old new c.args.served.now c.args.out.now c.args.out.now (Err errs.Memory)) (sym starved)
    (refl, starves_is old c.args.self.now link.every link.given _ c.args.asked.now.tries c.self.view_is arrived, refl)
