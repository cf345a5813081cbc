use Rattle.std.proofs.Common.{◌≡◌, Ok, Err, inr, refl, sym, ap, subst, ◌∙◌, arith}
use Rattle.link_lossy.specs.declared.refusal.LinkErr.TheVariants as errs
use Rattle.link_lossy.specs.declared.calling.TheConstants.{TRIES}
use Rattle.link_lossy.specs.Links.{LinkSeen, every_seen}
use Rattle.link_lossy.specs.Tries.{LoseAll}
use Rattle.link_lossy.specs.Forms.{request_bytes}
use Rattle.link_lossy.specs.Reading.{request_at}
use Rattle.link_lossy.specs.Carriers.{link_of}
use Rattle.link_lossy.proofs.Carrying.{link_is, lost_is}
use Rattle.link_lossy.proofs.Losing.{passed}
use Rattle.link_lossy.proofs.Requests.{request_again}
use Rattle.link_lossy.proofs.carrier.Carrier.ask.Goals as goal

pub returns-in-Some-clause-arrived : goal.returns-in-Some-clause-arrived
returns-in-Some-clause-arrived c =
    let first = link_is c.args.self.now c.self.inside.link.every c.self.inside.link.given _ c.self.view_is in
    let tells = c.in-Some.ensures in
    record {
      few = tells.0;
      mid = tells.1.0;
      lost = subst (λ (x : LinkSeen). LoseAll c.in-Some.tries x tells.1.0) first tells.1.1;
      came = tells.1.2;
      waits_now = refl;
    }

pub returns-in-Some-clause-read : goal.returns-in-Some-clause-read
returns-in-Some-clause-read c =
    let bytes : c.put_request.new.buf.bytes ≡ request_bytes c.take_number-number.result c.args.request.now = grind (arith, c.in-Ok.ensures.ok.bytes, c.new-sent.ensures.bytes) in
    (c.take_number-number.result, ap request_at bytes ∙ request_again c.take_number-number.result c.args.request.now c.in-Ok.ensures.form)

pub returns-in-None-clause-err : goal.returns-in-None-clause-err
returns-in-None-clause-err c =
    let first = link_is c.args.self.now c.self.inside.link.every c.self.inside.link.given _ c.self.view_is in
    let lost : LoseAll TRIES (link_of c.args.self.now) (every_seen c.first_arrival.new.link.every c.first_arrival.new.link.given) = subst (λ (x : LinkSeen). LoseAll TRIES x (every_seen c.first_arrival.new.link.every c.first_arrival.new.link.given)) first c.in-None.ensures in
    inr (lost_is c.args.self.now c.first_arrival.new.link.every c.first_arrival.new.link.given (Err (errs.Link c.count.result)) lost (ap (λ n. Err (errs.Link n)) c.count.ensures))

pub returns-in-Some-clause-few : goal.returns-in-Some-clause-few
returns-in-Some-clause-few c =
    let tells = c.in-Some.ensures in
    let p = passed c.in-Some.tries (every_seen c.self.inside.link.every c.self.inside.link.given) tells.1.0 tells.1.1 in
    omega (arith, p.most, tells.1.2.packets, tells.0, c.if-self-ge-MOST.false)
