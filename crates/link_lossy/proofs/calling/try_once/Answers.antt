use Rattle.std.proofs.Common.{◌≡◌, Bool, false, length, inr, Ok, sym, ap, subst, ◌∙◌}
use Rattle.std.specs.Prelude.{is_err}
use Rattle.link_lossy.specs.Reading.{reply_at}
use Rattle.link_lossy.specs.Services.{result_of}
use Rattle.link_lossy.specs.Links.{Sends}
use Rattle.link_lossy.specs.Ends.{Takes}
use Rattle.link_lossy.proofs.Holding.{holds, ok_of}
use Rattle.link_lossy.proofs.calling.try_once.Goals as goal

pub unreachable-requires : goal.unreachable-requires
unreachable-requires g c =
    let x = ok_of _ c.requires.form in
    let fed : is_err c.take.result ≡ false = cc (c.is_err-2.ensures.value, c.if-is_err-2.false) in
    let takes = subst (λ (b : Bool). Takes g.F.Serve.served x.0.0 x.0.1 (length c.args.out.now) b c.args.far.now c.take.new.self c.args.serve.now c.take.new.serve) fed (c.take.ensures x.0.0 x.0.1 x.1) in
    let h = holds g.F.Serve.served x.0.0 x.0.1 (length c.args.out.now) c.args.far.now c.take.new.self c.args.serve.now c.take.new.serve (c.requires.tried x.0.0 x.0.1 x.1) takes in
    let read : reply_at c.reply-3.result.now ≡ Ok h.1.reply.returned = ap reply_at c.reply-3.ensures.bytes ∙ h.1.reply.read in
    let answer = c.answer_of.ensures.answer h.1.reply.returned read in
    let some = sym (ap (result_of h.1.reply.returned) h.2) ∙ h.1.reply.answer in
    cc (answer, some, c.in-None.is)

pub returns : goal.returns
returns g c = λ number request e.
    let fed : is_err c.take.result ≡ false = cc (c.is_err-2.ensures.value, c.if-is_err-2.false) in
    let came : is_err c.request.result ≡ false = cc (c.is_err.ensures.value, c.if-is_err.false) in
    let went : is_err c.reply-2.result ≡ false = cc (c.is_err-3.ensures.value, c.if-is_err-3.false) in
    let takes = subst (λ (b : Bool). Takes g.F.Serve.served number request (length c.args.out.now) b c.args.far.now c.take.new.self c.args.serve.now c.take.new.serve) fed (c.take.ensures number request e) in
    let h = holds g.F.Serve.served number request (length c.args.out.now) c.args.far.now c.take.new.self c.args.serve.now c.take.new.serve (c.requires.tried number request e) takes in
    let read : reply_at c.reply-3.result.now ≡ Ok h.1.reply.returned = ap reply_at c.reply-3.ensures.bytes ∙ h.1.reply.read in
    inr (record {
      mid = g.L.Link.seen c.request.new.self;
      there = subst (λ (b : Bool). Sends b (g.L.Link.seen c.args.link.now) (g.L.Link.seen c.request.new.self)) came c.request.ensures;
      takes = takes;
      back = subst (λ (b : Bool). Sends b (g.L.Link.seen c.request.new.self) (g.L.Link.seen c.reply-2.new.self)) went c.reply-2.ensures;
      returned = h.1.reply.returned;
      read = h.1.reply.read;
      answer = sym c.in-Some.is ∙ c.answer_of.ensures.answer h.1.reply.returned read;
      out = c.answer_of.ensures.out h.1.reply.returned read;
    })
