use Rattle.std.proofs.Common.{◌≡◌, ℕ, ◌+◌, Bool, true, false, inl, inr, refl, sym, ap, subst, ◌∙◌, arith}
use Rattle.std.specs.Prelude.{is_err, not}
use Rattle.link_lossy.specs.declared.links.EveryLink.{EveryLink}
use Rattle.link_lossy.specs.Links.{LinkSeen, Sends, every_seen}
use Rattle.link_lossy.specs.Tries.{LoseAll}
use Rattle.link_lossy.proofs.Losing.{one_more}
use Rattle.link_lossy.proofs.carrier.reply_comes.Goals.{else-is_ok-2-via-then-is_ok-2+else-is_ok-3, else-is_ok-2-via-else-is_ok-2}
use Rattle.link_lossy.proofs.carrier.reply_comes.Goals as goal

pub loop-try-init : goal.loop-try-init
loop-try-init c =
    let mid : LinkSeen = every_seen c.args.link.now.every c.args.link.now.given in
    let last : LinkSeen = every_seen c.reply.new.self.every c.reply.new.self.given in
    let lost : is_err c.reply.result ≡ true = c.is_ok.ensures.negation ∙ ap not c.if-is_ok.false in
    let sends : Sends true mid last = subst (λ (b : Bool). Sends b mid last) lost c.reply.ensures in
    record {
      lost = λ first there earlier came. one_more c.args.tries first there last earlier (inr (mid, came, sends));
      given = omega (arith, c.reply.ensures.packets);
    }

pub loop-try-preserved : goal.loop-try-preserved
loop-try-preserved c =
    let mid : LinkSeen = every_seen c.loop-try.link.every c.loop-try.link.given in
    let there : LinkSeen = every_seen c.request.new.self.every c.request.new.self.given in
    elim c.else-is_ok-2.branch [
      | else-is_ok-2-via-then-is_ok-2+else-is_ok-3 w ↦
          let last : LinkSeen = every_seen w.reply-then-is_ok-2.new.self.every w.reply-then-is_ok-2.new.self.given in
          let came : is_err c.request.result ≡ false = c.is_ok-in-loop-try.ensures.negation ∙ ap not w.if-is_ok-2.true in
          let lost : is_err w.reply-then-is_ok-2.result ≡ true = w.is_ok-then-is_ok-2.ensures.negation ∙ ap not w.if-is_ok-3.false in
          let first_sends : Sends false mid there = subst (λ (b : Bool). Sends b mid there) came c.request.ensures in
          let then_sends : Sends true there last = subst (λ (b : Bool). Sends b there last) lost w.reply-then-is_ok-2.ensures in
          let same : w.reply-then-is_ok-2.new.self ≡ c.else-is_ok-2.link = cc (w.link-is) in
          record {
            lost = λ first before earlier came'. subst (λ (l : EveryLink). LoseAll (c.loop-try._try + 1) first (every_seen l.every l.given)) same
                (one_more c.loop-try._try first mid last (c.loop-try.invariant.lost first before earlier came') (inr (there, first_sends, then_sends)));
            given = (let g = ap (λ (l : EveryLink). l.given) same in omega (arith, g, c.request.ensures.packets, w.reply-then-is_ok-2.ensures.packets, c.loop-try.invariant.given));
          }
      | else-is_ok-2-via-else-is_ok-2 w ↦
          let lost : is_err c.request.result ≡ true = c.is_ok-in-loop-try.ensures.negation ∙ ap not w.if-is_ok-2.false in
          let sends : Sends true mid there = subst (λ (b : Bool). Sends b mid there) lost c.request.ensures in
          let same : c.request.new.self ≡ c.else-is_ok-2.link = cc (w.link-is) in
          record {
            lost = λ first before earlier came'. subst (λ (l : EveryLink). LoseAll (c.loop-try._try + 1) first (every_seen l.every l.given)) same
                (one_more c.loop-try._try first mid there (c.loop-try.invariant.lost first before earlier came') (inl sends));
            given = (let g = ap (λ (l : EveryLink). l.given) same in omega (arith, g, c.request.ensures.packets, c.loop-try.invariant.given));
          }
    ]
