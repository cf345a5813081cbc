use Rattle.std.proofs.Common.{◌≡◌, Bool, true, false, inl, refl, ap, subst, ◌∙◌, arith}
use Rattle.std.specs.Prelude.{is_err, not}
use Rattle.link_lossy.specs.Links.{LinkSeen, Sends, every_seen}
use Rattle.link_lossy.specs.Tries.{LoseAll}
use Rattle.link_lossy.proofs.Losing.{one_more}
use Rattle.link_lossy.proofs.carrier.first_arrival.Goals as goal

pub loop-tries-init : goal.loop-tries-init
unfolding LoseAll
loop-tries-init c = record { lost = refl; given = omega arith }

pub loop-tries-preserved : goal.loop-tries-preserved
loop-tries-preserved c =
    let first : LinkSeen = every_seen c.args.link.now.every c.args.link.now.given in
    let mid : LinkSeen = every_seen c.loop-tries.link.every c.loop-tries.link.given in
    let last : LinkSeen = every_seen c.request.new.self.every c.request.new.self.given in
    let lost : is_err c.request.result ≡ true = c.is_ok.ensures.negation ∙ ap not c.if-is_ok.false in
    let sends : Sends true mid last = subst (λ (b : Bool). Sends b mid last) lost c.request.ensures in
    record {
      lost = one_more c.loop-tries.tries first mid last c.loop-tries.invariant.lost (inl sends);
      given = omega (arith, c.request.ensures.packets, c.loop-tries.invariant.given);
    }
