use Rattle.std.proofs.Common.{ap, sym, ◌∙◌, rules, arith}
use Rattle.hist_lock.proofs.RuleLemmas.{joins, settles}
use Rattle.hist_lock.proofs.Seen.{rests_idle, met}
use Rattle.hist_lock.proofs.lock.HistLock.meet.Goals as goal

pub join_seat-requires : goal.join_seat-requires
join_seat-requires g c =
    let a = rests_idle c.seat.inside.place.me.0.stage c.seat.inside.place.me.1 (ap (λ k. k.taken) c.seat.view_is ∙ c.requires.seat.1) c.seat.invariant.1 in
    let b = rests_idle c.other.inside.place.me.0.stage c.other.inside.place.me.1 (ap (λ k. k.taken) c.other.view_is ∙ c.requires.other.1) c.other.invariant.1 in
    let next = ap (λ k. k.end) c.seat.view_is ∙ (c.requires.neighbours ∙ sym (ap (λ k. k.first) c.other.view_is)) in (
      search rules,
      search rules,
      b.1,
      omega (arith, c.self.invariant.0),
      joins g.T.Storied.entries g.T.Storied.caller g.T.Storied.fixed c.self.inside.table.shared.key c.seat.inside.place.id c.seat.inside.place.me.0 c.other.inside.place.id c.other.inside.place.me.0 a.0 b.0 c.seat.invariant.0 next c.other.invariant.0,
    )

pub load-requires : goal.load-requires
load-requires g c = (
  search rules,
  omega (arith, c.self.invariant.0),
  settles g.T.Storied.entries g.T.Storied.caller g.T.Storied.fixed c.self.inside.table.shared.key _ c.join_seat.new.seat.id c.join_seat.new.seat.me c.seat.inside.place.me.0.end c.seat.inside.place.me.0.seen c.other.inside.place.me.0.seen (ap (λ m. m.0.stage) c.join_seat.ensures.2),
)

pub returns-clause-this : goal.returns-clause-this
returns-clause-this g c = (met g.T.Storied.entries g.T.Storied.caller g.T.Storied.fixed _ _ c.args.seat.now c.args.other c.seat.inside.place.me.0 c.other.inside.place.me.0 _ c.join_seat.new.seat.me c.load.new.seat.me c.seat.view_is c.other.view_is c.requires.neighbours c.join_seat.ensures.2 c.load.ensures.2).0

pub returns-clause-that : goal.returns-clause-that
returns-clause-that g c = (met g.T.Storied.entries g.T.Storied.caller g.T.Storied.fixed _ _ c.args.seat.now c.args.other c.seat.inside.place.me.0 c.other.inside.place.me.0 _ c.join_seat.new.seat.me c.load.new.seat.me c.seat.view_is c.other.view_is c.requires.neighbours c.join_seat.ensures.2 c.load.ensures.2).1
