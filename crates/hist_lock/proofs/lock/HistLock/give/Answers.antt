use Rattle.std.proofs.Common.{rules, arith}
use Rattle.hist_lock.proofs.RuleLemmas.{passes}
use Rattle.hist_lock.proofs.Seen.{may_pass}
use Rattle.hist_lock.proofs.lock.HistLock.give.Goals as goal

pub fetch_add-served-requires : goal.fetch_add-served-requires
fetch_add-served-requires g c =
    let m = may_pass g.T.Storied.entries g.T.Storied.caller g.T.Storied.fixed _ c.args.seat.now c.seat.inside.place.me.0 c.seat.inside.place.me.1 c.note.new.place.me c.exchange.new.seat.me c.args.value c.args.self.now.part c.seat.view_is c.requires.seat.1 c.seat.invariant.1 c.requires.seat.0.1 c.requires.part c.note.ensures.noted c.exchange.ensures.3 in (
      search rules,
      omega (arith, c.self.invariant.0),
      passes g.T.Storied.entries g.T.Storied.caller g.T.Storied.fixed c.self.inside.table.shared.key _ c.exchange.new.seat.id c.exchange.new.seat.me m.0 c.args.value m.1 m.2 m.3 m.4,
    )
