use Rattle.std.proofs.Common.{ap, ◌∙◌, rules, arith}
use Rattle.hist_lock.proofs.RuleLemmas.{draws}
use Rattle.hist_lock.proofs.lock.draw.Goals as goal

pub compare_exchange-found-requires : goal.compare_exchange-found-requires
compare_exchange-found-requires g c =
    let same = c.loop.invariant.4 in
    let lt = c.requires.idle.1 in (
      search rules,
      omega (arith, c.requires.table.1),
      draws g.T.Storied.entries g.T.Storied.caller g.T.Storied.fixed c.args.words.now.key _ c.loop.place.id c.loop.place.me c.loop.guess
          (ap (λ m. m.0.stage) same ∙ c.requires.idle.0) (rw same lt) (omega arith),
    )
