use Rattle.std.proofs.Common.{ap, ◌∙◌, rules, arith}
use Rattle.hist_lock.proofs.RuleLemmas.{looks}
use Rattle.hist_lock.proofs.lock.await_turn.Goals as goal

pub load-serving-requires : goal.load-serving-requires
load-serving-requires g c =
    let same = c.loop.invariant.4 in (
      search rules,
      omega (arith, c.requires.table.1),
      looks g.T.Storied.entries g.T.Storied.caller g.T.Storied.fixed c.args.words.now.key _ c.loop.place.id c.loop.place.me c.args.ticket
          (ap (λ m. m.0.stage) same ∙ c.requires.waits),
    )
