use Rattle.std.proofs.Common.{arith}
use Rattle.hist_lock.proofs.RuleLemmas.{rings}
use Rattle.hist_lock.proofs.lock.ring.Goals as goal

pub fetch_add-requires : goal.fetch_add-requires
fetch_add-requires g c =
    let bell = c.requires.bell in
    let low = bell.1 in
    let is = bell.2 in
    let words = c.requires.table.1 in (
      c.requires.table.0,
      omega (arith, low, is, words),
      rings g.T.Storied.entries g.T.Storied.caller g.T.Storied.fixed c.args.words.now.key _ c.args.place.now.id c.args.place.now.me c.args.bell bell.0 low is,
    )
