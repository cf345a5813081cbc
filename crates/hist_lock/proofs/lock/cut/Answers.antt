use Rattle.std.proofs.Common.{◌<◌, arith}
use Rattle.hist_lock.proofs.RuleLemmas.{cuts}
use Rattle.hist_lock.proofs.lock.cut.Goals as goal

pub split_seat-requires : goal.split_seat-requires
split_seat-requires g c =
    let lo : c.args.place.now.me.0.first < g.C.Limit.at = omega (arith, c.requires.limit, c.requires.idle.1) in
    let hi : g.C.Limit.at < c.args.place.now.me.0.end = omega (arith, c.requires.limit, c.requires.idle.2) in (
      c.requires.table.0,
      omega (arith, c.requires.table.1),
      cuts g.T.Storied.entries g.T.Storied.caller g.T.Storied.fixed c.args.words.now.key c.args.place.now.id c.args.place.now.me.0 g.C.Limit.at c.requires.idle.0 lo hi,
    )
