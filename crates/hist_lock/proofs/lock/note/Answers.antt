use Rattle.std.proofs.Common.{rules, arith}
use Rattle.hist_lock.proofs.RuleLemmas.{notes}
use Rattle.hist_lock.proofs.lock.note.Goals as goal

pub store-requires : goal.store-requires
store-requires g c = (
  search rules,
  omega (arith, c.requires.table.1),
  notes g.T.Storied.entries g.T.Storied.caller g.T.Storied.fixed c.args.words.now.key _ c.args.place.now.id c.args.place.now.me c.requires.holds.0 c.len.result c.args.value.now c.requires.holds.1 g.N.Telling.told c.requires.told c.requires.list c.len.ensures,
)
