use Rattle.std.proofs.Common.{map}
use Rattle.file_stores.proofs.KeyedLaws.{bare, keys-own}
use Rattle.file_stores.proofs.AloneLaws.{left-alone}
use Rattle.file_stores.proofs.ManyLaws.{left-many}
use Rattle.file_stores.proofs.opening.close_file.Goals as goal
use Rattle.file_stores.proofs.opening.close_file.Goals.{in-One, in-Many}

pub returns-clause-keys : goal.returns-clause-keys
returns-clause-keys g c = keys-own c.args.file (map (λ s. bare g.S.Store.size g.S.Store.number g.S.Store.content g.S.Store.faults s) c.match-ground.stores.items)

pub returns-clause-left : goal.returns-clause-left
returns-clause-left g c =
    elim c.match-ground.branch [
      | in-One w ↦ rw (w.stores-is, ← c.ground.view_is, w.in-One.is) (left-alone g.S.Store.size g.S.Store.number g.S.Store.content g.S.Store.faults c.args.file w.close-stores.result.items w.in-One.disk (rw w.in-One.disk-is at w.close-stores.ensures))
      | in-Many w ↦ rw (w.stores-is, ← c.ground.view_is, w.in-Many.is) (left-many g.S.Store.size g.S.Store.number g.S.Store.content g.S.Store.faults c.args.file w.close-stores-in-Many.result.items w.in-Many.mirrors (rw w.in-Many.mirrors-is at w.close-stores-in-Many.ensures))
    ]
