use Rattle.std.proofs.Common.{◌≡◌, [], ◌∷◌, Some, rules}
use Rattle.hist_lock.proofs.RuleLemmas.{opens}
use Rattle.hist_lock.proofs.lock.HistLock.new.Goals as goal

pub new-requires : goal.new-requires
new-requires g c =
    let items : c.push_reserved.new.self.items ≡ Some c.args.value ∷ [] = search rules in
    rw items (opens g.T.Storied.entries g.T.Storied.caller g.T.Storied.fixed record { first = c.args.first; end = c.args.end; value = c.of.result } c.args.value c.len-length.result c.of.ensures c.requires c.len-length.ensures)
