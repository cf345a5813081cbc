use Rattle.std.proofs.Common.{◌≡◌, drop}
use Rattle.name_context.specs.HistoryView.{count_in}
use Rattle.name_context.proofs.history.number_of.Given as goal

abbrev pub invariant-loop-count : goal.invariant-loop-count
invariant-loop-count l = count_in (drop l.count-index l.counts) l.caller ≡ count_in l.counts l.caller
