-- The status of a store command that did its work.
use Rattle.std.specs.Prelude.{List, [], ◌∷◌}
use Rattle.script_meaning.specs.declared.store.StoreKey.{StoreKey}
use Rattle.spr_report.specs.declared.status.Status.{Status}
use Rattle.spr_report.specs.declared.status.Status.TheVariants.{Good, BayFault}

-- by the stores that are lost
abbrev pub done_status : List StoreKey → Status
done_status [] = Good
done_status (key ∷ lost) = BayFault
