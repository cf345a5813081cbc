use Rattle.std.proofs.Common.{rules, tests, arith, map, length}
use Rattle.std.proofs.lemmas.Iterator.{YieldsList-from_range}
use Rattle.std.proofs.lemmas.Iterator.Search.{any_from_yields_List}
use Rattle.idl_check.specs.Verdict.{clashes_at}
use Rattle.idl_check.proofs.verdict.one_clashes.Goals as goal

pub returns : goal.returns
returns c =
    any_from_yields_List (clashes_at (map (λ row. row.items) c.args.rows.now) (map (λ row. row.items) c.args.shared.now) c.args.i c.args.k) _ _ _ c.any.ensures.ran
    (YieldsList-from_range 0 (length c.args.rows.now) (length c.args.rows.now) (cc) (omega arith)) (λ x b q k. search (rules, tests))
