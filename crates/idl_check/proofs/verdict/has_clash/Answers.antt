use Rattle.std.proofs.Common.{rules, tests, arith, map, length, sym, ◌∙◌, ap}
use Rattle.std.proofs.lemmas.List.{length-map}
use Rattle.std.proofs.lemmas.Iterator.{YieldsList-from_range}
use Rattle.std.proofs.lemmas.Iterator.Search.{any_from_yields_List}
use Rattle.idl_check.specs.Verdict.{any_below, clashes_with}
use Rattle.idl_check.proofs.verdict.has_clash.Goals as goal

pub returns : goal.returns
returns c =
    any_from_yields_List (clashes_with (map (λ row. row.items) c.args.rows.now) (map (λ row. row.items) c.args.shared.now) c.args.i) _ _ _ c.any.ensures.ran
    (YieldsList-from_range 0 (length c.args.rows.now) (length c.args.rows.now) (cc) (omega arith)) (λ x b q k. search (rules, tests))
    ∙ ap (λ n. any_below n (clashes_with (map (λ row. row.items) c.args.rows.now) (map (λ row. row.items) c.args.shared.now) c.args.i)) (sym (length-map c.args.rows.now (λ row. row.items)))
