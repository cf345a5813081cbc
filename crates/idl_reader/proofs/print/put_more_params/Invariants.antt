use Rattle.std.proofs.Common.{◌≡◌, ◌++◌, drop, map, codes}
use Rattle.std.specs.List.{flat_map}
use Rattle.idl_reader.specs.Spelling.{param_text}
use Rattle.idl_reader.specs.Tree.{param_tree}
use Rattle.idl_reader.proofs.print.put_more_params.Given as goal

abbrev pub invariant-loop-param : goal.invariant-loop-param
invariant-loop-param l = l.out.items ++ flat_map (λ t. codes ", " ++ t) (map (λ param. param_text param) (map (λ param. param_tree param) (drop l.param-index l.params))) ≡ l.fn.out.items ++ flat_map (λ t. codes ", " ++ t) (map (λ param. param_text param) (map (λ param. param_tree param) l.params))
