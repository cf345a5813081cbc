use Rattle.std.proofs.Common.{◌≡◌, ◌++◌, drop, map, codes}
use Rattle.std.specs.List.{flat_map}
use Rattle.idl_reader.proofs.print.put_more_names.Given as goal

abbrev pub invariant-loop-name : goal.invariant-loop-name
invariant-loop-name l = l.out.items ++ flat_map (λ t. codes ", " ++ t) (map (λ name. name.text) (drop l.name-index l.names)) ≡ l.fn.out.items ++ flat_map (λ t. codes ", " ++ t) (map (λ name. name.text) l.names)
