use Rattle.std.proofs.Common.{◌≡◌, ◌++◌, drop, map}
use Rattle.std.specs.List.{flat_map}
use Rattle.idl_check.specs.Names.{type_names}
use Rattle.idl_reader.specs.Tree.{param_tree}
use Rattle.idl_check.proofs.names.put_params.Given as goal

abbrev pub invariant-loop-param : goal.invariant-loop-param
invariant-loop-param l = map (λ word. word.now) l.out.items ++ flat_map (λ param. type_names param.ty) (map (λ param. param_tree param) (drop l.param-index l.params)) ≡ map (λ word. word.now) l.fn.out.items ++ flat_map (λ param. type_names param.ty) (map (λ param. param_tree param) l.params)
