use Rattle.std.proofs.Common.{◌≡◌, ◌++◌, drop, map}
use Rattle.idl_reader.specs.Tree.{param_tree}
use Rattle.idl_check.proofs.repeats.repeat_in_params.Given as goal

abbrev pub invariant-loop-param : goal.invariant-loop-param
invariant-loop-param l = map (λ word. word.now) l.names.items ++ map (λ param. param.name) (map (λ param. param_tree param) (drop l.param-index l.params)) ≡ map (λ param. param.name) (map (λ param. param_tree param) l.params)
