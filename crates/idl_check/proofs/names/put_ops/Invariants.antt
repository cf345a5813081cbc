use Rattle.std.proofs.Common.{◌≡◌, ◌++◌, drop, map}
use Rattle.std.specs.List.{flat_map}
use Rattle.idl_check.specs.Names.{op_types}
use Rattle.idl_reader.specs.Tree.{op_tree}
use Rattle.idl_check.proofs.names.put_ops.Given as goal

abbrev pub invariant-loop-op : goal.invariant-loop-op
invariant-loop-op l = map (λ word. word.now) l.out.items ++ flat_map (λ op. op_types op) (map (λ op. op_tree op) (drop l.op-index l.ops)) ≡ map (λ word. word.now) l.fn.out.items ++ flat_map (λ op. op_types op) (map (λ op. op_tree op) l.ops)
