use Rattle.std.proofs.Common.{◌≡◌, ◌++◌, drop, map}
use Rattle.idl_reader.specs.Tree.{op_tree}
use Rattle.idl_check.proofs.verdict.names_of_ops.Given as goal

abbrev pub invariant-loop-op : goal.invariant-loop-op
invariant-loop-op l = map (λ word. word.now) l.names.items ++ map (λ op. op.name) (map (λ op. op_tree op) (drop l.op-index l.ops)) ≡ map (λ op. op.name) (map (λ op. op_tree op) l.ops)
