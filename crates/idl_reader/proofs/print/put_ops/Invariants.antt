use Rattle.std.proofs.Common.{◌≡◌, ◌++◌, drop, map}
use Rattle.std.specs.List.{flat_map}
use Rattle.idl_reader.specs.Spelling.{op_text}
use Rattle.idl_reader.specs.Tree.{op_tree}
use Rattle.idl_reader.proofs.print.put_ops.Given as goal

abbrev pub invariant-loop-op : goal.invariant-loop-op
invariant-loop-op l = l.out.items ++ flat_map (λ op. op_text op) (map (λ op. op_tree op) (drop l.op-index l.ops)) ≡ l.fn.out.items ++ flat_map (λ op. op_text op) (map (λ op. op_tree op) l.ops)
