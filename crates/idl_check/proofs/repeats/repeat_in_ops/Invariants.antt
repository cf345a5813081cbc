use Rattle.std.proofs.Common.{◌≡◌, [], drop, map}
use Rattle.idl_check.specs.Verdict.{repeat_in_ops}
use Rattle.idl_reader.specs.Tree.{op_tree}
use Rattle.idl_check.proofs.repeats.repeat_in_ops.Given as goal

abbrev pub invariant-loop-op : goal.invariant-loop-op
invariant-loop-op l = repeat_in_ops (map (λ word. word.now) l.before.items) (map (λ op. op_tree op) (drop l.op-index l.ops)) ≡ repeat_in_ops [] (map (λ op. op_tree op) l.ops)
