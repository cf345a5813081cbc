use Rattle.std.proofs.Common.{◌≡◌, ◌++◌, drop, map}
use Rattle.idl_reader.specs.Tree.{op_tree}
use Rattle.idl_tables.specs.Entries.{operation}
use Rattle.idl_tables.specs.Tables.{Operation}
use Rattle.idl_tables.proofs.entries.put_ops.Given as goal

abbrev pub invariant-loop-op : goal.invariant-loop-op
invariant-loop-op l = map (λ e. operation e) l.out.items ++ map (λ word. let op : Operation = record { name = word.text; declarer = l.declarer.text } in op) (map (λ op. op.name) (map (λ op. op_tree op) (drop l.op-index l.ops))) ≡ map (λ e. operation e) l.fn.out.items ++ map (λ word. let op : Operation = record { name = word.text; declarer = l.declarer.text } in op) (map (λ op. op.name) (map (λ op. op_tree op) l.ops))
