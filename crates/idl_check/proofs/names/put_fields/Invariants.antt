use Rattle.std.proofs.Common.{◌≡◌, ◌++◌, drop, map}
use Rattle.idl_check.specs.Names.{field_types}
use Rattle.idl_reader.specs.Tree.{field_tree}
use Rattle.idl_check.proofs.names.put_fields.Given as goal

abbrev pub invariant-loop-field : goal.invariant-loop-field
invariant-loop-field l = map (λ word. word.now) l.out.items ++ field_types (map (λ field. field_tree field) (drop l.field-index l.fields)) ≡ map (λ word. word.now) l.fn.out.items ++ field_types (map (λ field. field_tree field) l.fields)
