use Rattle.std.proofs.Common.{◌≡◌, ◌++◌, drop, map}
use Rattle.std.specs.List.{flat_map}
use Rattle.idl_reader.specs.Spelling.{field_text}
use Rattle.idl_reader.specs.Tree.{field_tree}
use Rattle.idl_reader.proofs.print.put_fields.Given as goal

abbrev pub invariant-loop-field : goal.invariant-loop-field
invariant-loop-field l = l.out.items ++ flat_map (λ field. field_text field) (map (λ field. field_tree field) (drop l.field-index l.fields)) ≡ l.fn.out.items ++ flat_map (λ field. field_text field) (map (λ field. field_tree field) l.fields)
