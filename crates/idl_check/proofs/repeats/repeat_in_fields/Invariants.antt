use Rattle.std.proofs.Common.{◌≡◌, ◌++◌, drop, map}
use Rattle.idl_reader.specs.Tree.{field_tree}
use Rattle.idl_check.proofs.repeats.repeat_in_fields.Given as goal

abbrev pub invariant-loop-field : goal.invariant-loop-field
invariant-loop-field l = map (λ word. word.now) l.names.items ++ map (λ field. field.name) (map (λ field. field_tree field) (drop l.field-index l.fields)) ≡ map (λ field. field.name) (map (λ field. field_tree field) l.fields)
