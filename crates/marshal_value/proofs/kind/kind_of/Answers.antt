use Rattle.std.proofs.Common.{List, Some, map, sym, ◌∙◌, ap}
use Rattle.idl_reader.specs.declared.idl.Decl.{Decl}
use Rattle.idl_reader.specs.declared.idl.Field.{Field}
use Rattle.idl_reader.specs.Tree.{TypeTree, decl_tree, idl_tree}
use Rattle.marshal_value.specs.Types.{Fields}
use Rattle.marshal_value.specs.KindView.{field_types}
use Rattle.marshal_value.specs.Decls.{find_kind}
use Rattle.marshal_value.specs.Decls as names
use Rattle.marshal_value.proofs.Fitting.{types_of_fields}
use Rattle.marshal_value.proofs.kind.kind_of.Goals as goal

pub returns-in-Some-Struct : goal.returns-in-Some-Struct
returns-in-Some-Struct c =
    ap (λ (fields : List Field). Some (Fields (field_types fields))) c.as_slice.ensures
    ∙ ap (λ (tys : List TypeTree). Some (Fields tys)) (sym (types_of_fields c.in-Some-Struct.fields))
    ∙ ap (λ (d : Decl). Some (names.kind_of (decl_tree d))) (sym c.in-Some-Struct.field-0-is)
    ∙ c.in-Some-Struct.ensures
    ∙ ap (λ (ds : List Decl). find_kind (map (λ d. decl_tree d) ds) c.as_str.result.now) c.decls.ensures.same
    ∙ ap (find_kind (idl_tree c.args.set.now.idl)) c.as_str.ensures
