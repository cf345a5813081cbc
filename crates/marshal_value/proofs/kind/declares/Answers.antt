use Rattle.std.proofs.Common.{◌≡◌, List, map, sym, ◌∙◌, ap}
use Rattle.idl_reader.specs.declared.idl.Decl.{Decl}
use Rattle.idl_reader.specs.Tree.{type_tree, decl_tree, idl_tree}
use Rattle.marshal_value.specs.Decls.{is_found}
use Rattle.marshal_value.proofs.Fitting.{found_named, named_found}
use Rattle.marshal_value.proofs.kind.declares.Goals as goal

pub returns : goal.returns
returns c =
    let decls = idl_tree c.args.set.now.idl in
    let ty = type_tree c.args.ty.now in
    let test : c.is_found.result ≡ is_found decls ty = c.is_found.ensures ∙ ap (λ (ds : List Decl). is_found (map (λ d. decl_tree d) ds) ty) c.decls.ensures.same in
    (λ h. found_named decls ty (sym test ∙ h), λ h. test ∙ named_found decls ty h)
