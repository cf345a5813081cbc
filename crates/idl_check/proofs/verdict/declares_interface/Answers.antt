use Rattle.std.proofs.Common.{rules, tests, ◌&&◌, sym, ◌∙◌}
use Rattle.std.specs.Str.{bytes_eq}
use Rattle.std.proofs.lemmas.Iterator.{YieldsList-from_slice}
use Rattle.std.proofs.lemmas.Iterator.Search.{any_from_yields_List}
use Rattle.idl_reader.specs.Tree.{DeclTree, decl_tree}
use Rattle.idl_check.specs.Names.{decl_name, is_interface}
use Rattle.idl_check.proofs.Lists.{list_any-map}
use Rattle.idl_check.proofs.verdict.declares_interface.Goals as goal

pub returns : goal.returns
returns c =
    any_from_yields_List (λ d. is_interface (decl_tree d) && bytes_eq (decl_name (decl_tree d)).text c.args.word.now.text) _ _ _ c.any.ensures.ran (YieldsList-from_slice c.args.decls.now cc) (λ x b q k. search (rules, tests))
    ∙ sym (list_any-map (λ (d : DeclTree). is_interface d && bytes_eq (decl_name d).text c.args.word.now.text) (λ d. decl_tree d) c.args.decls.now)
