use Rattle.std.proofs.Common.{rules, tests, map, sym, ◌∙◌, Bor}
use Rattle.std.proofs.lemmas.Iterator.{YieldsList-from_slice}
use Rattle.std.proofs.lemmas.Iterator.Search.{any_from_yields_List}
use Rattle.idl_reader.specs.declared.idl.Word.{Word}
use Rattle.idl_check.specs.Names.{has_name}
use Rattle.idl_check.proofs.Lists.{list_any-map}
use Rattle.idl_check.proofs.verdict.one_among.Goals as goal

pub returns : goal.returns
returns c =
    any_from_yields_List (λ (word : Bor Word). has_name word.now.text (map (λ name. name.now) c.args.names.now)) _ _ _ c.any.ensures.ran (YieldsList-from_slice c.args.words.now cc) (λ x b q k. search (rules, tests))
    ∙ sym (list_any-map (λ (word : Word). has_name word.text (map (λ name. name.now) c.args.names.now)) (λ (word : Bor Word). word.now) c.args.words.now)
