use Rattle.std.proofs.Common.{rules, tests, sym, ◌∙◌, Bor}
use Rattle.std.specs.Str.{bytes_eq}
use Rattle.std.proofs.lemmas.Iterator.{YieldsList-from_slice}
use Rattle.std.proofs.lemmas.Iterator.Search.{any_from_yields_List}
use Rattle.idl_reader.specs.declared.idl.Word.{Word}
use Rattle.idl_check.proofs.Lists.{list_any-map}
use Rattle.idl_check.proofs.names.has_name.Goals as goal

pub returns : goal.returns
returns c =
    any_from_yields_List (λ (word : Bor Word). bytes_eq word.now.text c.args.name.now) _ _ _ c.any.ensures.ran (YieldsList-from_slice c.args.words.now cc) (λ x b q k. search (rules, tests))
    ∙ sym (list_any-map (λ (word : Word). bytes_eq word.text c.args.name.now) (λ (word : Bor Word). word.now) c.args.words.now)
