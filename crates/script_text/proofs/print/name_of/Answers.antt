use Rattle.std.proofs.Common.{sym, ◌∙◌}
use Rattle.std.proofs.lemmas.Bool.{ltb-true, ltb-false}
use Rattle.script_text.proofs.ClientLaws.{name_at_place, no_name}
use Rattle.script_text.proofs.print.name_of.Goals as goal

pub returns-in-Some : goal.returns-in-Some
returns-in-Some c =
    let inside = ltb-true _ _ (sym c.in-Some.ensures.lookup.0) in
    c.as_bytes.ensures.value ∙ c.as_str.ensures ∙ name_at_place c.args.clients.now c.args.number c.in-Some.client.now inside c.in-Some.ensures.lookup.1

pub returns-in-None : goal.returns-in-None
returns-in-None c = no_name c.args.clients.now c.args.number (ltb-false _ _ (sym c.in-None.ensures.lookup.0))
