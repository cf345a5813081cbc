use Rattle.std.proofs.Common.{rules, ◌≡◌, ◌∙◌, sym, Some, None}
use Rattle.clap.specs.Words.{first_value, found_of}
use Rattle.clap.proofs.WalkLemmas.{first_value-rows}
use Rattle.spr_run.proofs.words.named.Goals as goal

pub returns-in_ok-of-in-Some-clause-ok : goal.returns-in_ok-of-in-Some-clause-ok
returns-in_ok-of-in-Some-clause-ok c =
    let is : first_value (found_of c.args.found.now) c.args.id.now ≡ Some c.in_ok-of-in-Some.field-0 = search rules in
    sym (first_value-rows (found_of c.args.found.now) c.args.id.now) ∙ is

pub returns-in-None-clause-usage : goal.returns-in-None-clause-usage
returns-in-None-clause-usage c = λ e.
    let is : first_value (found_of c.args.found.now) c.args.id.now ≡ None = search rules in
    sym (first_value-rows (found_of c.args.found.now) c.args.id.now) ∙ is
