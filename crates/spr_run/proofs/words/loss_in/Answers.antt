use Rattle.std.proofs.Common.{◌≡◌, ◌∙◌, sym, ap, Option, Some, None, Result, Ok, Err, codes, List, ℕ}
use Rattle.clap.specs.Words.{first_of, found_of, rows_of}
use Rattle.clap.proofs.WalkLemmas.{first_value-rows}
use Rattle.spr_run.specs.declared.words.WordsErr.{WordsErr}
use Rattle.spr_run.specs.declared.words.WordsErr.TheVariants.{Memory, Usage}
use Rattle.spr_run.specs.Asked.{loss_by, loss_of, number_below}
use Rattle.spr_run.proofs.words.loss_in.Goals as goal

abbrev why_of : Result (Option ℕ) WordsErr → WordsErr
why_of (Ok loss) = Memory
why_of (Err why) = why

abbrev failing : WordsErr → Result ℕ WordsErr
failing why = Err why

pub returns-in_default-clause-ok : goal.returns-in_default-clause-ok
returns-in_default-clause-ok c =
    let rows = rows_of (found_of c.args.found.now) in
    let first : first_of (codes "loss") rows ≡ None = sym (first_value-rows (found_of c.args.found.now) (codes "loss")) ∙ sym (c.in_default.ensures) in
    ap (λ (o : Option (List ℕ)). loss_of o rows) first

pub returns-in-Err-clause-usage : goal.returns-in-Err-clause-usage
returns-in-Err-clause-usage c = λ e.
    let rows = rows_of (found_of c.args.found.now) in
    let first : first_of (codes "loss") rows ≡ Some c.in-Some._given.now = sym (first_value-rows (found_of c.args.found.now) (codes "loss")) ∙ sym (c.in-Some.ensures) in
    let usage : c.numbered.result ≡ Err Usage = c.in-Err.is ∙ ap failing (ap why_of e) in
    let none : number_below 1001 (codes "loss") rows ≡ None = c.numbered.ensures.usage usage in
    ap (λ (o : Option (List ℕ)). loss_of o rows) first ∙ ap loss_by none
