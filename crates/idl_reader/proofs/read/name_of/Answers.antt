use Rattle.std.proofs.Common.{◌≡◌, ℕ, List, false, Ok, sym, ap, ◌∙◌}
use Rattle.idl_reader.specs.Words.{is_reserved}
use Rattle.idl_reader.specs.Left.{left}
use Rattle.idl_reader.specs.Reading.{name_at}
use Rattle.idl_reader.proofs.Refusals.{token_refused, no_name, found_word}
use Rattle.idl_reader.proofs.WordLaws.{word_utf8}
use Rattle.idl_reader.proofs.read.name_of.Goals as goal

pub returns-in_ok-text-in-Word : goal.returns-in_ok-text-in-Word
unfolding name_at
returns-in_ok-text-in-Word c =
    let rest = c.args.rest in
    let is = found_word rest c.in-Word.place c.in-Word.word c.in-Word.after c.in-Word.ensures in
    let text = c.in_ok-text-in-Word.ensures (word_utf8 c.in-Word.word.now is) in
    let word : is_reserved c.in-Word.word.now ≡ false = sym c.is_reserved.ensures ∙ c.if-is_reserved.false in
    ap name_at (sym c.in-Word.ensures) ∙ rw word (ap (λ (t : List ℕ). Ok (record { text = t; place = c.in-Word.place }, left c.in-Word.after)) (sym text))

pub returns-in_default : goal.returns-in_default
returns-in_default c =
    token_refused _ (left c.args.rest) c.refusal.result c.refusal.ensures (no_name c.first_token.result (left c.args.rest) c.first_token.ensures c.in_default.not-Word)
