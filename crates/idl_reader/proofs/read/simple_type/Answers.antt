use Rattle.idl_reader.specs.Left.{left}
use Rattle.idl_reader.proofs.Refusals.{token_refused, no_type, found_word}
use Rattle.idl_reader.proofs.WordLaws.{word_utf8}
use Rattle.idl_reader.proofs.read.simple_type.Goals as goal

pub word_type-requires : goal.word_type-requires
word_type-requires c = word_utf8 c.in-Word.word.now (found_word c.args.rest c.in-Word.place c.in-Word.word c.in-Word.after c.in-Word.ensures)

pub returns-in_default : goal.returns-in_default
returns-in_default c =
    token_refused _ (left c.args.rest) c.refusal.result c.refusal.ensures (no_type c.first_token.result (left c.args.rest) c.first_token.ensures c.in_default.not-Word)
