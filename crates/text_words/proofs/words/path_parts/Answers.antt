use Rattle.text_words.proofs.WordLaws.{not_utf8}
use Rattle.text_words.proofs.words.path_parts.Goals as goal

pub returns-in_default : goal.returns-in_default
returns-in_default c = not_utf8 c.args.word.now c.in_default.ensures.cases.0
