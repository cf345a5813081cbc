use Rattle.text_words.proofs.LineLaws.{rows_joined, rows_again}
use Rattle.text_words.proofs.lines.lines_and_text.Goals as goal

pub returns-clause-split_joined : goal.returns-clause-split_joined
returns-clause-split_joined c = rows_joined

pub returns-clause-joined_split : goal.returns-clause-joined_split
returns-clause-joined_split c = rows_again
