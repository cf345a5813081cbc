use Rattle.std.proofs.Common.{map}
use Rattle.text_words.specs.Lines.{row_of}
use Rattle.text_words.proofs.LineLaws.{words_found, words_only}
use Rattle.text_words.proofs.lines.words_of.Goals as goal

pub returns-clause-found : goal.returns-clause-found
returns-clause-found c = words_found (λ words. map (λ word. word.now) words.items) (row_of c.args.line) c.checked_words.result c.checked_words.ensures

pub returns-clause-only : goal.returns-clause-only
returns-clause-only c = words_only (λ words. map (λ word. word.now) words.items) (row_of c.args.line) c.checked_words.result c.checked_words.ensures
